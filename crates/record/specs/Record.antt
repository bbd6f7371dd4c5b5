-- The record that lent words hold, and which words a reading leaves.
use Rattle.std.specs.Prelude.{ℕ, zero, suc, Bool, true, false, ◌&&◌, List, [], ◌∷◌, leb, ℤ, pos, negsuc, get_or, drop}
use Rattle.syntax.specs.declared.record.Modifications.{Modifications}
use Rattle.syntax.specs.declared.record.PredWeightTable.{PredWeightTable}
use Rattle.syntax.specs.declared.record.DecRefPicMarking.{DecRefPicMarking}
use Rattle.syntax.specs.declared.record.SliceHeader.{SliceHeader}
use Rattle.syntax.specs.declared.record.Prefix.{Prefix}
use Rattle.lists.specs.declared.list_words.PrefixShort.{PrefixShort}
use Rattle.header.specs.Short.{HeaderWords}
use Rattle.record.specs.declared.record.HeldWords.{HeldWords}
use Rattle.record.specs.Fields.{number_in, set_in, marked_number, marked_flag, frame_from, order_count_from, active_counts_from, quantiser_from, filter_from}
use Rattle.record.specs.Entries.{operations_from, weights_from}

abbrev pub modifications_from : List ℕ → List ℕ → List ℕ → Modifications
modifications_from n l0 l1 =
    record {
      l0 = record { flag = marked_flag n 27; operations = operations_from (number_in n 29) l0 };
      l1 = record { flag = marked_flag n 30; operations = operations_from (number_in n 32) l1 };
    }

abbrev pub weight_table_from : List ℕ → List ℤ → List ℤ → PredWeightTable
weight_table_from n w0 w1 =
    record {
      there = set_in n 33;
      luma_log2_weight_denom = number_in n 34;
      chroma_log2_weight_denom = marked_number n 35;
      l0 = weights_from (number_in n 37) w0;
      l1 = weights_from (number_in n 38) w1;
    }

abbrev pub marking_from : List ℕ → List ℕ → DecRefPicMarking
marking_from n words =
    record {
      no_output_of_prior_pics_flag = marked_flag n 39;
      long_term_reference_flag = marked_flag n 41;
      adaptive_ref_pic_marking_mode_flag = marked_flag n 43;
      operations = operations_from (number_in n 45) words;
    }

-- what the arrays of a struct of references hold
abbrev pub words_held : HeldWords → HeaderWords
words_held w = record { numbers = w.numbers.now; signed = w.signed.now; l0 = w.l0.now; l1 = w.l1.now; marking = w.marking.now; w0 = w.w0.now; w1 = w.w1.now }

unfoldable pub header_from : HeaderWords → SliceHeader
header_from w =
    record {
      first_mb_in_slice = number_in w.numbers 0;
      slice_type = number_in w.numbers 1;
      pic_parameter_set_id = number_in w.numbers 2;
      seq_parameter_set_id = number_in w.numbers 3;
      frame = frame_from w.numbers;
      order_count = order_count_from w.numbers w.signed;
      active_counts = active_counts_from w.numbers;
      modifications = modifications_from w.numbers w.l0 w.l1;
      pred_weight_table = weight_table_from w.numbers w.w0 w.w1;
      dec_ref_pic_marking = marking_from w.numbers w.marking;
      quantiser = quantiser_from w.numbers w.signed;
      filter = filter_from w.numbers w.signed;
    }

unfoldable pub prefix_from : PrefixShort → List ℕ → Prefix
prefix_from p base =
    record {
      store_ref_base_pic_flag = p.store_ref_base_pic_flag;
      adaptive_ref_base_pic_marking_mode_flag = p.adaptive_ref_base_pic_marking_mode_flag;
      base_marking = operations_from p.base_markings base;
      additional_prefix_nal_unit_extension_flag = p.additional_prefix_nal_unit_extension_flag;
    }

-- ---- words that say what they say in one way: marks and flags are 0 or 1, and no count is over its list's capacity. No reading leaves others

abbrev pub within : List ℕ → ℕ → ℕ → Bool
within n most k = leb (number_in n k) most

abbrev pub withins : List ℕ → ℕ → List ℕ → Bool
withins n most [] = true
withins n most (k ∷ ks) = within n most k && withins n most ks

-- where marks and flags stand
abbrev pub flags : List ℕ
flags =
    4 ∷ 7 ∷ 8 ∷ 9 ∷ 10 ∷ 11 ∷ 13 ∷ 15 ∷ 16 ∷ 17 ∷ 19 ∷ 20 ∷ 21 ∷ 22 ∷ 23 ∷ 25 ∷ 27 ∷ 28 ∷ 30 ∷ 31 ∷ 33 ∷ 35
    ∷ 39 ∷ 40 ∷ 41 ∷ 42 ∷ 43 ∷ 44 ∷ 46 ∷ 48 ∷ 49 ∷ 50 ∷ 51 ∷ 53 ∷ 54 ∷ 55 ∷ []

unfoldable pub plain_numbers : List ℕ → Bool
plain_numbers n = withins n 1 flags && (withins n 66 (29 ∷ 32 ∷ 45 ∷ []) && withins n 32 (37 ∷ 38 ∷ []))

abbrev pub is_bit_z : ℤ → Bool
is_bit_z (pos n) = leb n 1
is_bit_z (negsuc n) = false

-- the flags of so many entries of weights
unfoldable pub plain_weights : ℕ → List ℤ → Bool
plain_weights zero words = true
plain_weights (suc n) words = is_bit_z (get_or words 0 (pos 0)) && (is_bit_z (get_or words 3 (pos 0)) && plain_weights n (drop 8 words))

unfoldable pub plain : HeaderWords → Bool
plain w =
    plain_numbers w.numbers && (plain_weights (number_in w.numbers 37) w.w0 && plain_weights (number_in w.numbers 38) w.w1)
