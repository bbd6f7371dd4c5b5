-- Reading a header into lent words: where it ends, and what is left in the words of its fields and of its lists.
use Rattle.std.specs.Prelude.{ℕ, ◌≡◌, Bool, true, false, List, [], ◌∷◌, ◌++◌, ℤ, pos, get_or, replicate}
use Rattle.std.proofs.lemmas.List.Edits.{sets}
use Rattle.std.specs.Borrow.{MutBor}
use denote.Triple.Both.{Both}
use Rattle.bits.specs.Refusals.{Res, got, no}
use Rattle.fmt.specs.Arrays.{pad}
use Rattle.syntax.specs.declared.record.Frame.{Frame}
use Rattle.syntax.specs.declared.record.OrderCount.{OrderCount}
use Rattle.syntax.specs.declared.record.ActiveCounts.{ActiveCounts}
use Rattle.syntax.specs.declared.record.Modifications.{Modifications}
use Rattle.syntax.specs.declared.record.DecRefPicMarking.{DecRefPicMarking}
use Rattle.syntax.specs.declared.record.Quantiser.{Quantiser}
use Rattle.syntax.specs.declared.record.Filter.{Filter}
use Rattle.syntax.specs.declared.record.SliceHeader.{SliceHeader}
use Rattle.lists.specs.ListsLent.{list_words, emptied_list}
use Rattle.weights.specs.declared.weight_words.WeightsShort.{WeightsShort}
use Rattle.weights.specs.WeightsLent.{weight_words, weights_short, emptied_weights}
use Rattle.header.specs.declared.stages.MarkingFlags.{MarkingFlags}
use Rattle.header.specs.declared.slice.Lists.{Lists}
use Rattle.header.specs.declared.slice.Marks.{Marks}
use Rattle.header.specs.declared.slice.Words.{Words}
use Rattle.std.specs.Prelude.{Result, Ok, Err}
use Rattle.syntax.specs.declared.marks.Marked.{Marked}
use Rattle.bits.specs.declared.read.Cursor.{Cursor}
use Rattle.bits.specs.declared.refusals.Refusal.{Refusal}

-- what the code hands on of the parts with lists: of each list the count

abbrev pub lists_of : Modifications → Lists
lists_of m = record { flag0 = m.l0.flag; count0 = m.l0.operations.count; flag1 = m.l1.flag; count1 = m.l1.operations.count }

abbrev pub flags_of : DecRefPicMarking → MarkingFlags
flags_of d =
    record {
      no_output_of_prior_pics_flag = d.no_output_of_prior_pics_flag;
      long_term_reference_flag = d.long_term_reference_flag;
      adaptive_ref_pic_marking_mode_flag = d.adaptive_ref_pic_marking_mode_flag;
    }

abbrev pub marks_of : DecRefPicMarking → Marks
marks_of d = record { flags = flags_of d; count = d.operations.count }

-- ---- the fields as words, in order: a mark and a value for what may be absent; marks and flags are 0 and 1

abbrev pub bit : Bool → ℕ
bit true = 1
bit false = 0

abbrev pub number_words : (Marked ℕ) → List ℕ
number_words m = bit m.there ∷ m.value ∷ []

abbrev pub flag_words : (Marked Bool) → List ℕ
flag_words m = bit m.there ∷ bit m.value ∷ []

-- of each part its numbers, flags, and the marks of signed numbers

abbrev pub frame_numbers : Frame → List ℕ
frame_numbers f = number_words f.colour_plane_id ++ (f.frame_num ∷ (flag_words f.field_pic_flag ++ (flag_words f.bottom_field_flag ++ number_words f.idr_pic_id)))

abbrev pub order_numbers : OrderCount → List ℕ
order_numbers o = number_words o.pic_order_cnt_lsb ++ (bit o.delta_pic_order_cnt_bottom.there ∷ bit o.delta_pic_order_cnt.there ∷ number_words o.redundant_pic_cnt)

abbrev pub count_numbers : ActiveCounts → List ℕ
count_numbers a =
    flag_words a.direct_spatial_mv_pred_flag
    ++ (flag_words a.num_ref_idx_active_override_flag ++ (number_words a.num_ref_idx_l0_active_minus1 ++ number_words a.num_ref_idx_l1_active_minus1))

abbrev pub list_numbers : Lists → List ℕ
list_numbers l = flag_words l.flag0 ++ (l.count0 ∷ (flag_words l.flag1 ++ (l.count1 ∷ [])))

abbrev pub weight_numbers : WeightsShort → List ℕ
weight_numbers w = bit w.there ∷ w.luma_log2_weight_denom ∷ (number_words w.chroma_log2_weight_denom ++ (w.l0 ∷ w.l1 ∷ []))

abbrev pub mark_numbers : Marks → List ℕ
mark_numbers m =
    flag_words m.flags.no_output_of_prior_pics_flag
    ++ (flag_words m.flags.long_term_reference_flag ++ (flag_words m.flags.adaptive_ref_pic_marking_mode_flag ++ (m.count ∷ [])))

abbrev pub quantiser_numbers : Quantiser → List ℕ
quantiser_numbers q = number_words q.cabac_init_idc ++ (flag_words q.sp_for_switch_flag ++ (bit q.slice_qs_delta.there ∷ []))

abbrev pub filter_numbers : Filter → List ℕ
filter_numbers f =
    number_words f.disable_deblocking_filter_idc
    ++ (bit f.slice_alpha_c0_offset_div2.there ∷ bit f.slice_beta_offset_div2.there ∷ number_words f.slice_group_change_cycle)

unfoldable pub numbers_of : SliceHeader → List ℕ
numbers_of h =
    (h.first_mb_in_slice ∷ h.slice_type ∷ h.pic_parameter_set_id ∷ h.seq_parameter_set_id ∷ [])
    ++ (frame_numbers h.frame
    ++ (order_numbers h.order_count
    ++ (count_numbers h.active_counts
    ++ (list_numbers (lists_of h.modifications)
    ++ (weight_numbers (weights_short h.pred_weight_table)
    ++ (mark_numbers (marks_of h.dec_ref_pic_marking)
    ++ (quantiser_numbers h.quantiser
    ++ filter_numbers h.filter)))))))

-- and its signed numbers

abbrev pub order_signed : OrderCount → List ℤ
order_signed o = o.delta_pic_order_cnt_bottom.value ∷ o.delta_pic_order_cnt.first ∷ o.delta_pic_order_cnt.second ∷ []

abbrev pub quantiser_signed : Quantiser → List ℤ
quantiser_signed q = q.slice_qp_delta ∷ q.slice_qs_delta.value ∷ []

abbrev pub filter_signed : Filter → List ℤ
filter_signed f = f.slice_alpha_c0_offset_div2.value ∷ f.slice_beta_offset_div2.value ∷ []

unfoldable pub signed_of : SliceHeader → List ℤ
signed_of h = order_signed h.order_count ++ (quantiser_signed h.quantiser ++ filter_signed h.filter)

-- ---- what reading says, and what it leaves in the words

unfoldable pub header_end : Res SliceHeader → Result Cursor Refusal
header_end (got h e) = Ok (record { at = e })
header_end (no r) = Err r

pub record HeaderWords : Type 0 where
  pub numbers : List ℕ
  pub signed : List ℤ
  pub l0 : List ℕ
  pub l1 : List ℕ
  pub marking : List ℕ
  pub w0 : List ℤ
  pub w1 : List ℤ

-- an array that is lent, at entry and at exit
abbrev pub Array : Type 0 → Type 0
Array A = Both (MutBor (List A)) (MutBor (List A))

-- the words in the arrays that are lent
abbrev pub header_words : Array ℕ → Array ℤ → Array ℕ → Array ℕ → Array ℕ → Array ℤ → Array ℤ → Both HeaderWords HeaderWords
header_words numbers signed l0 l1 marking w0 w1 =
    record {
      entry = record { numbers = numbers.entry.now; signed = signed.entry.now; l0 = l0.entry.now; l1 = l1.entry.now; marking = marking.entry.now; w0 = w0.entry.now; w1 = w1.entry.now };
      exit = record { numbers = numbers.exit.now; signed = signed.exit.now; l0 = l0.exit.now; l1 = l1.exit.now; marking = marking.exit.now; w0 = w0.exit.now; w1 = w1.exit.now };
    }

-- what the arrays of a struct of them hold
abbrev pub words_in : Words → HeaderWords
words_in w = record { numbers = w.numbers.now; signed = w.signed.now; l0 = w.l0.now; l1 = w.l1.now; marking = w.marking.now; w0 = w.w0.now; w1 = w.w1.now }

-- two such structs lend the same arrays
abbrev pub SameArrays : Words → Words → Type 0
SameArrays a b =
    (a.numbers.ghost_name ≡ b.numbers.ghost_name)
    × (a.signed.ghost_name ≡ b.signed.ghost_name)
    × (a.l0.ghost_name ≡ b.l0.ghost_name)
    × (a.l1.ghost_name ≡ b.l1.ghost_name)
    × (a.marking.ghost_name ≡ b.marking.ghost_name)
    × (a.w0.ghost_name ≡ b.w0.ghost_name)
    × (a.w1.ghost_name ≡ b.w1.ghost_name)

-- the entries that the counts among the numbers say are in use are zeroed, and no more: nothing of a header that stood there is left behind the next one's lists
unfoldable pub emptied : HeaderWords → HeaderWords
emptied w =
    record {
      numbers = w.numbers;
      signed = w.signed;
      l0 = emptied_list (get_or w.numbers 29 0) w.l0;
      l1 = emptied_list (get_or w.numbers 32 0) w.l1;
      marking = emptied_list (get_or w.numbers 45 0) w.marking;
      w0 = emptied_weights (get_or w.numbers 37 0) w.w0;
      w1 = emptied_weights (get_or w.numbers 38 0) w.w1;
    }

-- a header in words that were `b` before: a list's entries stand at their front, and what follows them is as before
abbrev pub header_in : SliceHeader → HeaderWords → HeaderWords
header_in h b =
    record {
      numbers = numbers_of h;
      signed = signed_of h;
      l0 = sets b.l0 0 (list_words h.modifications.l0.operations);
      l1 = sets b.l1 0 (list_words h.modifications.l1.operations);
      marking = sets b.marking 0 (list_words h.dec_ref_pic_marking.operations);
      w0 = sets b.w0 0 (weight_words h.pred_weight_table.l0);
      w1 = sets b.w1 0 (weight_words h.pred_weight_table.l1);
    }

abbrev pub zeros : HeaderWords
zeros =
    record {
      numbers = replicate 57 0;
      signed = replicate 7 (pos 0);
      l0 = replicate 198 0;
      l1 = replicate 198 0;
      marking = replicate 198 0;
      w0 = replicate 256 (pos 0);
      w1 = replicate 256 (pos 0);
    }

-- zeros beside a refusal
unfoldable pub header_left : Res SliceHeader → HeaderWords → HeaderWords
header_left (got h e) b = header_in h (emptied b)
header_left (no r) b = zeros

-- ---- words that hold a header and nothing else

-- words with these fields and no list
abbrev pub listless : HeaderWords → HeaderWords
listless w =
    record {
      numbers = w.numbers;
      signed = w.signed;
      l0 = replicate 198 0;
      l1 = replicate 198 0;
      marking = replicate 198 0;
      w0 = replicate 256 (pos 0);
      w1 = replicate 256 (pos 0);
    }

-- what the counts do not say is in use is zero
unfoldable pub Tidy : HeaderWords → Type 0
Tidy w = emptied w ≡ listless w

-- a header's words, with zeros behind each list's entries
abbrev pub header_alone : SliceHeader → HeaderWords
header_alone h =
    record {
      numbers = numbers_of h;
      signed = signed_of h;
      l0 = pad 0 198 (list_words h.modifications.l0.operations);
      l1 = pad 0 198 (list_words h.modifications.l1.operations);
      marking = pad 0 198 (list_words h.dec_ref_pic_marking.operations);
      w0 = pad (pos 0) 256 (weight_words h.pred_weight_table.l0);
      w1 = pad (pos 0) 256 (weight_words h.pred_weight_table.l1);
    }
