-- The parameter table: what an entry holds, looking up, and putting (docs/RULES.md, 'Sizes').
use Rattle.std.specs.Prelude.{ℕ, zero, suc, ◌+◌, ◌*◌, ◌/◌, ◌%◌, ◌^◌, List, [], ◌∷◌, Bool, true, ◌&&◌, leb, eqb, pos, nat_abs, ◌+ℤ◌, ◌-ℤ◌, get_or, drop, set, replicate}
use Rattle.std.proofs.lemmas.List.Edits.{sets}
use Rattle.bits.specs.Refusals.{pick, refusal}
use Rattle.bits.specs.Bits.{number_of}
use Rattle.bits.specs.Width.{change_cycle_width}
use Rattle.table.specs.declared.sets.Sequence.{Sequence}
use Rattle.table.specs.declared.sets.Picture.{Picture}
use Rattle.table.specs.declared.table.Table.{Table}
use Rattle.table.specs.declared.table.WithTable.{WithTable}
use Rattle.table.specs.Sets.{between, all, sequence_fits, picture_fits}
use Rattle.std.specs.Prelude.{⊤, Result, Ok, Err, Option, Some, None}
use Rattle.bits.specs.declared.refusals.Refusal.{Refusal}

-- refusal 24: a table field out of range
abbrev pub table_field : ℕ
table_field = 24

-- ---- an entry's words: first its flags, as binary digits behind a one, which is the entry's mark; then the other fields in order, a signed one above its least
-- value

-- the digit that stands k places from the right
abbrev pub flag_in : ℕ → ℕ → Bool
flag_in k w = eqb (w / 2 ^ k % 2) 1

unfoldable pub sequence_marks : Sequence → ℕ
sequence_marks s = number_of (true ∷ s.separate_colour_plane_flag ∷ s.delta_pic_order_always_zero_flag ∷ s.frame_mbs_only_flag ∷ [])

unfoldable pub sequence_words : Sequence → List ℕ
sequence_words s =
    sequence_marks s
    ∷ s.chroma_format_idc
    ∷ s.bit_depth_luma_minus8
    ∷ s.log2_max_frame_num
    ∷ s.pic_order_cnt_type
    ∷ s.log2_max_pic_order_cnt_lsb_minus4
    ∷ s.pic_size_in_map_units
    ∷ []

unfoldable pub sequence_of : List ℕ → Sequence
sequence_of w =
    record {
      chroma_format_idc = get_or w 1 0;
      separate_colour_plane_flag = flag_in 2 (get_or w 0 0);
      bit_depth_luma_minus8 = get_or w 2 0;
      log2_max_frame_num = get_or w 3 0;
      pic_order_cnt_type = get_or w 4 0;
      log2_max_pic_order_cnt_lsb_minus4 = get_or w 5 0;
      delta_pic_order_always_zero_flag = flag_in 1 (get_or w 0 0);
      frame_mbs_only_flag = flag_in 0 (get_or w 0 0);
      pic_size_in_map_units = get_or w 6 0;
    }

unfoldable pub picture_marks : Picture → ℕ
picture_marks p =
    number_of
    (true ∷ p.entropy_coding_mode_flag ∷ p.bottom_field_pic_order_in_frame_present_flag ∷ p.weighted_pred_flag ∷ p.deblocking_filter_control_present_flag ∷ p.redundant_pic_cnt_present_flag ∷ [])

-- a picture set's last word is its change cycle's width
unfoldable pub picture_words : Picture → ℕ → List ℕ
picture_words p width =
    picture_marks p
    ∷ p.seq_parameter_set_id
    ∷ p.num_ref_idx_l0_default_active_minus1
    ∷ p.num_ref_idx_l1_default_active_minus1
    ∷ p.weighted_bipred_idc
    ∷ nat_abs (p.pic_init_qp_minus26 +ℤ pos 62)
    ∷ nat_abs (p.pic_init_qs_minus26 +ℤ pos 26)
    ∷ p.slice_group_change_rate
    ∷ width
    ∷ []

abbrev pub width_in : List ℕ → ℕ
width_in w = get_or w 8 0

unfoldable pub picture_of : List ℕ → Picture
picture_of w =
    record {
      seq_parameter_set_id = get_or w 1 0;
      entropy_coding_mode_flag = flag_in 4 (get_or w 0 0);
      bottom_field_pic_order_in_frame_present_flag = flag_in 3 (get_or w 0 0);
      num_ref_idx_l0_default_active_minus1 = get_or w 2 0;
      num_ref_idx_l1_default_active_minus1 = get_or w 3 0;
      weighted_pred_flag = flag_in 2 (get_or w 0 0);
      weighted_bipred_idc = get_or w 4 0;
      pic_init_qp_minus26 = pos (get_or w 5 0) -ℤ pos 62;
      pic_init_qs_minus26 = pos (get_or w 6 0) -ℤ pos 26;
      deblocking_filter_control_present_flag = flag_in 1 (get_or w 0 0);
      redundant_pic_cnt_present_flag = flag_in 0 (get_or w 0 0);
      slice_group_change_rate = get_or w 7 0;
    }

-- ---- looking up: an entry holds a set where its first word is the mark and flags, no more, the set is within the ranges, and the width is at most 25; any other
-- counts as not there

abbrev pub sequence_tests : List ℕ → List Bool
sequence_tests w = between 8 15 (get_or w 0 0) ∷ sequence_fits (sequence_of w) ∷ []

unfoldable pub sequence_entry : List ℕ → Option Sequence
sequence_entry w = pick (all (sequence_tests w)) (Some (sequence_of w)) None

abbrev pub picture_tests : List ℕ → List Bool
picture_tests w = between 32 63 (get_or w 0 0) ∷ picture_fits (picture_of w) ∷ leb (width_in w) 25 ∷ []

-- what a look-up of a picture set finds: the set, beside its change cycle's width
pattern abbrev pub found_picture : Picture → ℕ → Option (Picture × ℕ)
found_picture p w = Some (p, w)

unfoldable pub picture_entry : List ℕ → Option (Picture × ℕ)
picture_entry w = pick (all (picture_tests w)) (found_picture (picture_of w) (width_in w)) None

unfoldable pub sequence_in : List ℕ → ℕ → Option Sequence
sequence_in t id = pick (leb id 31) (sequence_entry (drop (id * 7) t)) None

unfoldable pub picture_in : List ℕ → ℕ → Option (Picture × ℕ)
picture_in t id = pick (leb id 255) (picture_entry (drop (id * 9) t)) None

abbrev pub sequence_at : Table → ℕ → Option Sequence
sequence_at t id = sequence_in t.sequences id

abbrev pub picture_at : Table → ℕ → Option (Picture × ℕ)
picture_at t id = picture_in t.pictures id

-- ---- putting: the answer, and the array or table at exit

pub record Put : Type 0 where
  pub answer : Result ⊤ Refusal
  pub left : List ℕ

-- the words in place of the entry's, where all is in range; else 24 and no change
abbrev pub put_words : Bool → List ℕ → ℕ → List ℕ → Put
put_words good t at w =
    pick good (record { answer = Ok tt; left = sets t at w }) (record { answer = Err (refusal table_field (pos 0)); left = t })

unfoldable pub sequence_put : List ℕ → ℕ → Sequence → Put
sequence_put t id s = put_words (leb id 31 && sequence_fits s) t (id * 7) (sequence_words s)

-- the width of slice_group_change_cycle for a picture set with this change rate, by what is found under its sequence set's id: 0 where that is not there, or where
-- the rate is absent
abbrev pub cycle_width : Option Sequence → ℕ → ℕ
cycle_width (Some s) rate = change_cycle_width s.pic_size_in_map_units rate
cycle_width None rate = 0

unfoldable pub picture_put : List ℕ → List ℕ → ℕ → Picture → Put
picture_put s t id p =
    put_words (leb id 255 && picture_fits p) t (id * 9)
    (picture_words p (cycle_width (sequence_in s p.seq_parameter_set_id) p.slice_group_change_rate))

-- a new sequence set: entry j has its width anew, where it holds a set that names it
abbrev pub renewed_by : ℕ → ℕ → List ℕ → ℕ → Option (Picture × ℕ) → List ℕ
renewed_by id size t j (found_picture p w) =
    pick (eqb p.seq_parameter_set_id id) (set t (j * 9 + 8) (change_cycle_width size p.slice_group_change_rate)) t
renewed_by id size t j None = t

-- and so have the first n entries, one after the other
unfoldable pub renewed : ℕ → ℕ → List ℕ → ℕ → List ℕ
renewed id size t zero = t
renewed id size t (suc n) = renewed_by id size (renewed id size t n) n (picture_in (renewed id size t n) n)

-- the picture sets after a sequence set is put
unfoldable pub widths_after : List ℕ → ℕ → Sequence → List ℕ
widths_after t id s = pick (leb id 31 && sequence_fits s) (renewed id s.pic_size_in_map_units t 256) t

abbrev pub put_sequence : Table → ℕ → Sequence → WithTable
put_sequence t id s =
    record { answer = (sequence_put t.sequences id s).answer; table = record { sequences = (sequence_put t.sequences id s).left; pictures = widths_after t.pictures id s } }

abbrev pub put_picture : Table → ℕ → Picture → WithTable
put_picture t id p =
    record {
      answer = (picture_put t.sequences t.pictures id p).answer;
      table = record { sequences = t.sequences; pictures = (picture_put t.sequences t.pictures id p).left };
    }

-- the table starts empty
abbrev pub empty_table : Table
empty_table = record { sequences = replicate 224 0; pictures = replicate 2304 0 }
