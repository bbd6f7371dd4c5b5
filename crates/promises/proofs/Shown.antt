-- Why the first exposure that begins in S is left out, and why it is the first of those that begin in S in both recordings: shown on a recording, by computing. S has three
-- pictures of a slice each. Before it stands a slice alike to its first, and an empty unit, which is refused; torn out, S stands alone.
use Prim.Native.Nat.{ℕ}
use mathlib.Core.Path.{◌≡◌, refl, sym, subst}
use mathlib.Core.List.{List, [], ◌∷◌, ◌++◌}
use mathlib.Core.Bool.{Bool, true, false}
use lib.IntN.{pos}
use lib.ListN.{length, replicate}
use Rattle.bits.specs.Bits.{digits, number_of, bytes_bits}
use Rattle.bits.specs.Codes.{fixed_at, suffix_at, code_at, ue_at, se_of}
use Rattle.bits.specs.Width.{least_from, change_cycle_width}
use Rattle.fmt.specs.Fmt.{nothing, seq, shaped, test, when, times, until}
use Rattle.fmt.specs.Leaves.{flag, u, ue, se}
use Rattle.fmt.specs.Arrays.{pad}
use Rattle.table.specs.declared.table.Table.{Table}
use Rattle.table.specs.Sets.{all, sequence_fits, picture_fits}
use Rattle.table.specs.Tables.{sequence_put, picture_put, sequence_in, picture_in, sequence_entry, picture_entry, sequence_of, picture_of, sequence_marks, sequence_words, picture_marks, picture_words}
use Rattle.syntax.specs.Marks.{number_if, signed_if, flag_if, given}
use Rattle.syntax.specs.Lists.{to_operations, operations, operations_if}
use Rattle.syntax.specs.Context.{picture_for, width_for, sequence_id_for, sequence_for, context_for}
use Rattle.syntax.specs.SliceHeader.{slice_type, picture_set_id, lead, frame, deltas, order_count, active_counts, modification, not_scalable, modifications, weight, weight_list, pred_weight_table, dec_ref_pic_marking, quantiser, filter, parts, header, read_header}
use Rattle.syntax.specs.Sample.{sample_table}
use Rattle.nal.specs.UnitType.{type_of}
use Rattle.nal.specs.Header.{forbidden_zero_bit_of, nal_ref_idc, nal_unit_type, header_from, header_of}
use Rattle.header.specs.Kinds.{kind_of}
use Rattle.unit.specs.Begin.{typed, begun}
use Rattle.unit.specs.Answer.{only}
use Rattle.unit.specs.Unit.{in_body, slice_bits, unit_read}
use Rattle.walk.specs.Walk.{len_of, unit_at, first_from, next_unit}
use Rattle.walk.specs.Walked.{nothing as no-unit, next_step, walked}
use Rattle.lines.specs.Level.{init_qp, final_qp}
use Rattle.exposures.specs.declared.exposure.Exposure.{Exposure}
use Rattle.exposures.specs.Compare.{frames, fields, references, counts0, counts1, idrs, differ, next_frame, gap_after}
use Rattle.exposures.specs.Exposure.{held, near, plus, exposure_of}
use Rattle.exposures.specs.Pictures.{exposures}
use Rattle.stacking.specs.Item.{slice_of, header_item}
use Rattle.promises.specs.Exposures.{goes_across, late_exposures, in_both}
use Rattle.promises.proofs.Sample.{sample-plain}

-- a slice and an empty unit; three slices, the first alike to that one and the second not
abbrev torn : List ℕ
torn = 0 ∷ 0 ∷ 1 ∷ 0x65 ∷ 0x88 ∷ 0x84 ∷ 0xA0 ∷ 0 ∷ 0 ∷ 1 ∷ []

abbrev sound : List ℕ
sound = 0 ∷ 0 ∷ 1 ∷ 0x65 ∷ 0x88 ∷ 0x84 ∷ 0xA0 ∷ 0 ∷ 0 ∷ 1 ∷ 0x65 ∷ 0x88 ∷ 0x82 ∷ 0x28 ∷ 0 ∷ 0 ∷ 1 ∷ 0x65 ∷ 0x88 ∷ 0x84 ∷ 0xA0 ∷ []

abbrev one_slice : ℕ → ℕ → Exposure
one_slice place refused =
    record {
      place = place;
      slices = 1;
      qp_least = pos 26;
      qp_greatest = pos 26;
      qp_sum = pos 26;
      frame_num = 0;
      gap = false;
      refused_before = refused;
    }

abbrev late : Table → List ℕ → List Exposure
late t X = late_exposures t (replicate (length (X ++ sound)) 0) (X ++ sound) (length X)

abbrev goes : Table → List ℕ → Bool
goes t X = goes_across t (replicate (length (X ++ sound)) 0) (X ++ sound) (length X)

abbrev Shown : Table → Type 0
Shown t =
    (goes t torn ≡ true)
    × ((goes t [] ≡ false)
    -- the second picture of S is the first that begins in S, and counts the empty unit; alone it counts none
    × ((late t torn ≡ one_slice 11 1 ∷ one_slice 4 0 ∷ [])
    × ((late t [] ≡ one_slice 18 0 ∷ one_slice 11 0 ∷ one_slice 4 0 ∷ [])
    -- so that with the first of each left out they are not the same; of those in both they are
    × ((in_both (late t torn) (late t []) ≡ one_slice 11 1 ∷ one_slice 4 0 ∷ [])
    × (in_both (late t []) (late t torn) ≡ one_slice 11 0 ∷ one_slice 4 0 ∷ [])))))

pub first-shown : Shown sample_table
unfolding least_from change_cycle_width all read_header header parts lead slice_type picture_set_id frame order_count deltas active_counts modifications not_scalable modification pred_weight_table weight_list weight dec_ref_pic_marking quantiser filter number_if signed_if flag_if given operations_if operations nothing seq shaped test when times until flag u ue se fixed_at suffix_at code_at ue_at se_of bytes_bits digits number_of picture_for width_for sequence_id_for sequence_for context_for sequence_fits picture_fits sequence_put picture_put sequence_in picture_in sequence_entry picture_entry sequence_of picture_of sequence_marks sequence_words picture_marks picture_words to_operations pad type_of forbidden_zero_bit_of nal_ref_idc nal_unit_type header_from header_of kind_of typed begun in_body slice_bits unit_read len_of unit_at first_from next_unit no-unit next_step walked only init_qp final_qp frames fields references counts0 counts1 idrs differ next_frame gap_after held near plus exposure_of exposures slice_of header_item
first-shown = subst Shown (sym sample-plain) (refl, (refl, (refl, (refl, (refl, refl)))))
