-- Damage behind the header, shown on one unit and on a recording that holds it, by computing. Of the header's 29 bits the last five stand in a byte 00.
use Prim.Native.Nat.{ℕ}
use mathlib.Core.Path.{◌≡◌, refl, sym, subst}
use mathlib.Core.List.{List, [], ◌∷◌}
use mathlib.Core.Bool.{false}
use lib.IntN.{pos, negsuc}
use lib.ListN.{length, take, replicate}
use Rattle.bits.specs.Refusals.{refusal_at}
use Rattle.bits.specs.Bits.{digits, number_of, bytes_bits}
use Rattle.bits.specs.Codes.{fixed_at, suffix_at, code_at, ue_at, se_of}
use Rattle.bits.specs.Width.{least_from, change_cycle_width}
use Rattle.fmt.specs.Fmt.{nothing, seq, shaped, test, when, times, until}
use Rattle.fmt.specs.Leaves.{flag, u, ue, se}
use Rattle.fmt.specs.Arrays.{pad}
use Rattle.table.specs.declared.table.Table.{Table}
use Rattle.table.specs.Sets.{all, sequence_fits, picture_fits}
use Rattle.table.specs.Tables.{sequence_put, picture_put, sequence_in, picture_in, sequence_entry, picture_entry, sequence_of, picture_of, sequence_marks, sequence_words, picture_marks, picture_words}
use Rattle.syntax.specs.Marks.{number_if, signed_if, flag_if, given}
use Rattle.syntax.specs.Lists.{to_operations, operations, operations_if}
use Rattle.syntax.specs.Context.{picture_for, width_for, sequence_id_for, sequence_for, context_for}
use Rattle.syntax.specs.SliceHeader.{slice_type, picture_set_id, lead, frame, deltas, order_count, active_counts, modification, not_scalable, modifications, weight, weight_list, pred_weight_table, dec_ref_pic_marking, quantiser, filter, parts, header, read_header}
use Rattle.syntax.specs.Sample.{sample_table}
use Rattle.nal.specs.UnitType.{type_of}
use Rattle.nal.specs.Header.{forbidden_zero_bit_of, nal_ref_idc, nal_unit_type, header_from, header_of}
use Rattle.header.specs.Kinds.{kind_of}
use Rattle.escape.specs.Body.{body}
use Rattle.unit.specs.declared.answer.UnitAnswer.{UnitAnswer}
use Rattle.unit.specs.declared.answer.UnitRead.{UnitRead}
use Rattle.unit.specs.Begin.{typed, begun}
use Rattle.unit.specs.Answer.{only}
use Rattle.unit.specs.Unit.{in_body, slice_bits, unit_read}
use Rattle.walk.specs.declared.walk.Step.{Step}
use Rattle.walk.specs.Walk.{len_of, unit_at, first_from, next_unit}
use Rattle.walk.specs.Walked.{Walked, nothing as no-unit, next_step, walked}
use Rattle.promises.proofs.Sample.{sample-plain}
use Rattle.promises.specs.Demands.{body_of}
use Rattle.promises.specs.Behind.{header_bytes, more_behind, unit_from}

abbrev reads_by : Table → List ℕ → UnitRead
reads_by t s = (unit_read t s (replicate (length s) 0)).read

abbrev walks_by : Table → List ℕ → Walked
walks_by t s = (walked t s 0 (replicate (length s) 0)).walked

abbrev sound : List ℕ
sound = 0x65 ∷ 0x88 ∷ 0x82 ∷ 0x01 ∷ 0x00 ∷ 0x80 ∷ 0x03 ∷ 0x80 ∷ []

-- its 80 became 00: with the header's last byte it makes the 03 one that is dropped
abbrev changed : List ℕ
changed = 0x65 ∷ 0x88 ∷ 0x82 ∷ 0x01 ∷ 0x00 ∷ 0x00 ∷ 0x03 ∷ 0x80 ∷ []

abbrev removed : List ℕ
removed = 0x65 ∷ 0x88 ∷ 0x82 ∷ 0x01 ∷ 0x00 ∷ 0x80 ∷ []

abbrev added : List ℕ
added = 0x65 ∷ 0x88 ∷ 0x82 ∷ 0x01 ∷ 0x00 ∷ 0x00 ∷ 0x03 ∷ 0xff ∷ 0x80 ∷ 0x03 ∷ 0x80 ∷ []

-- the byte before the first that may change: the last header byte
abbrev nearer : List ℕ
nearer = 0x65 ∷ 0x88 ∷ 0x82 ∷ 0x01 ∷ 0x08 ∷ 0x80 ∷ 0x03 ∷ 0x80 ∷ []

-- of the bits behind the header only the one that follows it is set
abbrev bare : List ℕ
bare = 0x65 ∷ 0x88 ∷ 0x82 ∷ 0x01 ∷ 0x04 ∷ []

-- a header with a dropped 03 within
abbrev escaped : List ℕ
escaped = 0x65 ∷ 0x00 ∷ 0x00 ∷ 0x03 ∷ 0x03 ∷ 0xff ∷ 0xff ∷ 0xf8 ∷ 0x88 ∷ 0x4a ∷ []

-- an end mark right behind the byte after the header; and one whose first zero is the header's last byte
abbrev marked : List ℕ
marked = 0 ∷ 0 ∷ 1 ∷ 0x65 ∷ 0x88 ∷ 0x82 ∷ 0x01 ∷ 0x00 ∷ 0x80 ∷ 0 ∷ 0 ∷ 1 ∷ 0x09 ∷ 0xf0 ∷ []

abbrev cut : List ℕ
cut = 0 ∷ 0 ∷ 1 ∷ 0x65 ∷ 0x88 ∷ 0x82 ∷ 0x01 ∷ 0x00 ∷ 0 ∷ 1 ∷ 0x09 ∷ 0xf0 ∷ []

abbrev Shown : Table → Type 0
Shown t =
    -- the last header byte is the fifth; the tenth where a 03 is dropped
    ((reads_by t sound).answer ≡ UnitAnswer.Slice 29)
    × ((header_bytes 29 sound ≡ 5)
    × (((reads_by t escaped).answer ≡ UnitAnswer.Slice 61)
    × ((header_bytes 61 escaped ≡ 10)
    -- change, removal, addition
    × ((body 0 (body_of changed) ≡ 0x88 ∷ 0x82 ∷ 0x01 ∷ 0x00 ∷ 0x00 ∷ 0x80 ∷ [])
    × ((reads_by t changed ≡ reads_by t sound)
    × ((reads_by t removed ≡ reads_by t sound)
    × ((reads_by t added ≡ reads_by t sound)
    -- what the premises leave out: the last header byte changed, and no bit behind the one that follows
    × (((reads_by t sound).header.quantiser.slice_qp_delta ≡ pos 16)
    × (((reads_by t nearer).header.quantiser.slice_qp_delta ≡ negsuc 15)
    × ((more_behind 29 bare ≡ false)
    × ((reads_by t bare ≡ only (UnitAnswer.Refused (refusal_at 22 (pos 0) 29)))
    -- an end mark behind the header, and one that begins within its last byte
    × ((walks_by t marked ≡ record { step = Step.Unit 3 6 9; read = reads_by t sound })
    × ((take 8 cut ≡ take 8 marked)
    × ((more_behind 29 (unit_from cut 3) ≡ false)
    × (walks_by t cut ≡ record { step = Step.Unit 3 4 7; read = only (UnitAnswer.Refused (refusal_at 5 (pos 0) 18)) })))))))))))))))

pub torn-shown : Shown sample_table
unfolding least_from change_cycle_width all read_header header parts lead slice_type picture_set_id frame order_count deltas active_counts modifications not_scalable modification pred_weight_table weight_list weight dec_ref_pic_marking quantiser filter number_if signed_if flag_if given operations_if operations nothing seq shaped test when times until flag u ue se fixed_at suffix_at code_at ue_at se_of bytes_bits digits number_of picture_for width_for sequence_id_for sequence_for context_for sequence_fits picture_fits sequence_put picture_put sequence_in picture_in sequence_entry picture_entry sequence_of picture_of sequence_marks sequence_words picture_marks picture_words to_operations pad type_of forbidden_zero_bit_of nal_ref_idc nal_unit_type header_from header_of kind_of typed begun in_body slice_bits unit_read len_of unit_at first_from next_unit no-unit next_step walked only
torn-shown = subst Shown (sym sample-plain) (refl, (refl, (refl, (refl, (refl, (refl, (refl, (refl, (refl, (refl, (refl, (refl, (refl, (refl, (refl, refl)))))))))))))))
