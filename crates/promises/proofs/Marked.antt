-- The marked examples hold, each by computing its definition.
use mathlib.Core.Path.{refl, sym, subst}
use Rattle.bits.specs.Bits.{digits, number_of, bytes_bits, bits_of}
use Rattle.bits.specs.Codes.{fixed_at, suffix_at, code_at, ue_at, se_of}
use Rattle.bits.specs.Width.{least_from, change_cycle_width}
use Rattle.fmt.specs.Fmt.{nothing, seq, shaped, test, when, times, until}
use Rattle.fmt.specs.Leaves.{flag, u, ue, se}
use Rattle.fmt.specs.Arrays.{pad}
use Rattle.table.specs.declared.table.Table.{Table}
use Rattle.table.specs.Sets.{all, sequence_fits, picture_fits}
use Rattle.table.specs.Tables.{sequence_put, picture_put, sequence_in, picture_in, sequence_entry, picture_entry, sequence_of, picture_of, sequence_marks, sequence_words, picture_marks, picture_words}
use Rattle.syntax.specs.Marks.{number_if, signed_if, flag_if, given}
use Rattle.syntax.specs.Lists.{to_operations, operations, operations_if}
use Rattle.syntax.specs.Context.{picture_for, width_for, sequence_id_for, sequence_for, context_for}
use Rattle.syntax.specs.SliceHeader.{slice_type, picture_set_id, lead, frame, deltas, order_count, active_counts, modification, not_scalable, modifications, weight, weight_list, pred_weight_table, dec_ref_pic_marking, quantiser, filter, parts, header, read_header}
use Rattle.syntax.specs.Sample.{sample_table}
use Rattle.nal.specs.UnitType.{type_of}
use Rattle.nal.specs.Header.{forbidden_zero_bit_of, nal_ref_idc, nal_unit_type, header_from, header_of}
use Rattle.header.specs.Kinds.{kind_of}
use Rattle.unit.specs.Begin.{typed, begun}
use Rattle.unit.specs.Answer.{only}
use Rattle.unit.specs.Unit.{in_body, slice_bits, unit_read}
use Rattle.walk.specs.Walk.{len_of, unit_at, first_from, next_unit}
use Rattle.walk.specs.Walked.{nothing as no-unit, next_step, walked}
use Rattle.lines.specs.Text.{decimal}
use Rattle.lines.specs.Level.{init_qp, final_qp}
use Rattle.lines.specs.Lines.{unit_line, end_line}
use Rattle.list_steps.specs.Listing.{listing}
use Rattle.promises.proofs.Sample.{sample-plain}
use Rattle.promises.specs.Marked.{All, marked}

pub marked-hold : All sample_table marked
unfolding least_from change_cycle_width all read_header header parts lead slice_type picture_set_id frame order_count deltas active_counts modifications not_scalable modification pred_weight_table weight_list weight dec_ref_pic_marking quantiser filter number_if signed_if flag_if given operations_if operations nothing seq shaped test when times until flag u ue se fixed_at suffix_at code_at ue_at se_of bits_of bytes_bits digits number_of picture_for width_for sequence_id_for sequence_for context_for sequence_fits picture_fits sequence_put picture_put sequence_in picture_in sequence_entry picture_entry sequence_of picture_of sequence_marks sequence_words picture_marks picture_words to_operations pad type_of forbidden_zero_bit_of nal_ref_idc nal_unit_type header_from header_of kind_of typed begun in_body slice_bits unit_read len_of unit_at first_from next_unit no-unit next_step walked decimal only init_qp final_qp unit_line end_line listing
marked-hold = subst (λ (t : Table). All t marked) (sym sample-plain) (refl, (refl, (refl, (refl, (refl, (refl, (refl, (refl, (refl, (refl, (refl, (refl, (refl, (refl, tt))))))))))))))
