-- slice_header( ) as it stood before the table kept the change cycle's width (M-105): the width worked out for each slice, from the sets.
use Rattle.std.specs.Prelude.{eqb}
use Rattle.bits.specs.Width.{change_cycle_width}
use Rattle.fmt.specs.Fmt.{Fmt, seq, shaped}
use Rattle.table.specs.declared.table.Table.{Table}
use Rattle.syntax.specs.Context.{sequence_id_for, context_for}
use Rattle.syntax.specs.SliceHeader.{lead, parts, to_header, of_header}
use Rattle.syntax.specs.declared.context.UnitKind.{UnitKind}
use Rattle.syntax.specs.declared.context.Context.{Context}
use Rattle.syntax.specs.declared.record.SliceHeader.{SliceHeader}

abbrev pub worked_out : Context → Context
worked_out x =
    record {
      kind = x.kind;
      picture = x.picture;
      sequence = x.sequence;
      cycle_width = change_cycle_width x.sequence.pic_size_in_map_units x.picture.slice_group_change_rate;
    }

unfoldable pub header_before : Table → UnitKind → Fmt SliceHeader
header_before t n =
    shaped (to_header t) of_header (λ h. eqb h.seq_parameter_set_id (sequence_id_for t h.pic_parameter_set_id))
    (seq (lead t) (λ l. parts (worked_out (context_for t n l.1.1)) l.1.0))
