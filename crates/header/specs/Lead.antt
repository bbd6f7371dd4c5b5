-- The first three fields beside the sets that they name, and what the code's answer says of them.
use Rattle.std.specs.Prelude.{ℕ, List}
use Rattle.table.specs.declared.table.Table.{Table}
use Rattle.table.specs.declared.table.Sets.{Sets}
use Rattle.syntax.specs.Context.{picture_for, width_for, sequence_for}
use Rattle.header.specs.declared.lead.Led.{Led}

-- the table whose arrays were lent
abbrev pub table_of : List ℕ → List ℕ → Table
table_of sequences pictures = record { sequences = sequences; pictures = pictures }

abbrev pub table_in : Sets → Table
table_in s = table_of s.sequences.now s.pictures.now

-- first_mb_in_slice, slice_type and pic_parameter_set_id, beside the sets
abbrev pub led_of : Table → ℕ × (ℕ × ℕ) → Led
led_of t v =
    record {
      first_mb_in_slice = v.0;
      slice_type = v.1.0;
      pic_parameter_set_id = v.1.1;
      picture = picture_for t v.1.1;
      sequence = sequence_for t v.1.1;
      cycle_width = width_for t v.1.1;
    }
