-- The sample table without the widths that its first put sets anew: there are none in an empty table. Examples are computed with this one.
use mathlib.Core.Path.{◌≡◌, ap}
use mathlib.Core.List.{List}
use Prim.Native.Nat.{ℕ}
use Rattle.table.specs.declared.table.Table.{Table}
use Rattle.table.specs.Tables.{sequence_put, put_picture, empty_table}
use Rattle.table.proofs.Renewed.{empty-widths}
use Rattle.syntax.specs.Sample.{sample_sequence, sample_picture, sample_table}

abbrev with-pictures : List ℕ → Table
with-pictures l = (put_picture (record { sequences = (sequence_put empty_table.sequences 0 sample_sequence).left; pictures = l }) 0 sample_picture).table

abbrev pub plain_table : Table
plain_table = with-pictures empty_table.pictures

pub sample-plain : sample_table ≡ plain_table
unfolding sample_table
sample-plain = ap with-pictures (empty-widths 0 sample_sequence)
