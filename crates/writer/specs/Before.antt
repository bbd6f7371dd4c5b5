-- Writing a record as it was defined before the table kept the change cycle's width (M-105): by the format that works it out.
use Rattle.std.specs.Prelude.{ℕ, List}
use Rattle.bits.specs.Put.{written}
use Rattle.table.specs.declared.table.Table.{Table}
use Rattle.syntax.specs.declared.context.UnitKind.{UnitKind}
use Rattle.syntax.specs.declared.record.SliceHeader.{SliceHeader}
use Rattle.syntax.specs.Before.{header_before}
use Rattle.writer.specs.declared.given.ExtensionGiven.{ExtensionGiven}
use Rattle.writer.specs.Given.{kind_given}
use Rattle.writer.specs.Write.{HeaderOut, untouched, out_of, sets_for}
use Rattle.std.specs.Prelude.{Result, Ok, Err}
use Rattle.bits.specs.declared.refusals.Refusal.{Refusal}
use Rattle.writer.specs.declared.sets.NamedSets.{NamedSets}

abbrev pub sets_before : Table → UnitKind → SliceHeader → List ℕ → Result NamedSets Refusal → HeaderOut
sets_before t n h out (Ok s) = out_of (written ((header_before t n).good h) ((header_before t n).bits h) out 0)
sets_before t n h out (Err r) = untouched r out

abbrev pub kind_before : Table → SliceHeader → List ℕ → Result UnitKind Refusal → HeaderOut
kind_before t h out (Ok n) = sets_before t n h out (sets_for t h.pic_parameter_set_id)
kind_before t h out (Err r) = untouched r out

unfoldable pub write_before : Table → ℕ → ExtensionGiven → SliceHeader → List ℕ → HeaderOut
write_before t first x h out = kind_before t h out (kind_given first x)
