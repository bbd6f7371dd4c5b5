-- What the answer of a part says whose value stands beside it, in the definitions' words.
use Rattle.std.specs.Prelude.{Result, Ok, Err}
use Rattle.bits.specs.Refusals.{Res, got, no}
use Rattle.bits.specs.declared.refusals.Refusal.{Refusal}
use Rattle.bits.specs.declared.read.Cursor.{Cursor}

abbrev pub as_end : {A : Type 0} → Result Cursor Refusal → A → Res A
as_end (Ok c) a = got a c.at
as_end (Err r) a = no r
