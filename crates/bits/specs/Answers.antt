-- What each answer of the code says, in the definitions' words: a value and the next place, or the refusal.
use Rattle.std.specs.Prelude.{pos, Result, Ok, Err}
use Rattle.bits.specs.Refusals.{Res, got, no, refusal}
use Rattle.bits.specs.declared.refusals.Refusal.{Refusal}
use Rattle.bits.specs.declared.read.Cursor.{Cursor}

abbrev pub Read : Type 0 → Type 0
Read A = Result (A × Cursor) Refusal

abbrev pub as_read : {A : Type 0} → Read A → Res A
as_read (Ok a) = got a.0 a.1.at
as_read (Err r) = no r

-- the refusal of an answer that is one; number 0, which the rules do not give, of one that is not
abbrev pub none : Refusal
none = refusal 0 (pos 0)

abbrev pub why : {A : Type 0} → Result A Refusal → Refusal
why (Ok a) = none
why (Err r) = r
