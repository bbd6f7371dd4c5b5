-- A field's mark, set. No public contract cites this; the laws in proofs/ carry it over to the formats.
use Rattle.std.specs.Prelude.{true}
use Rattle.bits.specs.Refusals.{Res, got, bind}
use Rattle.syntax.specs.declared.marks.Marked.{Marked}

-- what was read, with the mark set
abbrev pub marked : {A : Type 0} → Res A → Res (Marked A)
marked m = bind m (λ v e. got (record { there = true; value = v }) e)
