-- The table after a unit, by the answer without its records.
use mathlib.Core.Path.{◌≡◌, refl, ap, ◌∙◌}
use Rattle.table.specs.declared.table.Table.{Table}
use Rattle.unit.specs.declared.answer.UnitAnswer.{UnitAnswer}
use Rattle.unit.specs.declared.answer.UnitRead.{UnitRead}
use Rattle.unit.specs.declared.into.ShortAnswer.{ShortAnswer}
use Rattle.unit.specs.Into.{short, short_answer, long_answer}
use Rattle.walk.specs.Walked.{table_after}

again : (u : UnitRead) → long_answer (short_answer u) ≡ u.answer
unfolding short_answer
again u = go u.answer
  where
    go : (a : UnitAnswer) → long_answer (short a u) ≡ a
    go (UnitAnswer.Slice n) = refl
    go UnitAnswer.«Prefix» = refl
    go (UnitAnswer.Sequence v) = refl
    go (UnitAnswer.Picture v) = refl
    go (UnitAnswer.Other id) = refl
    go (UnitAnswer.Refused r) = refl

pub long-short : (t : Table) {t' : Table} {a : ShortAnswer} (u : UnitRead) → a ≡ short_answer u → t' ≡ table_after t (long_answer a) → t' ≡ table_after t u.answer
long-short t u e k = k ∙ ap (table_after t) (ap long_answer e ∙ again u)
