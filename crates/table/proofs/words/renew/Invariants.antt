use mathlib.Core.Path.{◌≡◌}
use Rattle.table.specs.Tables.{renewed}
use Rattle.table.proofs.words.renew.Given as goal

abbrev pub invariant-loop-j : goal.invariant-loop-j
invariant-loop-j l = l.t ≡ renewed l.id l.size l.initial.t l.j
