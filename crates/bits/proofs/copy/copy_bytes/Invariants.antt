use mathlib.Core.Path.{◌≡◌}
use lib.Seq.{paste}
use Rattle.bits.proofs.copy.copy_bytes.Given as goal

abbrev pub invariant-loop-j : goal.invariant-loop-j
invariant-loop-j l = l.dst ≡ paste l.initial.dst l.at l.src l.j
