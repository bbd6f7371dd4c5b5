use mathlib.Core.Path.{◌≡◌}
use Prim.Native.Nat.{◌-◌}
use lib.ListN.{drop, take}
use Rattle.walk.specs.Walk.{kept}
use Rattle.walk.proofs.search.trim.Given as goal

abbrev pub invariant-loop-i : goal.invariant-loop-i
invariant-loop-i l = kept (drop l.from l.s) ≡ kept (take (l.i - l.from) (drop l.from l.s))
