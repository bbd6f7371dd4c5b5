use Prim.Native.Nat.{◌≤◌}
use lib.ListN.{drop}
use Rattle.escape.specs.Body.{body}
use Rattle.cut.proofs.Tails.{Stored}
use Rattle.cut.proofs.tail.keep_from.Given as goal

abbrev pub invariant-loop-i : goal.invariant-loop-i
invariant-loop-i l =
    Stored (body l.z (drop l.from l.unit)) l.initial.local l.local l.n (body l.zeros (drop l.i l.unit)) × (l.n ≤ 256) × (l.zeros ≤ l.i)
