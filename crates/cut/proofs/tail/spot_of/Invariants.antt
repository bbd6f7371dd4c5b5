use Prim.Native.Nat.{◌-◌, ◌≤◌}
use mathlib.Core.Path.{◌≡◌}
use lib.ListN.{length, drop}
use Rattle.escape.specs.Body.{body}
use Rattle.cut.proofs.tail.spot_of.Given as goal

abbrev pub invariant-loop-i : goal.invariant-loop-i
invariant-loop-i l = (drop (l.k - l.n) (body l.zeros (drop l.i l.unit)) ≡ drop l.k (body 0 (drop l.from l.unit))) × (l.n ≤ l.i) × (l.zeros ≤ l.i) × (l.zeros ≤ length l.unit)
