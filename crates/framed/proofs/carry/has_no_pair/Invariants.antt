use Prim.Native.Nat.{◌-◌, ◌≤◌}
use Rattle.scan.specs.Clear.{Clear}
use Rattle.framed.proofs.carry.has_no_pair.Given as goal

abbrev pub invariant-loop-i : goal.invariant-loop-i
invariant-loop-i l = (l.i ≤ l.last) × Clear 0 0 l.unit 0 l.i

abbrev pub decreases-loop-i : goal.decreases-loop-i
decreases-loop-i l = l.last - l.i
