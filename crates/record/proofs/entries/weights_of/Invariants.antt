use Prim.Native.Nat.{◌≤◌}
use Rattle.record.proofs.Taken.{Held}
use Rattle.record.proofs.entries.weights_of.Given as goal

abbrev pub invariant-loop-i : goal.invariant-loop-i
invariant-loop-i l = (l.used ≤ 32) × Held l.words l.entries l.i
