use Prim.Native.Nat.{◌≤◌}
use Rattle.record.proofs.Taken.{Loaded}
use Rattle.record.proofs.entries.operations_of.Given as goal

abbrev pub invariant-loop-i : goal.invariant-loop-i
invariant-loop-i l = (l.used ≤ 66) × Loaded l.words l.codes l.first l.second l.i
