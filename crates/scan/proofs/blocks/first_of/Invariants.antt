use Prim.Native.Nat.{ℕ, ◌+◌, ◌≤◌, ◌<◌}
use Rattle.scan.specs.Clear.{Spot}
use Rattle.scan.proofs.blocks.first_of.Given as goal

abbrev pub invariant-loop-k : goal.invariant-loop-k
invariant-loop-k l = (l.m ≤ l.count) × ((j : ℕ) → j < l.k → Spot l.mask l.flip l.s (l.i + j) → l.m ≤ j)
