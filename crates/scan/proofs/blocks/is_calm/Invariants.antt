use mathlib.Core.Path.{◌≡◌}
use Prim.Native.Nat.{ℕ, ◌*◌, ◌<◌}
use lib.ListN.{length}
use Rattle.scan.specs.Clear.{Low}
use Rattle.scan.proofs.Clears.{Least}
use Rattle.scan.proofs.blocks.is_calm.Given as goal

-- the first loop: the least of k places; the second: no low pair at p of them
abbrev pub invariant-loop-k : goal.invariant-loop-k
invariant-loop-k l = (length l.t ≡ 32) × Least l.s l.i l.t l.k

abbrev pub invariant-loop-p : goal.invariant-loop-p
invariant-loop-p l = l.m ≡ 0 → (j : ℕ) → j < l.p → Low l.t (2 * j) → ⊥
