-- How many entries a list has: at most 32.
use Prim.Native.Nat.{ℕ, ◌≤◌}
use native.Mathlib.Omega.{arith}
use lib.Dec.{leb}
use borrow.Author.Tests.{leb-true}
use Rattle.bits.proofs.Results.{cases}
use Rattle.weights.specs.Counts.{at_most32}

pub at-most-32 : (n : ℕ) → at_most32 n ≤ 32
unfolding at_most32
at-most-32 n = cases (leb n 32) (λ t. rw t (leb-true n 32 t)) (λ t. rw t (omega arith))
