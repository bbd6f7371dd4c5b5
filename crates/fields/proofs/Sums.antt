-- How far from zero a sum of signed numbers can be.
use Prim.Native.Nat.{ℕ, suc, ◌+◌, ◌≤◌}
use native.Mathlib.Omega.{arith}
use lib.Dec.{ltb}
use lib.IntN.{ℤ, pos, negsuc, ◌+ℤ◌, sub_ℕ}
use lib.Signed.{mag}
use Rattle.bits.proofs.Results.{cases}

mag-sub : (a b : ℕ) → mag (sub_ℕ a b) ≤ a + b
mag-sub a b = cases (ltb a b) (λ h. rw h (omega arith)) (λ h. rw h (omega arith))

pub mag-add : (a b : ℤ) → mag (a +ℤ b) ≤ mag a + mag b + 1
mag-add (pos a) (pos b) = omega arith
mag-add (pos a) (negsuc b) = omega (arith, mag-sub a (suc b))
mag-add (negsuc a) (pos b) = omega (arith, mag-sub b (suc a))
mag-add (negsuc a) (negsuc b) = omega arith
