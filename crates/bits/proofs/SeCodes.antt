-- The code number of a signed number: its bound, and the two arms in which `se_code` computes it.
use mathlib.Core.Path.{◌≡◌, refl}
use mathlib.Core.Bool.{true, false}
use Prim.Native.Nat.{ℕ, zero, suc, ◌*◌, ◌^◌, ◌-◌, ◌≤◌, ◌<◌}
use native.Mathlib.Omega.{arith}
use borrow.Author.Tests.{lt-ltb}
use lib.Dec.{T, ltb, lit<}
use lib.IntN.{ℤ, pos, negsuc, nat_abs, ◌-ℤ◌}
use lib.Signed.{lt_z, non_neg}
use mir.Syntax.{w32}
use mir.Val.{SFits, of_z}
use Rattle.bits.specs.Codes.{se_code}

pub code-small : (z : ℤ) → nat_abs z < 2 ^ 31 → se_code z < 2 ^ 32 - 1
unfolding se_code
code-small (pos zero) h = omega arith
code-small (pos (suc n)) h = omega arith
code-small (negsuc n) h = omega arith

pub record Above (z : ℤ) : Type 0 where
  pub sign : T (non_neg z)
  pub some : 1 ≤ nat_abs z
  pub number : 2 * nat_abs z - 1 ≡ se_code z

pub above : (z : ℤ) → lt_z (pos 0) z ≡ true → Above z
unfolding se_code
above (pos zero) t = let f : ◌≡◌ {A = ℕ} 0 1 = cc in absurd (omega arith)
above (pos (suc n)) t = record { sign = tt; some = omega arith; number = omega arith }
above (negsuc n) t = let f : ◌≡◌ {A = ℕ} 0 1 = cc in absurd (omega arith)

pub record Below (z : ℤ) : Type 0 where
  pub fits : SFits w32 (pos 0 -ℤ z)
  pub sign : T (non_neg (pos 0 -ℤ z))
  pub number : 2 * nat_abs (pos 0 -ℤ z) ≡ se_code z
  pub small : nat_abs (pos 0 -ℤ z) < 2 ^ 31

pub below : (z : ℤ) → lt_z (pos 0) z ≡ false → nat_abs z < 2 ^ 31 → Below z
unfolding se_code
below (pos zero) t h = record { fits = record { sfits = lit< tt }; sign = tt; number = refl; small = lit< tt }
below (pos (suc n)) t h = let g : ltb 0 (suc n) ≡ true = lt-ltb 0 (suc n) (omega arith) in let f : ◌≡◌ {A = ℕ} 0 1 = cc in absurd (omega arith)
below (negsuc n) t h = record { fits = record { sfits = omega arith }; sign = tt; number = omega arith; small = omega arith }

-- the test for the least i32, on its bits: every other number has a code
pub has_code : (z : ℤ) → SFits w32 z → (of_z w32 z ≡ 2147483648 → ⊥) → nat_abs z < 2 ^ 31
has_code (pos n) f h = f.sfits
has_code (negsuc n) f h = omega (arith, f.sfits)

pub no_code : (z : ℤ) → SFits w32 z → of_z w32 z ≡ 2147483648 → 2 ^ 31 ≤ nat_abs z
no_code (pos n) f e = omega (arith, f.sfits)
no_code (negsuc n) f e = omega (arith, f.sfits)
