-- How far from zero a number is, as `text::magnitude` computes it: nothing wraps on the way.
use mathlib.Core.Path.{◌≡◌, refl, sym, subst}
use mathlib.Core.Bool.{true, false}
use mathlib.Core.List.{◌++◌}
use Prim.Native.Nat.{ℕ, zero, suc, ◌+◌, ◌-◌, ◌^◌, ◌≤◌, ◌<◌}
use native.Mathlib.Omega.{arith}
use borrow.Author.Tests.{ltb-true, lt-ltb}
use lib.Dec.{T, ltb, lit<}
use lib.IntN.{ℤ, pos, negsuc, nat_abs, ◌+ℤ◌, ◌-ℤ◌}
use lib.Signed.{lt_z, non_neg}
use lib.ListN.{length}
use mir.Syntax.{w64}
use mir.Val.{Fits, SFits}
use Rattle.lines.specs.Text.{words, decimal, signed}
use Rattle.lines.proofs.Decimals.{decimal-short}

-- y is a number below zero, plus one; m is how far the number is from zero
pub record Turns (m : ℕ) (y : ℤ) : Type 0 where
  pub plus : SFits w64 y
  pub minus : SFits w64 (pos 0 -ℤ y)
  pub sign : T (non_neg (pos 0 -ℤ y))
  pub small : nat_abs (pos 0 -ℤ y) < 2 ^ 63
  pub size : nat_abs (pos 0 -ℤ y) + 1 ≡ m

pub negative : (z : ℤ) → SFits w64 z → lt_z z (pos 0) ≡ true → Turns (nat_abs z) (z +ℤ pos 1)
negative (pos n) f t = absurd (omega (arith, ltb-true n 0 t))
negative (negsuc zero) f t = record { plus = record { sfits = lit< tt }; minus = record { sfits = lit< tt }; sign = tt; small = lit< tt; size = refl }
negative (negsuc (suc k)) f t =
    let g : ltb 1 (suc (suc k)) ≡ true = lt-ltb 1 (suc (suc k)) (omega arith) in
    let e : negsuc (suc k) +ℤ pos 1 ≡ negsuc (suc (suc k) - 2) = rw g in
    subst (Turns (suc (suc k))) (sym e)
    (record { plus = record { sfits = omega (arith, f.sfits) }; minus = record { sfits = omega (arith, f.sfits) }; sign = tt; small = omega (arith, f.sfits); size = omega arith })

pub not_negative : (z : ℤ) → SFits w64 z → lt_z z (pos 0) ≡ false → T (non_neg z) × Fits w64 (nat_abs z)
not_negative (pos n) f t = (tt, record { fits = omega (arith, f.sfits) })
not_negative (negsuc n) f t = absurd (let w : ◌≡◌ {A = ℕ} 0 1 = (cc t) in omega arith)

-- ---- a number with its sign

pub signed_below : (z : ℤ) → lt_z z (pos 0) ≡ true → signed z ≡ words "-" ++ decimal (nat_abs z)
signed_below (pos n) t = absurd (omega (arith, ltb-true n 0 t))
signed_below (negsuc n) t = refl

pub signed_above : (z : ℤ) → lt_z z (pos 0) ≡ false → signed z ≡ decimal (nat_abs z)
signed_above (pos n) t = refl
signed_above (negsuc n) t = absurd (let w : ◌≡◌ {A = ℕ} 0 1 = (cc t) in omega arith)

pub signed-short : (z : ℤ) → SFits w64 z → length (signed z) ≤ 20
signed-short (pos n) f = omega (arith, decimal-short 18 n (omega (arith, f.sfits)))
signed-short (negsuc n) f = omega (arith, decimal-short 18 (suc n) (omega (arith, f.sfits)))
