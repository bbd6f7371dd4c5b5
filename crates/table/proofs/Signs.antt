-- Signed fields and their words: a number z from -b to 25 stands as z + b, so a word w from 0 to b + 25 stands for w - b.
use mathlib.Core.Path.{◌≡◌, refl, sym, ap, ◌∙◌}
use mathlib.Core.Bool.{Bool, true, false, cond, true≢false}
use Prim.Native.Nat.{ℕ, zero, suc, ◌+◌, ◌-◌, ◌≤◌, ◌<◌}
use native.Mathlib.Omega.{arith}
use borrow.Author.Tests.{leb-true, le-ltb, lt-leb}
use lib.Dec.{ltb}
use lib.IntN.{ℤ, pos, negsuc, neg_ℤ, nat_abs, ◌+ℤ◌, ◌-ℤ◌, +ℤ-neg_ℤ_cancel}
use lib.Signed.{mag, le_z}
use mir.Syntax.{Width, w32, w64}
use mir.Val.{SFits, to_z, of_z}
use mir.Facts.{to_z-of_z, sfits_widen}
use Rattle.table.specs.Sets.{between_z}
use Rattle.table.proofs.Tests.{both}

-- ---- as the machine hands them on

abbrev pub held : Width → ℤ → ℤ
held w z = to_z w (of_z w z)

-- a number of 32 bits, cast to 64
pub wide_fits : {z : ℤ} → SFits w32 z → SFits w64 (held w32 z)
wide_fits f = rw (to_z-of_z f) (sfits_widen {w = w32} tt f)

pub wide_is : {z : ℤ} → SFits w32 z → held w64 (held w32 z) ≡ z
wide_is f = to_z-of_z (wide_fits f) ∙ to_z-of_z f

-- ---- a word's number

mag-cond : (t : Bool) (x y m : ℕ) → x ≤ m → y ≤ m → mag (cond t (negsuc x) (pos y)) ≤ m
mag-cond true x y m h k = h
mag-cond false x y m h k = k

pub lowered-mag : (w b : ℕ) → mag (pos w -ℤ pos b) ≤ w + b
lowered-mag w zero = omega arith
lowered-mag w (suc b) = mag-cond (ltb w (suc b)) (suc b - suc w) (w - suc b) (w + suc b) (omega arith) (omega arith)

lowered_is : (w b : ℕ) → b ≤ w → pos w -ℤ pos b ≡ pos (w - b)
lowered_is w zero h = ap pos (omega arith)
lowered_is w (suc b) h = rw (le-ltb w (suc b) h)

-- a word that is too large
pub lowered-high : (w b : ℕ) → b + 25 < w → le_z (pos w -ℤ pos b) (pos 25) ≡ false
lowered-high w b h = ap (λ (z : ℤ). le_z z (pos 25)) (lowered_is w b (omega arith)) ∙ lt-leb (w - b) 25 (omega arith)

-- ---- a number's word

pub record Raised (b : ℕ) (z : ℤ) : Type 0 where
  pub word : ℕ
  pub is : z +ℤ pos b ≡ pos word
  pub most : word ≤ b + 25

pub raised : (b : ℕ) (z : ℤ) → between_z (neg_ℤ (pos b)) (pos 25) z ≡ true → Raised b z
raised b (pos n) h = record { word = n + b; is = refl; most = omega (arith, leb-true n 25 (both (le_z (neg_ℤ (pos b)) (pos n)) _ h).1) }
raised zero (negsuc n) h = absurd (true≢false (sym h))
raised (suc b) (negsuc n) h =
    let k : n ≤ b = leb-true n b (both (le_z (negsuc b) (negsuc n)) true h).0 in
    record { word = suc b - suc n; is = rw (le-ltb (suc b) (suc n) (omega arith)); most = omega arith }

-- the word's number is the number
pub raised-back : (b : ℕ) (z : ℤ) → between_z (neg_ℤ (pos b)) (pos 25) z ≡ true → pos (nat_abs (z +ℤ pos b)) -ℤ pos b ≡ z
raised-back b z h = let u = raised b z h in rw u.is (ap (λ (y : ℤ). y -ℤ pos b) (sym u.is) ∙ +ℤ-neg_ℤ_cancel z (pos b))
