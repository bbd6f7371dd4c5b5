-- Fields of one width, passed over: how far, and at which of them the bits run out. By induction on their number, so that the code can work it out.
use Prim.Native.Nat.{ℕ, zero, suc, ◌+◌, ◌-◌, ◌*◌, ◌/◌, ◌%◌, ◌≤◌, ◌<◌}
use mathlib.Core.Path.{◌≡◌, refl, sym, ap, ◌∙◌}
use mathlib.Core.List.{List}
use native.Mathlib.Omega.{arith}
use native.Mathlib.Nat.{suc-mul, div-add-mod', mod-lt, div-lt_iff_lt-mul}
use borrow.Author.Tests.{le-leb, lt-leb}
use lib.IntN.{pos}
use lib.ListN.{length, take}
use Rattle.bits.specs.Refusals.{got, no, refusal_at, ran_out}
use Rattle.bits.specs.Bits.{Bits, field, reach, bits_of}
use Rattle.bits.specs.Codes.{fixed_at}
use Rattle.bits.proofs.Slices.{length-bytes, reached-le}
use Rattle.fmt.specs.Leaves.{u}
use Rattle.fmt.specs.Reads.{found, next, passes}

-- ---- how many bits there are

pub within-bits : (l s : List ℕ) → l ≡ take reach s → length l * 8 ≡ length (bits_of s)
unfolding bits_of
within-bits l s e = rw (← e, length-bytes) (omega arith)

pub bits-le : (s : List ℕ) → length (bits_of s) ≤ 8 * reach
bits-le s = rw (← within-bits (take reach s) s refl) (omega (arith, reached-le (take reach s) s refl))

-- ---- fields of w bits

module _ (w : ℕ) (narrow : w ≤ 32) (s : Bits) where
  one_in : (at : ℕ) → at + w ≤ length s → (u w).read s at ≡ got (field at w s) (at + w)
  unfolding u fixed_at
  one_in at h = rw (le-leb w 32 narrow, le-leb _ _ h)

  one_out : (at : ℕ) → length s < at + w → (u w).read s at ≡ no (refusal_at ran_out (pos 0) at)
  unfolding u fixed_at
  one_out at h = rw (le-leb w 32 narrow, lt-leb _ _ h)

  pub ids-in : 0 < w → (n at : ℕ) → n * w ≤ length s - at → passes n (u w).read s at ≡ got tt (at + n * w)
  unfolding passes next found
  ids-in k zero at h = ap (λ (e : ℕ). got tt e) (omega arith)
  ids-in k (suc n) at h =
      let m = suc-mul n w in
      let e : at + w + n * w ≡ at + suc n * w = omega arith in
      rw (one_in at (omega arith)) (ids-in k n (at + w) (omega arith) ∙ ap (λ (e : ℕ). got tt e) e)

  -- q of them have their bits, and r bits are left
  run_out : (n q r at : ℕ) → length s - at ≡ q * w + r → r < w → q < n → passes n (u w).read s at ≡ no (refusal_at ran_out (pos 0) (at + q * w))
  unfolding passes next found
  run_out zero q r at h k l = absurd (omega arith)
  run_out (suc n) zero r at h k l =
      let e : at ≡ at + 0 * w = omega arith in
      rw (one_out at (omega arith)) (ap (λ (p : ℕ). no (refusal_at ran_out (pos 0) p)) e)
  run_out (suc n) (suc q) r at h k l =
      let m = suc-mul q w in
      let e : at + w + q * w ≡ at + suc q * w = omega arith in
      rw (one_in at (omega arith)) (run_out n q r (at + w) (omega arith) k (omega arith) ∙ ap (λ (p : ℕ). no (refusal_at ran_out (pos 0) p)) e)

  pub ids-out : 0 < w → (n at : ℕ) → length s - at < n * w → passes n (u w).read s at ≡ no (refusal_at ran_out (pos 0) (at + (length s - at) / w * w))
  ids-out k n at h =
      let left = length s - at in
      run_out n (left / w) (left % w) at (sym (div-add-mod' left w)) (mod-lt left k) ((div-lt_iff_lt-mul k).1 h)
