-- The bits of bytes as a list of Bool and as numbers say the same: `bytes_bits` against `bit_at` and `bits_at`.
use mathlib.Core.Path.{◌≡◌, refl, sym, ◌∙◌}
use mathlib.Core.List.{List, [], ◌∷◌, ◌++◌}
use mathlib.Core.Bool.{false}
use Prim.Native.Nat.{ℕ, zero, suc, ◌+◌, ◌-◌, ◌*◌, ◌/◌, ◌%◌, ◌^◌, ◌≤◌, ◌<◌}
use native.Mathlib.Omega.{arith}
use native.Mathlib.Decide.{dec_lt}
use native.Mathlib.Nat.{sub-zero, suc-sub-suc}
use lib.ListN.{length, get_or, take, drop, length-drop, drop_of_length-le, get_or-append}
use lib.Seq.{drop-cons, get_or-append-add, length-take-le}
use Rattle.bits.specs.Refusals.{pick}
use Rattle.bits.specs.Bits.{digits, number_of, field, bytes_bits}
use Rattle.bits.specs.Codes.{is_set}
use Rattle.bits.specs.Windows.{bit_at, bits_at}
use Rattle.bits.proofs.Digits.{length_digits}
use Rattle.bits.proofs.Slices.{length-bytes}
use Rattle.bits.proofs.Windows.{bit-lt, bit_past, bits-first}

-- one of a number's digits
pub digit_at : (n i v : ℕ) → i < n → get_or (digits n v) i false ≡ is_set (v / 2 ^ (n - suc i) % 2)
unfolding digits
digit_at zero i v h = absurd (omega arith)
digit_at (suc n) zero v h = rw (suc-sub-suc n 0, sub-zero n)
digit_at (suc n) (suc i) v h = rw (suc-sub-suc n (suc i)) (digit_at n i v (omega arith))

-- a bit of the first byte, and one of those after it
bit-first : (b : ℕ) (s : List ℕ) (i : ℕ) → i < 8 → bit_at (b ∷ s) i ≡ b / 2 ^ (8 - suc i) % 2
unfolding bit_at
bit-first b s i h =
    let q : i / 8 ≡ 0 = omega arith in
    let m : 7 - i % 8 ≡ 8 - suc i = omega arith in
    rw (q, m)

bit-later : (b : ℕ) (s : List ℕ) (i : ℕ) → bit_at (b ∷ s) (8 + i) ≡ bit_at s i
unfolding bit_at
bit-later b s i =
    let q : (8 + i) / 8 ≡ suc (i / 8) = omega arith in
    let m : (8 + i) % 8 ≡ i % 8 = omega arith in
    rw (q, m)

-- bit i of bytes, and false past their end
pub bytes-at : (s : List ℕ) (i : ℕ) → get_or (bytes_bits s) i false ≡ is_set (bit_at s i)
unfolding bytes_bits
bytes-at [] i = rw (bit_past [] i (omega arith))
bytes-at (b ∷ s) i = go (dec_lt i 8) (bytes-at s (i - 8))
  where
    go : Dec (i < 8) → get_or (bytes_bits s) (i - 8) false ≡ is_set (bit_at s (i - 8)) → get_or (digits 8 b ++ bytes_bits s) i false ≡ is_set (bit_at (b ∷ s) i)
    go (yes h) r = rw (bit-first b s i h) (get_or-append (digits 8 b) (bytes_bits s) false i (rw length_digits h) ∙ digit_at 8 i b h)
    go (no h) r =
        let e : 8 + (i - 8) ≡ i = omega arith in
        rw (← e, bit-later b s (i - 8)) (rw (length_digits 8 b) at (get_or-append-add (digits 8 b) (bytes_bits s) (i - 8) false) ∙ r)

-- what a bit adds to a number
bit-weight : (b k : ℕ) → b < 2 → pick (is_set b) k 0 ≡ b * k
bit-weight zero k h = omega arith
bit-weight (suc zero) k h = omega arith
bit-weight (suc (suc b)) k h = absurd (omega arith)

module _ (s : List ℕ) where
  -- the bits from a place on
  pub left-cons : (p : ℕ) → p < 8 * length s → drop p (bytes_bits s) ≡ is_set (bit_at s p) ∷ drop (suc p) (bytes_bits s)
  left-cons p h = rw (drop-cons (bytes_bits s) p false (rw length-bytes h), bytes-at)

  pub left-nil : (p : ℕ) → 8 * length s ≤ p → drop p (bytes_bits s) ≡ []
  left-nil p h = drop_of_length-le (bytes_bits s) {i = p} (rw length-bytes h)

  pub left-length : (p : ℕ) → length (drop p (bytes_bits s)) ≡ 8 * length s - p
  left-length p = rw (length-drop, length-bytes)

  -- the number in n bits
  pub field-bits : (p n : ℕ) → p + n ≤ 8 * length s → field p n (bytes_bits s) ≡ bits_at s p n
  unfolding number_of bits_at
  field-bits p zero h = refl
  field-bits p (suc n) h =
      let l : length (take n (drop (suc p) (bytes_bits s))) ≡ n = length-take-le n (drop (suc p) (bytes_bits s)) (rw left-length (omega arith)) in
      rw (left-cons p (omega arith), l, bit-weight (bit_at s p) (2 ^ n) (bit-lt s p), field-bits (suc p) n (omega arith)) (sym (bits-first s p n))
