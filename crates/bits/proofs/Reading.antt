-- What each read finds in the bits of bytes, a law for each case, so that nobody need unfold `fixed_at` and `ue_at`. And that a code's value is at most 2 ^ 32 - 2.
use mathlib.Core.Path.{◌≡◌, refl, sym, ap, subst, ◌∙◌}
use mathlib.Core.List.{List, [], ◌∷◌}
use mathlib.Core.Bool.{Bool, true, false}
use Prim.Native.Nat.{ℕ, zero, suc, ◌+◌, ◌-◌, ◌*◌, ◌/◌, ◌^◌, ◌≤◌, ◌<◌}
use native.Mathlib.Omega.{arith}
use native.Mathlib.Decide.{dec_lt}
use native.Mathlib.Numerals.{add-one}
use native.Mathlib.Nat.{zero-add, add-zero, add-suc, suc-add, suc-mul}
use borrow.Author.Tests.{le-leb, lt-leb, leb-true}
use lib.Count.{count_leading_zeros}
use lib.Dec.{leb}
use lib.IntN.{pos}
use lib.ListN.{length, take, drop}
use lib.Pow.{pow_pos}
use lib.Seq.{length-take-le}
use Rattle.bits.specs.Refusals.{Res, got, no, pick, refusal_at, ran_out, too_many_zeros}
use Rattle.bits.specs.Bits.{Bits, number_of, bytes_bits, reach, bits_of}
use Rattle.bits.specs.Codes.{fixed_at, suffix_at, code_at, ue_at}
use Rattle.bits.specs.Windows.{bit_at, bits_at}
use Rattle.bits.proofs.Digits.{number_lt}
use Rattle.bits.proofs.Windows.{bit-lt, bit_past, bits-first, bits-take, bits-set, under, front, leading-set, leading-none, leading_lt, code-bits, code-range, value-lt}
use Rattle.bits.proofs.Slices.{length-bytes, take-reached}
use Rattle.bits.proofs.Bridge.{left-cons, left-nil, left-length, field-bits}

-- ---- u(n)

module _ (s : List ℕ) (p n : ℕ) where
  pub fixed_in : p + n ≤ 8 * length s → fixed_at n (bytes_bits s) p ≡ got (bits_at s p n) (p + n)
  unfolding fixed_at
  fixed_in h = rw (length-bytes, le-leb _ _ h, field-bits s p n h)

  pub fixed_out : 8 * length s < p + n → fixed_at n (bytes_bits s) p ≡ no (refusal_at ran_out (pos 0) p)
  unfolding fixed_at
  fixed_out h = rw (length-bytes, lt-leb _ _ h)

-- ---- ue(v)

module _ (s : List ℕ) where
  -- a set bit is not past the end
  inside : (i : ℕ) → bit_at s i ≡ 1 → i < 8 * length s
  inside i e = go (dec_lt i (8 * length s))
    where
      go : Dec (i < 8 * length s) → i < 8 * length s
      go (yes h) = h
      go (Dec.no h) = let z : bit_at s i ≡ 0 = bit_past s i (omega arith) in absurd (omega arith)

  -- no bit of a run of zeros is set
  zero-first : (p k : ℕ) → bits_at s p (suc k) ≡ 0 → (bit_at s p ≡ 0) × (bits_at s (suc p) k ≡ 0)
  zero-first p k e = go (bit_at s p) refl
    where
      go : (b : ℕ) → bit_at s p ≡ b → (bit_at s p ≡ 0) × (bits_at s (suc p) k ≡ 0)
      go zero g = (g, sym (bits-first s p k ∙ rw g (omega arith)) ∙ e)
      go (suc b) g = absurd (omega (arith, rw (g, suc-mul) at (sym (bits-first s p k) ∙ e), pow_pos k))

-- q is where the code starts, and p the place that has been reached
module _ (s : List ℕ) (q : ℕ) where
  -- k zeros and a set bit
  code-run : (k n z p : ℕ) → bits_at s p k ≡ 0 → bit_at s (p + k) ≡ 1 → k < n
      → code_at n z (drop p (bytes_bits s)) q ≡ suffix_at (z + k) (drop (suc (p + k)) (bytes_bits s)) q
  unfolding code_at
  code-run k zero z p a b h = absurd (omega arith)
  code-run zero (suc n) z p a b h =
      let b1 : bit_at s p ≡ 1 = rw add-zero at b in
      rw (left-cons s p (inside s p b1), b1, add-zero z, add-zero p)
  code-run (suc k) (suc n) z p a b h =
      let g = zero-first s p k a in
      rw (left-cons s p (omega (arith, inside s (p + suc k) b)), g.0, add-suc z k, ← suc-add z k, add-suc p k, ← suc-add p k)
      (code-run k n (suc z) (suc p) g.1 (rw (suc-add, ← add-suc) b) (omega arith))

  -- n zeros, which are too many
  code-zeros : (n z p : ℕ) → bits_at s p n ≡ 0 → p + n ≤ 8 * length s → code_at n z (drop p (bytes_bits s)) q ≡ no (refusal_at too_many_zeros (pos 0) q)
  unfolding code_at
  code-zeros zero z p a h = refl
  code-zeros (suc n) z p a h =
      let g = zero-first s p n a in
      rw (left-cons s p (omega arith), g.0) (code-zeros n (suc z) (suc p) g.1 (omega arith))

  -- zeros up to the end
  code-end : (n z p : ℕ) → bits_at s p n ≡ 0 → p ≤ 8 * length s → 8 * length s < p + n → code_at n z (drop p (bytes_bits s)) q ≡ no (refusal_at ran_out (pos 0) q)
  unfolding code_at
  code-end zero z p a g h = absurd (omega arith)
  code-end (suc n) z p a g h = go (dec_lt p (8 * length s)) (λ l. code-end n (suc z) (suc p) (zero-first s p n a).1 l (omega arith))
    where
      go : Dec (p < 8 * length s) → (suc p ≤ 8 * length s → code_at n (suc z) (drop (suc p) (bytes_bits s)) q ≡ no (refusal_at ran_out (pos 0) q))
          → code_at (suc n) z (drop p (bytes_bits s)) q ≡ no (refusal_at ran_out (pos 0) q)
      go (yes l) r = rw (left-cons s p l, (zero-first s p n a).0) (r l)
      go (Dec.no l) r = rw (left-nil s p (omega arith))

  suffix-in : (z r : ℕ) → r + z ≤ 8 * length s → suffix_at z (drop r (bytes_bits s)) q ≡ got (2 ^ z - 1 + bits_at s r z) (q + (2 * z + 1))
  unfolding suffix_at
  suffix-in z r h =
      let l : z ≤ length (drop r (bytes_bits s)) = rw left-length (omega arith) in
      rw (le-leb _ _ l, field-bits s r z h)

  suffix-out : (z r : ℕ) → r ≤ 8 * length s → 8 * length s < r + z → suffix_at z (drop r (bytes_bits s)) q ≡ no (refusal_at ran_out (pos 0) q)
  unfolding suffix_at
  suffix-out z r g h =
      let l : length (drop r (bytes_bits s)) < z = rw left-length (omega arith) in
      rw (lt-leb _ _ l)

pub ue-past : (s : List ℕ) (p : ℕ) → 8 * length s < p → ue_at (bytes_bits s) p ≡ no (refusal_at ran_out (pos 0) p)
unfolding ue_at code_at
ue-past s p h = rw (left-nil s p (omega arith))

-- z zeros and a one, which are 1 as a number
module _ (s : List ℕ) (p z : ℕ) (e : bits_at s p (z + 1) ≡ 1) (h : z < 32) where
  counted : (bits_at s p z ≡ 0) × (bit_at s (p + z) ≡ 1)
  unfolding bits_at
  counted =
      let f : bits_at s p z * 2 + bit_at s (p + z) ≡ 1 = rw add-one at e in
      (omega (arith, f, bit-lt s (p + z)), omega (arith, f, bit-lt s (p + z)))

  -- what follows them
  ue-suffix : ue_at (bytes_bits s) p ≡ suffix_at z (drop (p + (z + 1)) (bytes_bits s)) p
  unfolding ue_at
  ue-suffix =
      let r : suc (p + z) ≡ p + (z + 1) = omega arith in
      rw (zero-add z, r) at (code-run s p z 32 0 p counted.0 counted.1 h)

  pub ue-in : p + (2 * z + 1) ≤ 8 * length s → ue_at (bytes_bits s) p ≡ got (bits_at s p (2 * z + 1) - 1) (p + (2 * z + 1))
  ue-in g =
      let v : 2 ^ z - 1 + bits_at s (p + (z + 1)) z ≡ bits_at s p (2 * z + 1) - 1 = omega (arith, code-bits s p z e, pow_pos z) in
      rw (← v) (ue-suffix ∙ suffix-in s p z (p + (z + 1)) (omega arith))

  pub ue-short : 8 * length s < p + (2 * z + 1) → ue_at (bytes_bits s) p ≡ no (refusal_at ran_out (pos 0) p)
  ue-short g = ue-suffix ∙ suffix-out s p z (p + (z + 1)) (omega (arith, inside s (p + z) counted.1)) (omega arith)

module _ (s : List ℕ) (p : ℕ) (e : bits_at s p 32 ≡ 0) where
  pub ue-zeros : p + 32 ≤ 8 * length s → ue_at (bytes_bits s) p ≡ no (refusal_at too_many_zeros (pos 0) p)
  unfolding ue_at
  ue-zeros g = code-zeros s p 32 0 p e g

  pub ue-end : p ≤ 8 * length s → 8 * length s < p + 32 → ue_at (bytes_bits s) p ≡ no (refusal_at ran_out (pos 0) p)
  unfolding ue_at
  ue-end h g = code-end s p 32 0 p e h g

-- ---- by a window of 32 bits whose first 25 are those at the place, in the first r bytes, which are the bytes whose bits have a place

-- one of at least 2 ^ 19 has at most 12 zeros in front
pub few : (w : ℕ) → 2 ^ 19 ≤ w → w < 2 ^ 32 → count_leading_zeros 32 w < 13
few w l k = omega (arith, leading_lt 32 19 w k l)

module _ (s : List ℕ) (p w r : ℕ) (f : (r ≤ length s) × (r ≤ reach) × (r < reach → r ≡ length s)) (g : p / 8 + 3 < r)
    (h : (n : ℕ) → n ≤ 25 → w / 2 ^ (32 - n) ≡ bits_at s p n) where
  cut : bits_of s ≡ bytes_bits (take r s)
  unfolding bits_of
  cut = rw (take-reached s r f.1 f.2)

  there : (n : ℕ) → n ≤ 25 → p + n ≤ 8 * length (take r s)
  there n l = rw (length-take-le r s f.0) (omega arith)

  same : (n : ℕ) → n ≤ 25 → w / 2 ^ (32 - n) ≡ bits_at (take r s) p n
  same n l = h n l ∙ sym (bits-take s r p n (omega arith))

  pub fixed-near : (n : ℕ) → n ≤ 25 → fixed_at n (bits_of s) p ≡ got (w / 2 ^ (32 - n)) (p + n)
  fixed-near n l = rw (cut, same n l) (fixed_in (take r s) p n (there n l))

  set : 2 ^ 19 ≤ w → w < 2 ^ 32 → bits_at (take r s) p (count_leading_zeros 32 w + 1) ≡ 1
  set l k = sym (same (count_leading_zeros 32 w + 1) (omega (arith, few w l k))) ∙ leading-set 32 w k (omega (arith, few w l k))

  code : 2 ^ 19 ≤ w → w < 2 ^ 32 → w / 2 ^ (32 - (2 * count_leading_zeros 32 w + 1)) ≡ bits_at (take r s) p (2 * count_leading_zeros 32 w + 1)
  code l k = same (2 * count_leading_zeros 32 w + 1) (omega (arith, few w l k))

  pub code-pos : 2 ^ 19 ≤ w → w < 2 ^ 32 → 0 < w / 2 ^ (32 - (2 * count_leading_zeros 32 w + 1))
  code-pos l k = rw (code l k) (code-range (take r s) p (count_leading_zeros 32 w) (set l k) (omega (arith, few w l k))).0

  pub ue-near : 2 ^ 19 ≤ w → w < 2 ^ 32 → ue_at (bits_of s) p ≡ got (w / 2 ^ (32 - (2 * count_leading_zeros 32 w + 1)) - 1) (p + (2 * count_leading_zeros 32 w + 1))
  ue-near l k =
      rw (cut, code l k)
      (ue-in (take r s) p (count_leading_zeros 32 w) (set l k) (omega (arith, few w l k)) (there (2 * count_leading_zeros 32 w + 1) (omega (arith, few w l k))))

-- ---- by a window of 32 bits that the bytes end in: at most 31 of its bits are theirs, and zeros follow them

module _ (s : List ℕ) (p w : ℕ) (e : w ≡ bits_at s p 32) (g : 8 * length s < p + 32) where
  last_set : p + (2 * count_leading_zeros 32 w + 1) ≤ 8 * length s → bits_at s p (count_leading_zeros 32 w + 1) ≡ 1
  last_set h = bits-set s p 32 w e (omega arith)

  last_code : p + (2 * count_leading_zeros 32 w + 1) ≤ 8 * length s → w / 2 ^ (32 - (2 * count_leading_zeros 32 w + 1)) ≡ bits_at s p (2 * count_leading_zeros 32 w + 1)
  last_code h =
      let n : ℕ = 2 * count_leading_zeros 32 w + 1 in
      ap (λ (x : ℕ). x / 2 ^ (32 - n)) e ∙ front s p n (32 - n) 32 (omega arith)

  pub last-pos : p + (2 * count_leading_zeros 32 w + 1) ≤ 8 * length s → 0 < w / 2 ^ (32 - (2 * count_leading_zeros 32 w + 1))
  last-pos h = rw (last_code h) (code-range s p (count_leading_zeros 32 w) (last_set h) (omega arith)).0

  pub ue-last : p + (2 * count_leading_zeros 32 w + 1) ≤ 8 * length s
      → ue_at (bytes_bits s) p ≡ got (w / 2 ^ (32 - (2 * count_leading_zeros 32 w + 1)) - 1) (p + (2 * count_leading_zeros 32 w + 1))
  ue-last h = rw (last_code h) (ue-in s p (count_leading_zeros 32 w) (last_set h) (omega arith) h)

  -- without a set bit they are zeros up to the end
  pub ue-last-short : p ≤ 8 * length s → 8 * length s < p + (2 * count_leading_zeros 32 w + 1) → ue_at (bytes_bits s) p ≡ no (refusal_at ran_out (pos 0) p)
  ue-last-short l h = go (dec_lt (count_leading_zeros 32 w) 32)
    where
      go : Dec (count_leading_zeros 32 w < 32) → ue_at (bytes_bits s) p ≡ no (refusal_at ran_out (pos 0) p)
      go (yes k) = ue-short s p (count_leading_zeros 32 w) (bits-set s p 32 w e k) k h
      go (Dec.no k) = ue-end s p (sym e ∙ leading-none 32 w (under s p 32 w e) (omega arith)) l g

-- ---- how large a value is, whatever the bits

abbrev Small : Res ℕ → Type 0
Small (got k e) = k < 2 ^ 32 - 1
Small (no r) = Unit {0}

suffix-small : (z : ℕ) (l : Bits) (p : ℕ) → z < 32 → Small (suffix_at z l p)
unfolding suffix_at
suffix-small z l p h = go (leb z (length l)) refl
  where
    go : (b : Bool) → leb z (length l) ≡ b → Small (pick b (got (2 ^ z - 1 + number_of (take z l)) (p + (2 * z + 1))) (no (refusal_at ran_out (pos 0) p)))
    go false g = tt
    go true g = value-lt z _ h (rw (length-take-le z l (leb-true _ _ g)) at (number_lt (take z l)))

code-small : (n z : ℕ) (l : Bits) (p : ℕ) → n + z ≤ 32 → Small (code_at n z l p)
unfolding code_at
code-small zero z l p h = tt
code-small (suc n) z [] p h = tt
code-small (suc n) z (false ∷ l) p h = code-small n (suc z) l p (omega arith)
code-small (suc n) z (true ∷ l) p h = suffix-small z l p (omega arith)

pub ue-lt : (l : Bits) (p k e : ℕ) → ue_at l p ≡ got k e → k < 2 ^ 32 - 1
unfolding ue_at
ue-lt l p k e g = subst Small g (code-small 32 0 (drop p l) p (omega arith))
