-- Whether a bit is set in the bits of bytes: the rest of a byte, and the whole bytes after it.
use mathlib.Core.Path.{◌≡◌, refl, ◌∙◌}
use mathlib.Core.List.{List, [], ◌∷◌, ◌++◌}
use mathlib.Core.Bool.{true, false, not, ◌||◌}
use Prim.Native.Nat.{ℕ, zero, suc, ◌+◌, ◌-◌, ◌*◌, ◌/◌, ◌%◌, ◌^◌, ◌≤◌, ◌<◌}
use native.Mathlib.Omega.{arith}
use native.Mathlib.Nat.{zero-add, suc-add, one-mul, mod-eq_of_lt}
use lib.Dec.{eqb, lit<}
use lib.Pow.{pow_pos, shl_exact}
use lib.ListN.{length, get_or, drop, drop_of_length-le}
use lib.Seq.{drop-cons, drop-nil, drop-append-le, drop-append-add}
use borrow.Author.Tests.{ne_eqb}
use Rattle.bits.specs.Bits.{Bits, digits, number_of, bytes_bits}
use Rattle.bits.proofs.Digits.{length_digits, number_digits}
use Rattle.bits.proofs.Slices.{length-bytes}
use Rattle.syntax.specs.SliceHeader.{any_set}

pub any_append : (x y : Bits) → any_set (x ++ y) ≡ any_set x || any_set y
any_append [] y = refl
any_append (true ∷ x) y = refl
any_append (false ∷ x) y = any_append x y

-- bits have one set where the number that they stand for is not 0
any-number : (l : Bits) → any_set l ≡ not (eqb (number_of l) 0)
unfolding number_of
any-number [] = refl
any-number (true ∷ l) = rw (ne_eqb (2 ^ length l + number_of l) 0 (λ e. omega (arith, pow_pos (length l))))
any-number (false ∷ l) = rw (zero-add (number_of l)) (any-number l)

any-digits : (n v : ℕ) → any_set (digits n v) ≡ not (eqb (v % 2 ^ n) 0)
any-digits n v = rw (any-number (digits n v), number_digits n v)

-- ---- whole bytes

module _ (s : List ℕ) (i : ℕ) (h : i < length s) where
  any-cons : any_set (bytes_bits (drop i s)) ≡ not (eqb (get_or s i 0 % 2 ^ 8) 0) || any_set (bytes_bits (drop (suc i) s))
  unfolding bytes_bits
  any-cons = rw (drop-cons s i 0 h, any_append, any-digits 8)

  pub any_here : get_or s i 0 < 256 → (get_or s i 0 ≡ 0 → ⊥) → any_set (bytes_bits (drop i s)) ≡ true
  any_here b n = let k : get_or s i 0 % 2 ^ 8 ≡ get_or s i 0 = mod-eq_of_lt b in rw (any-cons, k, ne_eqb (get_or s i 0) 0 n)

  pub any-later : get_or s i 0 ≡ 0 → any_set (bytes_bits (drop i s)) ≡ any_set (bytes_bits (drop (suc i) s))
  any-later n = rw (any-cons, n)

pub any_none : (s : List ℕ) (i : ℕ) → length s ≤ i → any_set (bytes_bits (drop i s)) ≡ false
unfolding bytes_bits
any_none s i h = rw (drop_of_length-le s {i = i} h)

-- ---- the rest of a byte

drop-digits : (k n v : ℕ) → drop k (digits (k + n) v) ≡ digits n v
unfolding digits
drop-digits zero n v = rw (zero-add n)
drop-digits (suc k) n v = rw (suc-add k n) (drop-digits k n v)

pub drop-bytes : (i k : ℕ) (s : List ℕ) → drop (8 * i + k) (bytes_bits s) ≡ drop k (bytes_bits (drop i s))
unfolding bytes_bits
drop-bytes zero k s = rw (zero-add k)
drop-bytes (suc i) k [] = rw (drop-nil (8 * suc i + k), drop-nil k)
drop-bytes (suc i) k (b ∷ s) =
    let e : 8 * suc i + k ≡ length (digits 8 b) + (8 * i + k) = rw length_digits (omega arith) in
    rw (e, drop-append-add (digits 8 b) (bytes_bits s) (8 * i + k)) (drop-bytes i k s)

module _ (s : List ℕ) (at : ℕ) where
  pub after-end : length s ≤ at / 8 → any_set (drop (at + 1) (bytes_bits s)) ≡ false
  after-end h = rw (drop_of_length-le (bytes_bits s) {i = at + 1} (rw length-bytes (omega arith)))

  module _ (h : at / 8 < length s) where
    after : any_set (drop (at + 1) (bytes_bits s)) ≡ not (eqb (get_or s (at / 8) 0 % 2 ^ (7 - at % 8)) 0) || any_set (bytes_bits (drop (suc (at / 8)) s))
    unfolding bytes_bits
    after =
        let b : ℕ = get_or s (at / 8) 0 in
        let e : at + 1 ≡ 8 * (at / 8) + suc (at % 8) = omega arith in
        let w : suc (at % 8) + (7 - at % 8) ≡ 8 = omega arith in
        let d : drop (suc (at % 8)) (digits 8 b) ≡ digits (7 - at % 8) b = rw w at (drop-digits (suc (at % 8)) (7 - at % 8) b) in
        rw (e, drop-bytes (at / 8) (suc (at % 8)) s, drop-cons s (at / 8) 0 h, drop-append-le (suc (at % 8)) (digits 8 b) _ (rw length_digits (omega arith)), d, any_append, any-digits)

    pub after-here : (get_or s (at / 8) 0 % 2 ^ (7 - at % 8) ≡ 0 → ⊥) → any_set (drop (at + 1) (bytes_bits s)) ≡ true
    after-here n = rw (after, ne_eqb _ 0 n)

    pub after-later : get_or s (at / 8) 0 % 2 ^ (7 - at % 8) ≡ 0 → any_set (drop (at + 1) (bytes_bits s)) ≡ any_set (bytes_bits (drop (suc (at / 8)) s))
    after-later n = rw (after, n)

-- the byte whose set bit stands just above the bits after bit `at` of a byte
pub low_bits : (at : ℕ) → 1 * 2 ^ (7 - at % 8) % 256 ≡ 2 ^ (7 - at % 8)
low_bits at = shl_exact 1 (7 - at % 8) 8 (lit< tt) (omega arith) ∙ one-mul (2 ^ (7 - at % 8))
