-- Laws of binary digits and of the numbers they stand for.
use mathlib.Core.Path.{◌≡◌, refl, sym, ap, ◌∙◌}
use mathlib.Core.List.{[], ◌∷◌, ◌++◌}
use mathlib.Core.Bool.{true, false}
use Prim.Native.Nat.{ℕ, zero, suc, ◌+◌, ◌*◌, ◌/◌, ◌%◌, ◌^◌, ◌<◌}
use native.Mathlib.Omega.{arith}
use native.Mathlib.Nat.{zero-add, add_comm, suc-add, add-mul, pow-suc, mod-lt, mod-eq_of_lt, div-eq_of_lt}
use native.Mathlib.Numerals.{one-add}
use lib.Dec.{eqb, lit<}
use lib.ListN.{length, length-append}
use lib.Pow.{pow-add, high, low, shr-shr, mod-mod-pow, mod-pow-add, field}
use Rattle.bits.specs.Refusals.{pick}
use Rattle.bits.specs.Bits.{Bits, digits, number_of}

pub length_digits : (n v : ℕ) → length (digits n v) ≡ n
unfolding digits
length_digits zero v = refl
length_digits (suc n) v = ap suc (length_digits n v)

-- one bit's part of the number
pub bit-value : (v n : ℕ) → pick (eqb (v / 2 ^ n % 2) 1) (2 ^ n) 0 ≡ v / 2 ^ n % 2 * 2 ^ n
bit-value v n = go (v / 2 ^ n % 2) (mod-lt (v / 2 ^ n) (lit< tt))
  where
    go : (b : ℕ) → b < 2 → pick (eqb b 1) (2 ^ n) 0 ≡ b * 2 ^ n
    go zero h = omega arith
    go (suc zero) h = omega arith
    go (suc (suc b)) h = absurd (omega arith)

pub number_lt : (l : Bits) → number_of l < 2 ^ length l
unfolding number_of
number_lt [] = lit< tt
number_lt (true ∷ l) = rw pow-suc (omega (arith, number_lt l))
number_lt (false ∷ l) = rw pow-suc (omega (arith, number_lt l))

-- the digits of a number stand for what is left of it by their weight
pub number_digits : (n v : ℕ) → number_of (digits n v) ≡ v % 2 ^ n
unfolding digits number_of
number_digits zero v = omega arith
number_digits (suc n) v =
    rw (length_digits n v, bit-value v n, number_digits n v) (sym (ap (λ (x : ℕ). v % 2 ^ x) (sym (one-add n)) ∙ mod-pow-add v 1 n))

-- a number that its digits can hold
pub number-digits-small : (n v : ℕ) → v < 2 ^ n → number_of (digits n v) ≡ v
number-digits-small n v h = number_digits n v ∙ mod-eq_of_lt h

-- digits say nothing of what lies above their weight
pub digits_mod : (n v w : ℕ) → v % 2 ^ n ≡ w % 2 ^ n → digits n v ≡ digits n w
unfolding digits
digits_mod zero v w e = refl
digits_mod (suc n) v w e =
    let f : v % 2 ^ (1 + n) ≡ w % 2 ^ (1 + n) = ap (λ (x : ℕ). v % 2 ^ x) (one-add n) ∙ e ∙ ap (λ (x : ℕ). w % 2 ^ x) (sym (one-add n)) in
    let top : v / 2 ^ n % 2 ≡ w / 2 ^ n % 2 = sym (field v 1 n) ∙ ap (λ (x : ℕ). x / 2 ^ n) f ∙ field w 1 n in
    let rest : v % 2 ^ n ≡ w % 2 ^ n = sym (mod-mod-pow v 1 n) ∙ ap (λ (x : ℕ). x % 2 ^ n) f ∙ mod-mod-pow w 1 n in
    rw (top, digits_mod n v w rest)

-- the digits of the number that bits stand for are the bits
pub digits_number : (l : Bits) → digits (length l) (number_of l) ≡ l
unfolding digits number_of
digits_number [] = refl
digits_number (true ∷ l) =
    let one : 1 * 2 ^ length l + number_of l ≡ 2 ^ length l + number_of l = omega arith in
    let q : (2 ^ length l + number_of l) / 2 ^ length l ≡ 1 = rw one at (high 1 (length l) (number_lt l)) in
    let r : (2 ^ length l + number_of l) % 2 ^ length l ≡ number_of l = rw one at (low 1 (length l) (number_lt l)) in
    rw (q, digits_mod (length l) (2 ^ length l + number_of l) (number_of l) (r ∙ sym (mod-eq_of_lt (number_lt l))), digits_number l)
digits_number (false ∷ l) =
    let e : 0 + number_of l ≡ number_of l = zero-add (number_of l) in
    let q : number_of l / 2 ^ length l ≡ 0 = div-eq_of_lt (number_lt l) in
    rw (e, q, digits_number l)

-- two runs of digits side by side
pub digits_append : (m n a b : ℕ) → b < 2 ^ n → digits (m + n) (a * 2 ^ n + b) ≡ digits m a ++ digits n b
unfolding digits
digits_append zero n a b h =
    rw (zero-add n) (digits_mod n (a * 2 ^ n + b) b (low a n h ∙ sym (mod-eq_of_lt h)))
digits_append (suc m) n a b h =
    let q : (a * 2 ^ n + b) / 2 ^ (m + n) ≡ a / 2 ^ m =
    ap (λ (x : ℕ). (a * 2 ^ n + b) / 2 ^ x) (add_comm m n) ∙ sym (shr-shr (a * 2 ^ n + b) n m) ∙ ap (λ (x : ℕ). x / 2 ^ m) (high a n h) in
    rw (suc-add m n, q, digits_append m n a b h)

pub number_append : (x y : Bits) → number_of (x ++ y) ≡ number_of x * 2 ^ length y + number_of y
unfolding number_of
number_append [] y = omega arith
number_append (true ∷ x) y = rw (length-append x y, pow-add 2 (length x) (length y), number_append x y, add-mul) (omega arith)
number_append (false ∷ x) y = rw (number_append x y) (omega arith)
