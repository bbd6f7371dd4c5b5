-- A field of a number's digits is a quotient's remainder: what the code computes with `/` and `%`.
use mathlib.Core.Path.{◌≡◌, refl, sym, ap, ap₂, ◌∙◌}
use mathlib.Core.List.{◌∷◌}
use Prim.Native.Nat.{ℕ, zero, suc, ◌+◌, ◌-◌, ◌/◌, ◌%◌, ◌^◌, ◌≤◌}
use native.Mathlib.Omega.{arith}
use native.Mathlib.Nat.{zero-add, suc-add}
use lib.Dec.{eqb}
use lib.ListN.{take, drop}
use lib.Pow.{shr-shr}
use Rattle.bits.specs.Bits.{Bits, digits, field}
use Rattle.bits.proofs.Digits.{number_digits}

-- without its first k digits
pub drop-digits : (k n v : ℕ) → drop k (digits (k + n) v) ≡ digits n v
unfolding digits
drop-digits zero n v = rw zero-add
drop-digits (suc k) n v = rw suc-add (drop-digits k n v)

-- its first n digits, where j more follow
pub take-digits : (n j v : ℕ) → take n (digits (n + j) v) ≡ digits n (v / 2 ^ j)
unfolding digits
take-digits zero j v = refl
take-digits (suc n) j v =
    rw suc-add (ap₂ (λ (x : ℕ) (l : Bits). eqb (x % 2) 1 ∷ l) (ap (λ (e : ℕ). v / 2 ^ e) (omega arith) ∙ sym (shr-shr v j n)) (take-digits n j v))

-- the number in the n digits from the k-th on
pub field-digits : (k n m v : ℕ) → k + n ≤ m → field k n (digits m v) ≡ v / 2 ^ (m - k - n) % 2 ^ n
field-digits k n m v h =
    let e : m ≡ k + (n + (m - k - n)) = omega arith in
    ap (λ (x : ℕ). field k n (digits x v)) e ∙ rw (drop-digits, take-digits) (number_digits n (v / 2 ^ (m - k - n)))
