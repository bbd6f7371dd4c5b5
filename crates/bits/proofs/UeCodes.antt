-- The bits of the code ue(v): v + 1 written after its zeros gives them.
use mathlib.Core.Path.{◌≡◌, ap, ap₂, ◌∙◌}
use mathlib.Core.List.{List, ◌∷◌, ◌++◌}
use mathlib.Core.Bool.{true}
use Prim.Native.Nat.{ℕ, ◌+◌, ◌-◌, ◌*◌, ◌/◌, ◌^◌, ◌≤◌, ◌<◌}
use native.Mathlib.Omega.{arith}
use native.Mathlib.Nat.{div-eq_of_lt-le}
use native.Mathlib.Numerals.{add-one}
use lib.Count.{count_leading_zeros, leading_top}
use lib.ListN.{length}
use Rattle.bits.specs.Bits.{Bits, digits}
use Rattle.bits.specs.Codes.{ue_zeros, ue_bits}
use Rattle.bits.specs.Put.{put_bits}
use Rattle.bits.proofs.Digits.{length_digits}
use Rattle.bits.proofs.Codes.{ue-zeros}
use Rattle.bits.proofs.Fills.{digits-zero}
use Rattle.bits.proofs.Puts.{put-append}

-- the machine's count of the zeros before v + 1, which is not 0
pub few-leading : (v : ℕ) → v < 2 ^ 32 - 1 → count_leading_zeros 32 (v + 1) ≤ 31
few-leading v h = omega (arith, (leading_top 32 (v + 1) (omega arith) (omega arith)).1)

-- its digits, the first of which is a one
pub digits-top : (z x : ℕ) → 2 ^ z ≤ x → x < 2 * 2 ^ z → digits (z + 1) x ≡ true ∷ digits z x
unfolding digits
digits-top z x a b =
    let q : x / 2 ^ z ≡ 1 = div-eq_of_lt-le (2 ^ z) (omega arith) (omega arith) in
    ap (λ (n : ℕ). digits n x) (add-one z) ∙ rw q

-- the two runs that make the code
pub put-code : (d : List ℕ) (at v : ℕ) → v < 2 ^ 32 - 1
    → put_bits (put_bits d at (digits (ue_zeros v) 0)) (at + ue_zeros v) (digits (ue_zeros v + 1) (v + 1)) ≡ put_bits d at (ue_bits v)
unfolding ue_bits
put-code d at v h =
    let z : ℕ = ue_zeros v in
    let t = ue-zeros v h in
    let n : length (digits z 0) ≡ z = length_digits z 0 in
    rw n at (put-append d at (digits z 0) (digits (z + 1) (v + 1)))
    ∙ ap₂ (λ (x y : Bits). put_bits d at (x ++ y)) (digits-zero z) (digits-top z (v + 1) t.from t.below)
