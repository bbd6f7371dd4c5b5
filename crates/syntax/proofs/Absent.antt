-- Fields that may be absent are lawful where the field is.
use Prim.Native.Nat.{ℕ}
use mathlib.Core.Path.{◌≡◌, refl, ap, sym}
use mathlib.Core.Bool.{Bool, false, not}
use lib.Dec.{T, eqb→eq}
use lib.IntN.{ℤ, pos, negsuc}
use Rattle.fmt.specs.Fmt.{Fmt, when}
use Rattle.fmt.specs.Leaves.{flag, se}
use Rattle.fmt.proofs.Lawful.{Lawful, not-T-false}
use Rattle.fmt.proofs.Combinators.{shaped-lawful, when-lawful, when-there}
use Rattle.fmt.proofs.Leaves.{flag-lawful, se-lawful}
use Rattle.syntax.specs.Marks.{is_zero, is_zero_z, number_if, signed_if, flag_if, given}

-- ---- what is told to be zero is zero

pub zero_is : (n : ℕ) → T (is_zero n) → n ≡ 0
zero_is n t = eqb→eq n 0 t

pub zero_z-is : (z : ℤ) → T (is_zero_z z) → z ≡ pos 0
zero_z-is (pos n) t = ap pos (zero_is n t)
zero_z-is (negsuc n) t = absurd t

-- ---- with a mark

pub number_if-lawful : (b : Bool) (F : Fmt ℕ) → Lawful F → Lawful (number_if b F)
unfolding number_if
number_if-lawful b F L = shaped-lawful _ _ _ (when b 0 is_zero F) (λ m t. refl) (λ m g. (refl, tt)) (when-lawful 0 is_zero F tt zero_is L b)

pub signed_if-lawful : (b : Bool) (F : Fmt ℤ) → Lawful F → Lawful (signed_if b F)
unfolding signed_if
signed_if-lawful b F L = shaped-lawful _ _ _ (when b (pos 0) is_zero_z F) (λ m t. refl) (λ m g. (refl, tt)) (when-lawful (pos 0) is_zero_z F tt zero_z-is L b)

pub flag_if-lawful : (b : Bool) → Lawful (flag_if b)
unfolding flag_if
flag_if-lawful b = shaped-lawful _ _ _ (when b false not flag) (λ m t. refl) (λ m g. (refl, tt)) (when-lawful false not flag tt not-T-false flag-lawful b)

-- ---- without one

pub given-lawful : {A : Type 0} (b : Bool) (z : A) (isz : A → Bool) (F : Fmt A) → T (isz z) → ((a : A) → T (isz a) → a ≡ z) → Lawful F → Lawful (given b z isz F)
unfolding given
given-lawful {A = A} b z isz F zz is L =
    shaped-lawful _ _ _ (when b z isz F) (λ v t. refl)
    (λ m g. ((λ i. record { there = sym (when-there b z isz F m g) i; value = m.value }), tt)) (when-lawful z isz F zz is L b)

pub given-se : (b : Bool) → Lawful (given b (pos 0) is_zero_z se)
given-se b = given-lawful b (pos 0) is_zero_z se tt zero_z-is se-lawful

pub given-flag : (b : Bool) → Lawful (given b false not flag)
given-flag b = given-lawful b false not flag tt not-T-false flag-lawful
