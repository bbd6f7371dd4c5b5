-- Reading by cases: a field that is there only under a condition, and one that is tested; each law takes an answer's facts and gives the format's. And what is
-- known of a value that passed its test, and of widths over 32.
use Prim.Native.Nat.{ℕ, ◌^◌}
use mathlib.Core.Path.{◌≡◌, refl, sym, ap, ◌∙◌, subst}
use mathlib.Core.Bool.{Bool, true, false}
use lib.Dec.{T, leb, ltb}
use lib.IntN.{ℤ}
use Rattle.bits.specs.declared.refusals.Refusal.{Refusal}
use Rattle.bits.specs.Refusals.{Res, got, no, bind}
use Rattle.bits.specs.Bits.{Bits, digits}
use Rattle.bits.specs.Codes.{width_of, fixed_at}
use Rattle.bits.proofs.Results.{bind-bind, bind-got, under, chosen, cases}
use Rattle.fmt.specs.Fmt.{Fmt, shaped, test, when}
use Rattle.fmt.specs.Fmt as fmt
use Rattle.fmt.specs.Leaves.{u}
use Rattle.syntax.specs.Marks.{number_if, given}
use Rattle.syntax.specs.Absent.{no_number}
use Rattle.fields.specs.Marked.{marked}
use Rattle.syntax.specs.declared.marks.Marked.{Marked}

-- ---- there only if b: what was read, in the record's shape; or the zero, and the place stays

module _ {A B : Type 0} (to : fmt.Marked A → B) (from : B → fmt.Marked A) (ok : B → Bool) (b : Bool) (z : A) (isz : A → Bool) (F : Fmt A) (s : Bits) (at : ℕ) where
  shaped-there : (m : Res A) → b ≡ true → m ≡ F.read s at
      → bind m (λ a e. got (to (record { there = true; value = a })) e) ≡ (shaped to from ok (when b z isz F)).read s at
  unfolding shaped when
  shaped-there m t h = rw (t, h, bind-bind)

  shaped-absent : b ≡ false → got (to (record { there = false; value = z })) at ≡ (shaped to from ok (when b z isz F)).read s at
  unfolding shaped when
  shaped-absent t = rw t

module _ (b : Bool) (F : Fmt ℕ) (s : Bits) (at : ℕ) where
  pub number-there : (m : Res ℕ) → b ≡ true → m ≡ F.read s at → marked m ≡ (number_if b F).read s at
  unfolding number_if
  number-there = shaped-there _ _ _ b _ _ F s at

  pub number-absent : b ≡ false → got no_number at ≡ (number_if b F).read s at
  unfolding number_if
  number-absent = shaped-absent _ _ _ b _ _ F s at

module _ {A : Type 0} (b : Bool) (z : A) (isz : A → Bool) (F : Fmt A) (s : Bits) (at : ℕ) where
  pub given-there : (m : Res A) → b ≡ true → m ≡ F.read s at → m ≡ (given b z isz F).read s at
  unfolding given
  given-there m t h = sym (bind-got m) ∙ shaped-there _ _ _ b z isz F s at m t h

  pub given-absent : b ≡ false → got z at ≡ (given b z isz F).read s at
  unfolding given
  given-absent = shaped-absent _ _ _ b z isz F s at

-- ---- tested, where reading F found no value

module _ {A : Type 0} (ok : A → Bool) (n : ℕ) (value : A → ℤ) (F : Fmt A) (s : Bits) (at : ℕ) where
  pub test-none : {r : Refusal} → no r ≡ F.read s at → no r ≡ (test ok n value F).read s at
  unfolding test
  test-none h = rw (← h)

-- ---- what passed a test

pub test-passed : {A : Type 0} (ok : A → Bool) (n : ℕ) (value : A → ℤ) (F : Fmt A) (s : Bits) (at : ℕ) {a : A} {e : ℕ} → (test ok n value F).read s at ≡ got a e → T (ok a)
unfolding test
test-passed ok n value F s at h = under (F.read s at) _ h (λ a d ha h₁. let w = chosen (ok a) a _ d _ _ h₁ in subst (λ x. T (ok x)) w.1 w.0)

-- with its mark: where zero passes, the value does
module _ (ok : ℕ → Bool) (n : ℕ) (value : ℕ → ℤ) (F : Fmt ℕ) (s : Bits) (at : ℕ) (z : T (ok 0)) {m : Marked ℕ} {e : ℕ} where
  pub number_passed : (b : Bool) → (number_if b (test ok n value F)).read s at ≡ got m e → T (ok m.value)
  number_passed true h =
      under ((test ok n value F).read s at) _ (number-there true _ s at _ refl refl ∙ h)
      (λ a d ha h₁.
      let k : record { there = true; value = a } ≡ m = (cc h₁) in
      subst (λ x. T (ok x.value)) k (test-passed ok n value F s at ha))
  number_passed false h =
      let h₁ : got no_number at ≡ got m e = number-absent false (test ok n value F) s at refl ∙ h in
      let k : no_number ≡ m = (cc h₁) in
      subst (λ x. T (ok x.value)) k z

-- ---- widths over 32 count as 32

-- a format of bits goes by its width alone
same_width : (m n : ℕ) → width_of m ≡ width_of n → u m ≡ u n
unfolding u
same_width m n e = ap (λ (w : ℕ). record { read = fixed_at w; bits = digits w; good = λ v. ltb v (2 ^ w) }) e

-- a width that is what another counts as
pub as-width : (m n : ℕ) → m ≡ width_of n → u m ≡ u n
as-width m n e = rw e (same_width (width_of n) n (cases (leb n 32) (λ t. rw (t, t)) (λ t. rw t)))
