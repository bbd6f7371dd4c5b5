-- Writing by cases: a field that is there only under a condition, and what its mark must be. Each law takes what the code tested and gives the format's write.
use Prim.Native.Nat.{ℕ}
use mathlib.Core.Path.{◌≡◌, refl, sym, ◌∙◌, subst⁻¹}
use mathlib.Core.List.{List}
use mathlib.Core.Bool.{Bool, true, false, not, ◌&&◌}
use lib.Dec.{T}
use lib.IntN.{ℤ, pos}
use Rattle.bits.specs.declared.read.Cursor.{Cursor}
use Rattle.bits.specs.Refusals.{pick}
use Rattle.fmt.specs.Fmt.{Fmt, shaped, when}
use Rattle.fmt.specs.Fmt as fmt
use Rattle.fmt.specs.Leaves.{flag}
use Rattle.fmt.proofs.Lawful.{both-0, both-1, not-T-false}
use Rattle.fmt.proofs.Puts.{shaped-put, when-put, when-absent}
use Rattle.syntax.specs.Marks.{is_zero, is_zero_z, number_if, signed_if, flag_if, given}
use Rattle.writer.specs.Places.{PutTo}
use Rattle.writer.proofs.Stages.{told, no-bits}
use Rattle.syntax.specs.declared.marks.Marked.{Marked}
use Rattle.std.specs.Prelude.{Ok, Option, Some, None}

-- the mark is what it should be, and the value zero where the field is absent
abbrev pub fits : Bool → Bool → Bool → Bool
fits b mark zero = pick b mark (not mark && zero)

-- a field that does not fit is not good
fails : (b mark good zero : Bool) → fits b mark zero ≡ false → pick b (mark && good) (not mark && zero) ≡ false
fails true mark good zero h = rw h
fails false mark good zero h = h

there-marked : (b mark zero : Bool) → fits b mark zero ≡ true → b ≡ true → mark ≡ true
there-marked b mark zero h t = rw t at h

absent-fits : (b mark zero : Bool) → fits b mark zero ≡ true → b ≡ false → T (not mark && zero)
absent-fits b mark zero h t = subst⁻¹ T (rw t at h) tt

-- a mark without a value of its own
pub marked : (b mark : Bool) {f : Bool} → f ≡ fits b mark true → f ≡ true → pick b mark (not mark) ≡ true
marked true mark e q = sym e ∙ q
marked false true e q = sym e ∙ q
marked false false e q = refl

pub unmarked : (b mark : Bool) {f : Bool} → f ≡ fits b mark true → f ≡ false → pick b mark (not mark) ≡ false
unmarked true mark e q = sym e ∙ q
unmarked false true e q = refl
unmarked false false e q = sym e ∙ q

-- ---- there only if b, in the record's shape

module _ {A B : Type 0} (to : fmt.Marked A → B) (from : B → fmt.Marked A) (z : A) (isz : A → Bool) (F : Fmt A) (x : B) (b : Bool) {f : Bool}
    (e : f ≡ fits b (from x).there (isz (from x).value)) {d : List ℕ} {at : ℕ} where
  shaped-there : {d' : List ℕ} {r : Option Cursor} → f ≡ true → b ≡ true → PutTo F (from x).value d at d' r → PutTo (shaped to from (λ v. true) (when b z isz F)) x d at d' r
  shaped-there q t p =
      record {
        put = shaped-put to from (λ v. true) (when b z isz F) x refl
            (when-put z isz F (from x) b t (there-marked b (from x).there (isz (from x).value) (sym e ∙ q) t) p.put);
      }

  shaped-absent : f ≡ true → b ≡ false → PutTo (shaped to from (λ v. true) (when b z isz F)) x d at d (Some (record { at = at }))
  shaped-absent q t =
      let w = absent-fits b (from x).there (isz (from x).value) (sym e ∙ q) t in
      told (Ok (record { at = at }))
      (shaped-put to from (λ v. true) (when b z isz F) x refl
      (when-absent z isz F (from x) d at b t (not-T-false (from x).there (both-0 (not (from x).there) (isz (from x).value) w)) (both-1 (not (from x).there) (isz (from x).value) w)))

  shaped-unfit : {d' : List ℕ} → f ≡ false → PutTo (shaped to from (λ v. true) (when b z isz F)) x d at d' None
  unfolding shaped when
  shaped-unfit q =
      no-bits (shaped to from (λ v. true) (when b z isz F)) x
      (fails b (from x).there (F.good (from x).value) (isz (from x).value) (sym e ∙ q))

module _ (F : Fmt ℕ) (m : Marked ℕ) (b : Bool) {f : Bool} (e : f ≡ fits b m.there (is_zero m.value)) {d : List ℕ} {at : ℕ} where
  pub number-there : {d' : List ℕ} {r : Option Cursor} → f ≡ true → b ≡ true → PutTo F m.value d at d' r → PutTo (number_if b F) m d at d' r
  unfolding number_if
  number-there = shaped-there _ _ 0 is_zero F m b e

  pub number-absent : f ≡ true → b ≡ false → PutTo (number_if b F) m d at d (Some (record { at = at }))
  unfolding number_if
  number-absent = shaped-absent _ _ 0 is_zero F m b e

  pub number-unfit : {d' : List ℕ} → f ≡ false → PutTo (number_if b F) m d at d' None
  unfolding number_if
  number-unfit = shaped-unfit _ _ 0 is_zero F m b e

module _ (F : Fmt ℤ) (m : Marked ℤ) (b : Bool) {f : Bool} (e : f ≡ fits b m.there (is_zero_z m.value)) {d : List ℕ} {at : ℕ} where
  pub signed-there : {d' : List ℕ} {r : Option Cursor} → f ≡ true → b ≡ true → PutTo F m.value d at d' r → PutTo (signed_if b F) m d at d' r
  unfolding signed_if
  signed-there = shaped-there _ _ (pos 0) is_zero_z F m b e

  pub signed-absent : f ≡ true → b ≡ false → PutTo (signed_if b F) m d at d (Some (record { at = at }))
  unfolding signed_if
  signed-absent = shaped-absent _ _ (pos 0) is_zero_z F m b e

  pub signed-unfit : {d' : List ℕ} → f ≡ false → PutTo (signed_if b F) m d at d' None
  unfolding signed_if
  signed-unfit = shaped-unfit _ _ (pos 0) is_zero_z F m b e

module _ (m : Marked Bool) (b : Bool) {f : Bool} (e : f ≡ fits b m.there (not m.value)) {d : List ℕ} {at : ℕ} where
  pub flag-there : {d' : List ℕ} {r : Option Cursor} → f ≡ true → b ≡ true → PutTo flag m.value d at d' r → PutTo (flag_if b) m d at d' r
  unfolding flag_if
  flag-there = shaped-there _ _ false not flag m b e

  pub flag-absent : f ≡ true → b ≡ false → PutTo (flag_if b) m d at d (Some (record { at = at }))
  unfolding flag_if
  flag-absent = shaped-absent _ _ false not flag m b e

  pub flag-unfit : {d' : List ℕ} → f ≡ false → PutTo (flag_if b) m d at d' None
  unfolding flag_if
  flag-unfit = shaped-unfit _ _ false not flag m b e

-- ---- there only if b, which the record tells elsewhere: the mark is b, and fits

module _ {A : Type 0} (z : A) (isz : A → Bool) (F : Fmt A) (v : A) (b : Bool) {d : List ℕ} {at : ℕ} where
  pub given-there : {d' : List ℕ} {r : Option Cursor} → b ≡ true → PutTo F v d at d' r → PutTo (given b z isz F) v d at d' r
  unfolding given
  given-there t p = shaped-there _ (λ v. record { there = b; value = v }) z isz F v b refl (rw t) t p

  pub given-absent : b ≡ false → isz v ≡ true → PutTo (given b z isz F) v d at d (Some (record { at = at }))
  unfolding given
  given-absent t q = shaped-absent _ (λ v. record { there = b; value = v }) z isz F v b refl (rw (t, q)) t

  pub given-unfit : {d' : List ℕ} → b ≡ false → isz v ≡ false → PutTo (given b z isz F) v d at d' None
  unfolding given
  given-unfit t q = shaped-unfit _ (λ v. record { there = b; value = v }) z isz F v b refl (rw (t, q))
