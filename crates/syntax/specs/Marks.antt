-- Fields that may be absent, in the record's own shapes.
use Rattle.std.specs.Prelude.{ℕ, Bool, true, false, not, eqb, ℤ, pos, negsuc}
use Rattle.fmt.specs.Fmt.{Fmt, shaped, when}
use Rattle.fmt.specs.Leaves.{flag}
use Rattle.syntax.specs.declared.marks.Marked.{Marked}

abbrev pub is_zero : ℕ → Bool
is_zero n = eqb n 0

abbrev pub is_zero_z : ℤ → Bool
is_zero_z (pos n) = is_zero n
is_zero_z (negsuc n) = false

-- there only if b, with its mark

unfoldable pub number_if : Bool → Fmt ℕ → Fmt (Marked ℕ)
number_if b F =
    shaped (λ m. record { there = m.there; value = m.value }) (λ m. record { there = m.there; value = m.value }) (λ m. true) (when b 0 is_zero F)

unfoldable pub signed_if : Bool → Fmt ℤ → Fmt (Marked ℤ)
signed_if b F =
    shaped (λ m. record { there = m.there; value = m.value }) (λ m. record { there = m.there; value = m.value }) (λ m. true) (when b (pos 0) is_zero_z F)

unfoldable pub flag_if : Bool → Fmt (Marked Bool)
flag_if b =
    shaped (λ m. record { there = m.there; value = m.value }) (λ m. record { there = m.there; value = m.value }) (λ m. true) (when b false not flag)

-- there only if b, which the record tells elsewhere

unfoldable pub given : {A : Type 0} → Bool → A → (A → Bool) → Fmt A → Fmt A
given b z isz F = shaped (λ m. m.value) (λ v. record { there = b; value = v }) (λ v. true) (when b z isz F)
