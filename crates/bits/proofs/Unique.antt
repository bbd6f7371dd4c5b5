-- What an answer of the code says determines it: so the contract of a read allows one answer only.
use mathlib.Core.Path.{◌≡◌, refl, sym, ap, ◌∙◌}
use Rattle.std.specs.Prelude.{Ok, Err}
use Rattle.bits.specs.Refusals.{Res, got, no}
use Rattle.bits.specs.declared.read.Cursor.{Cursor}
use Rattle.bits.specs.Answers.{Read, as_read}

-- a function with a way back
pub back_one : {A B : Type 0} (f : A → B) (g : B → A) → ((a : A) → g (f a) ≡ a) → (a b : A) → f a ≡ f b → a ≡ b
back_one f g h a b e = sym (h a) ∙ ap g e ∙ h b

abbrev to_read : {A : Type 0} → Res A → Read A
to_read (got v e) = Ok (v, record { at = e })
to_read (no r) = Err r

read_back : {A : Type 0} (r : Read A) → to_read (as_read r) ≡ r
read_back (Ok (v, c)) = refl
read_back (Err r) = refl

pub read_one : {A : Type 0} (r q : Read A) → as_read r ≡ as_read q → r ≡ q
read_one = back_one as_read to_read read_back

-- and an answer has one value and one place
pub one-answer : {A : Type 0} {a b : A} {c d : Cursor} → ◌≡◌ {A = Read A} (Ok (a, c)) (Ok (b, d)) → (a ≡ b) × (c ≡ d)
one-answer {A} {a} {b} {c} {d} e =
    let p : ◌≡◌ {A = A × Cursor} (a, c) (b, d) = cc e in
    (ap (λ (x : A × Cursor). x.0) p, ap (λ (x : A × Cursor). x.1) p)
