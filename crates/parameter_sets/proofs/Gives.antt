-- What reading alone gives: a value with P, or a refusal with R; one law for each way to read and each single field. So what is read fits the rules' sizes, and
-- which refusals there are.
use Prim.Native.Nat.{ℕ, zero, suc, ◌+◌}
use mathlib.Core.Path.{◌≡◌, refl, subst}
use mathlib.Core.List.{[], ◌∷◌}
use mathlib.Core.Bool.{Bool, true, false}
use lib.Dec.{leb}
use lib.IntN.{ℤ, pos}
use lib.ListN.{length, drop}
use Rattle.bits.specs.declared.refusals.Refusal.{Refusal}
use Rattle.bits.specs.Refusals.{Res, got, no, bind, pick, refusal_at, ran_out, too_many_zeros}
use Rattle.bits.specs.Bits.{Bits}
use Rattle.bits.specs.Codes.{width_of, fixed_at, suffix_at, code_at, ue_at}
use Rattle.fmt.specs.Fmt.{Fmt, test}
use Rattle.fmt.specs.Leaves.{flag, u, ue, se}
use Rattle.fmt.specs.Reads.{Reads, found, next, read_if, passes}
use Rattle.table.specs.Sets.{between_z}
use Rattle.parameter_sets.specs.SequenceSet.{set_field, up_to, within}

-- the refusals that reading a set gives: 5, 6 and 28, each with value 0 and the place of its field
pub record Allows (R : Refusal → Type 0) : Type 0 where
  pub out : (p : ℕ) → R (refusal_at ran_out (pos 0) p)
  pub zeros : (p : ℕ) → R (refusal_at too_many_zeros (pos 0) p)
  pub field : (p : ℕ) → R (refusal_at set_field (pos 0) p)

abbrev pub Ends : {A : Type 0} → (Refusal → Type 0) → (A → Type 0) → Res A → Type 0
Ends R P (got a e) = P a
Ends R P (no r) = R r

pub record Gives {A : Type 0} (R : Refusal → Type 0) (P : A → Type 0) (F : Reads A) : Type 0 where
  pub known : (s : Bits) (at : ℕ) → Ends R P (F s at)

-- any value
abbrev pub Any : {A : Type 0} → A → Type 0
Any a = Unit {0}

after : {A B : Type 0} (R : Refusal → Type 0) (P : A → Type 0) (Q : B → Type 0) (m : Res A) (k : A → ℕ → Res B) → Ends R P m → ((a : A) (e : ℕ) → P a → Ends R Q (k a e))
    → Ends R Q (bind m k)
after R P Q (got a e) k h f = f a e h
after R P Q (no r) k h f = h

by-test : {A : Type 0} (R : Refusal → Type 0) (P : A → Type 0) (b : Bool) (x y : Res A) → (b ≡ true → Ends R P x) → (b ≡ false → Ends R P y) → Ends R P (pick b x y)
by-test R P true x y h g = h refl
by-test R P false x y h g = g refl

module _ {R : Refusal → Type 0} where
  -- ---- ways to read

  pub found-gives : {A : Type 0} {P : A → Type 0} (a : A) → P a → Gives R P (found a)
  unfolding found
  found-gives a p = record { known = λ s at. p }

  pub next-gives : {A B : Type 0} {P : A → Type 0} {Q : B → Type 0} (F : Reads A) (G : A → Reads B) → Gives R P F → ((a : A) → P a → Gives R Q (G a)) → Gives R Q (next F G)
  unfolding next
  next-gives {P = P} {Q = Q} F G f g = record { known = λ s at. after R P Q (F s at) (λ a e. G a s e) (f.known s at) (λ a e p. (g a p).known s e) }

  pub if-gives : {A : Type 0} {P : A → Type 0} (b : Bool) (z : A) (F : Reads A) → (b ≡ true → Gives R P F) → (b ≡ false → P z) → Gives R P (read_if b z F)
  unfolding read_if
  if-gives true z F f p = f refl
  if-gives false z F f p = found-gives z (p refl)

  pub pick_gives : {A : Type 0} {P : A → Type 0} (b : Bool) (F G : Reads A) → Gives R P F → Gives R P G → Gives R P (pick b F G)
  pick_gives true F G f g = f
  pick_gives false F G f g = g

  pub passes-gives : {A : Type 0} {P : A → Type 0} (F : Reads A) → Gives R P F → (n : ℕ) → Gives R Any (passes n F)
  unfolding passes
  passes-gives F f zero = found-gives tt tt
  passes-gives F f (suc n) = next-gives F (λ a. passes n F) f (λ a p. passes-gives F f n)

  -- what each value has
  pub with-gives : {A : Type 0} {P : A → Type 0} {F : Reads A} → Gives R Any F → ((a : A) → P a) → Gives R P F
  with-gives {A} {P} {F} f g = record { known = λ s at. each (F s at) (f.known s at) }
    where
      each : (m : Res A) → Ends R Any m → Ends R P m
      each (got a e) h = g a
      each (no q) h = h

  -- ---- single fields

  module _ (r : Allows R) where
    fixed-ends : (n : ℕ) (s : Bits) (p : ℕ) → Ends R Any (fixed_at n s p)
    unfolding fixed_at
    fixed-ends n s p = by-test R Any (leb (p + n) (length s)) _ _ (λ t. tt) (λ t. r.out p)

    suffix-ends : (z : ℕ) (l : Bits) (p : ℕ) → Ends R Any (suffix_at z l p)
    unfolding suffix_at
    suffix-ends z l p = by-test R Any (leb z (length l)) _ _ (λ t. tt) (λ t. r.out p)

    code-ends : (n z : ℕ) (l : Bits) (p : ℕ) → Ends R Any (code_at n z l p)
    unfolding code_at
    code-ends zero z l p = r.zeros p
    code-ends (suc n) z [] p = r.out p
    code-ends (suc n) z (false ∷ l) p = code-ends n (suc z) l p
    code-ends (suc n) z (true ∷ l) p = suffix-ends z l p

    ue-ends : (s : Bits) (p : ℕ) → Ends R Any (ue_at s p)
    unfolding ue_at
    ue-ends s p = code-ends 32 0 (drop p s) p

    pub u-gives : (n : ℕ) → Gives R Any (u n).read
    unfolding u
    u-gives n = record { known = λ s at. fixed-ends (width_of n) s at }

    pub flag-gives : Gives R Any flag.read
    unfolding flag
    flag-gives = record { known = λ s at. after R Any Any (fixed_at (width_of 1) s at) _ (fixed-ends (width_of 1) s at) (λ v e p. tt) }

    pub ue-gives : Gives R Any ue.read
    unfolding ue
    ue-gives = record { known = ue-ends }

    pub se-gives : Gives R Any se.read
    unfolding se
    se-gives = record { known = λ s at. after R Any Any (ue_at s at) _ (ue-ends s at) (λ k e p. tt) }

    -- tested, else 28
    pub test-gives : {A : Type 0} (ok : A → Bool) (F : Fmt A) → Gives R Any F.read → Gives R (λ a. ok a ≡ true) (test ok set_field (λ a. pos 0) F).read
    unfolding test
    test-gives ok F f = record { known = λ s at. after R Any (λ a. ok a ≡ true) (F.read s at) _ (f.known s at) (λ a e p. by-test R (λ a. ok a ≡ true) (ok a) _ _ (λ t. t) (λ t. r.field at)) }

    pub up-gives : (n : ℕ) → Gives R (λ v. leb v n ≡ true) (up_to n)
    unfolding up_to
    up-gives n = test-gives (λ v. leb v n) ue ue-gives

    pub within-gives : (low high : ℤ) → Gives R (λ v. between_z low high v ≡ true) (within low high)
    unfolding within
    within-gives low high = test-gives (between_z low high) se se-gives

-- ---- what it says of an answer

module _ {A : Type 0} {R : Refusal → Type 0} {P : A → Type 0} {F : Reads A} (f : Gives R P F) {s : Bits} {at : ℕ} where
  pub value-has : {a : A} {e : ℕ} → F s at ≡ got a e → P a
  value-has h = subst (Ends R P) h (f.known s at)

  pub refusal-has : {r : Refusal} → F s at ≡ no r → R r
  refusal-has h = subst (Ends R P) h (f.known s at)
