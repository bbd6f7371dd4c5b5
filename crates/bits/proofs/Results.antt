-- Laws of what reading gives: reading on after a value, and testing one.
use Prim.Native.Nat.{ℕ}
use mathlib.Core.Path.{◌≡◌, refl}
use mathlib.Core.Bool.{Bool, true, false}
use native.Mathlib.Omega.{arith}
use lib.Dec.{T}
use Rattle.bits.specs.declared.refusals.Refusal.{Refusal}
use Rattle.bits.specs.Refusals.{Res, got, no, bind, pick}

-- by a test, with its equation
pub cases : {P : Type 0} (b : Bool) → (b ≡ true → P) → (b ≡ false → P) → P
cases true f g = f refl
cases false f g = g refl

-- a refusal is no value
pub never : {A P : Type 0} {a : A} {e : ℕ} {r : Refusal} → no r ≡ got a e → P
never h = absurd (let z : ◌≡◌ {A = ℕ} 0 1 = cc in omega arith)

-- what a reading that succeeded went through
pub under : {A B P : Type 0} {b : B} {e : ℕ} (m : Res A) (k : A → ℕ → Res B) → bind m k ≡ got b e → ((a : A) (d : ℕ) → m ≡ got a d → k a d ≡ got b e → P) → P
under (got a d) k h f = f a d refl h
under (no r) k h f = never h

-- and the test that it passed
pub chosen : {A : Type 0} (t : Bool) (a x : A) (d e : ℕ) (r : Refusal) → pick t (got a d) (no r) ≡ got x e → T t × (a ≡ x) × (d ≡ e)
chosen true a x d e r h = (tt, cc, cc)
chosen false a x d e r h = never h

pub bind-bind : {A B C : Type 0} (m : Res A) (f : A → ℕ → Res B) (g : B → ℕ → Res C) → bind (bind m f) g ≡ bind m (λ a e. bind (f a e) g)
bind-bind (got a e) f g = refl
bind-bind (no r) f g = refl

pub bind-got : {A : Type 0} (m : Res A) → bind m (λ a e. got a e) ≡ m
bind-got (got a e) = refl
bind-got (no r) = refl
