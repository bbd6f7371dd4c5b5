-- Reading by cases: what a test answers, and what until and times do with one element more.
use Prim.Native.Nat.{ℕ, zero, suc}
use mathlib.Core.Path.{◌≡◌}
use mathlib.Core.List.{[], ◌∷◌}
use mathlib.Core.Bool.{Bool, true, false}
use lib.IntN.{ℤ, pos}
use borrow.Author.Tests.{ne_eqb}
use Rattle.bits.specs.declared.refusals.Refusal.{Refusal}
use Rattle.bits.specs.Refusals.{got, no, bind, refusal_at, list_full}
use Rattle.bits.specs.Bits.{Bits}
use Rattle.fmt.specs.Fmt.{Fmt, test, times, until}
use Rattle.fmt.proofs.Lawful.{eqb-self}

module _ {A : Type 0} (ok : A → Bool) (n : ℕ) (value : A → ℤ) (F : Fmt A) (s : Bits) (at : ℕ) (a : A) (e : ℕ) (h : F.read s at ≡ got a e) where
  pub test-passes : ok a ≡ true → (test ok n value F).read s at ≡ got a e
  unfolding test
  test-passes k = rw (h, k)

  pub test-refuses : ok a ≡ false → (test ok n value F).read s at ≡ no (refusal_at n (value a) at)
  unfolding test
  test-refuses k = rw (h, k)

module _ {A : Type 0} (C : Fmt ℕ) (close : ℕ) (G : ℕ → Fmt A) (s : Bits) (at : ℕ) where
  pub until-no : (n : ℕ) (r : Refusal) → C.read s at ≡ no r → (until C close G n).read s at ≡ no r
  unfolding until
  until-no zero r h = rw h
  until-no (suc n) r h = rw h

  pub until-close : (n c e : ℕ) → C.read s at ≡ got c e → c ≡ close → (until C close G n).read s at ≡ got [] e
  unfolding until
  until-close zero c e h k = rw (h, k, eqb-self close)
  until-close (suc n) c e h k = rw (h, k, eqb-self close)

  pub until-full : (n c e : ℕ) → n ≡ 0 → C.read s at ≡ got c e → (c ≡ close → ⊥) → (until C close G n).read s at ≡ no (refusal_at list_full (pos 0) at)
  unfolding until
  until-full n c e z h k = rw (z, h, ne_eqb c close k)

  pub until-more : (m n c e : ℕ) → m ≡ suc n → C.read s at ≡ got c e → (c ≡ close → ⊥)
      → (until C close G m).read s at ≡ bind ((G c).read s e) (λ a e'. bind ((until C close G n).read s e') (λ l e''. got ((c, a) ∷ l) e''))
  unfolding until
  until-more m n c e z h k = rw (z, h, ne_eqb c close k)

module _ {A : Type 0} (F : Fmt A) (s : Bits) (at : ℕ) where
  pub times_none : (n : ℕ) → n ≡ 0 → (times n F).read s at ≡ got [] at
  unfolding times
  times_none n z = rw z

  pub times_more : (m n : ℕ) → m ≡ suc n → (times m F).read s at ≡ bind (F.read s at) (λ a e. bind ((times n F).read s e) (λ l e'. got (a ∷ l) e'))
  unfolding times
  times_more m n z = rw z
