-- The entries that are read before a list ends or is refused: turn by turn; all of a list that is read; and no more than are read where bits are added behind.
use Prim.Native.Nat.{ℕ, zero, suc, ◌≤◌}
use mathlib.Core.Path.{◌≡◌, refl, ap, sym, ◌∙◌}
use mathlib.Core.List.{List, [], ◌∷◌, ◌++◌}
use mathlib.Core.Bool.{Bool, true, false}
use native.Mathlib.Omega.{arith}
use borrow.Author.Tests.{ne_eqb, eq-eqb}
use lib.Dec.{eqb}
use lib.ListN.{length, length-append, length-drop}
use lib.Seq.{length-take-le, take-append-le}
use Rattle.bits.specs.declared.refusals.Refusal.{Refusal}
use Rattle.bits.specs.Refusals.{Res, got, no, bind, pick}
use Rattle.bits.specs.Bits.{Bits}
use Rattle.bits.proofs.Results.{under, never}
use Rattle.fmt.specs.Fmt.{Fmt, times, until}
use Rattle.fmt.proofs.Lawful.{Lawful}
use Rattle.fmt.proofs.Any.{exact-at, local}
use Rattle.lists.specs.Begun.{after, times_begun, until_begun}

-- what is read is read where bits are added behind, and ends before them
pub reads_on : {A : Type 0} (F : Fmt A) → Lawful F → (s t : Bits) (at : ℕ) → at ≤ length s → {a : A} {e : ℕ} → F.read s at ≡ got a e → (F.read (s ++ t) at ≡ got a e) × (e ≤ length s)
reads_on F L s t at h {a} {e} r =
    let x = exact-at F L s at a e h r in
    let k : e ≤ length s
    = omega (arith, x.place, length-take-le at s h, ap length x.split, length-append (F.bits a) x.rest, length-drop at s) in
    (local F L s (s ++ t) at a e h r (sym (take-append-le e s t k)), k)

-- what follows a value, where it is read, and where bits are added behind
module _ {A B D : Type 0} (F : Fmt A) (s : Bits) (at : ℕ) (k : A → ℕ → List B) where
  pub after-all : (K : A → ℕ → Res D) (z : List B) {b : D} {e : ℕ} → bind (F.read s at) K ≡ got b e → ((a : A) (d : ℕ) → F.read s at ≡ got a d → K a d ≡ got b e → k a d ≡ z)
      → after (F.read s at) k ≡ z
  after-all K z h f = under (F.read s at) K h (λ a d ha j. rw ha (f a d ha j))

  pub after-few : Lawful F → (t : Bits) → at ≤ length s → (K : A → ℕ → Res D) (n : ℕ) {b : D} {e : ℕ} → bind (F.read (s ++ t) at) K ≡ got b e
      → ((a : A) (d : ℕ) → d ≤ length s → K a d ≡ got b e → length (k a d) ≤ n) → length (after (F.read s at) k) ≤ n
  after-few L t m K n {b} {e} h f = go (F.read s at) refl
    where
      go : (x : Res A) → F.read s at ≡ x → length (after x k) ≤ n
      go (no r) q = omega arith
      go (got a d) q = let p = reads_on F L s t at m q in f a d p.1 (rw p.0 at h)

-- ---- times

module _ {A : Type 0} (F : Fmt A) (s : Bits) where
  pub times-refused : (n at : ℕ) {r : Refusal} → F.read s at ≡ no r → times_begun n F s at ≡ []
  unfolding times_begun
  times-refused zero at h = refl
  times-refused (suc n) at h = rw h

  pub times-next : (m n at : ℕ) → m ≡ suc n → {a : A} {e : ℕ} → F.read s at ≡ got a e → times_begun m F s at ≡ a ∷ times_begun n F s e
  unfolding times_begun
  times-next m n at z h = rw (z, h)

  pub times-all : (n at : ℕ) (l : List A) (e : ℕ) → (times n F).read s at ≡ got l e → times_begun n F s at ≡ l
  unfolding times times_begun
  times-all zero at l e h = cc
  times-all (suc n) at l e h =
      under (F.read s at) _ h (λ a d ha k.
      under ((times n F).read s d) _ k (λ m f hm j.
      let w : a ∷ m ≡ l = cc in
      rw ha (ap (λ (x : List A). a ∷ x) (times-all n d m f hm) ∙ w)))

  pub times-few : Lawful F → (t : Bits) (n at : ℕ) → at ≤ length s → (l : List A) (e : ℕ) → (times n F).read (s ++ t) at ≡ got l e → length (times_begun n F s at) ≤ length l
  unfolding times times_begun
  times-few L t zero at b l e h = omega arith
  times-few L t (suc n) at b l e h = go (F.read s at) refl (λ d i m f. times-few L t n d i m f)
    where
      go : (m : Res A) → F.read s at ≡ m
          → ((d : ℕ) → d ≤ length s → (m : List A) (f : ℕ) → (times n F).read (s ++ t) d ≡ got m f → length (times_begun n F s d) ≤ length m)
          → length (times_begun (suc n) F s at) ≤ length l
      go (no r) q ih = rw q (omega arith)
      go (got a d) q ih =
          let p = reads_on F L s t at b q in
          under ((times n F).read (s ++ t) d) _ (rw p.0 at h) (λ m f hm j.
          let w : a ∷ m ≡ l = cc in
          rw (q, ← w) (omega (arith, ih d p.1 m f hm)))

-- ---- until

module _ {A : Type 0} (C : Fmt ℕ) (close : ℕ) (G : ℕ → Fmt A) (s : Bits) where
  pub until-refused : (n at : ℕ) {r : Refusal} → C.read s at ≡ no r → until_begun C close G n s at ≡ []
  unfolding until_begun
  until-refused zero at h = refl
  until-refused (suc n) at h = rw h

  pub until-closed : (n at : ℕ) {c e : ℕ} → C.read s at ≡ got c e → c ≡ close → until_begun C close G n s at ≡ []
  unfolding until_begun
  until-closed zero at h k = refl
  until-closed (suc n) at {c} h k = rw (h, eq-eqb c close k)

  pub until-filled : (n at : ℕ) → n ≡ 0 → until_begun C close G n s at ≡ []
  unfolding until_begun
  until-filled n at z = rw z

  module _ (m n at : ℕ) (z : m ≡ suc n) {c e : ℕ} (h : C.read s at ≡ got c e) (k : c ≡ close → ⊥) where
    pub until-operand : {r : Refusal} → (G c).read s e ≡ no r → until_begun C close G m s at ≡ []
    unfolding until_begun
    until-operand g = rw (z, h, ne_eqb c close k, g)

    pub until-next : {a : A} {d : ℕ} → (G c).read s e ≡ got a d → until_begun C close G m s at ≡ (c, a) ∷ until_begun C close G n s d
    unfolding until_begun
    until-next g = rw (z, h, ne_eqb c close k, g)

  pub until-all : (n at : ℕ) (l : List (ℕ × A)) (e : ℕ) → (until C close G n).read s at ≡ got l e → until_begun C close G n s at ≡ l
  unfolding until until_begun
  until-all zero at l e h = under (C.read s at) _ h (λ c d hc k. go (eqb c close) d _ k)
    where
      go : (b : Bool) (d : ℕ) (r : Refusal) → pick b (got [] d) (no r) ≡ got l e → [] ≡ l
      go true d r k = cc
      go false d r k = never k
  until-all (suc n) at l e h = under (C.read s at) _ h (λ c d hc k. rw hc (go c d (eqb c close) k (λ f m g. until-all n f m g)))
    where
      go : (c d : ℕ) (b : Bool) → pick b (got [] d) (bind ((G c).read s d) (λ a f. bind ((until C close G n).read s f) (λ m g. got ((c, a) ∷ m) g))) ≡ got l e
          → ((f : ℕ) (m : List (ℕ × A)) (g : ℕ) → (until C close G n).read s f ≡ got m g → until_begun C close G n s f ≡ m)
          → pick b [] (after ((G c).read s d) (λ a f. (c, a) ∷ until_begun C close G n s f)) ≡ l
      go c d true k ih = cc
      go c d false k ih =
          under ((G c).read s d) _ k (λ a f ha j.
          under ((until C close G n).read s f) _ j (λ m g hm i.
          let w : (c, a) ∷ m ≡ l = cc in
          rw ha (ap (λ (x : List (ℕ × A)). (c, a) ∷ x) (ih f m g hm) ∙ w)))

  -- of a list with room for n, where t is added behind
  abbrev Few : Bits → ℕ → Type 0
  Few t n = (at : ℕ) → at ≤ length s → (l : List (ℕ × A)) (e : ℕ) → (until C close G n).read (s ++ t) at ≡ got l e → length (until_begun C close G n s at) ≤ length l

  pub until-few : Lawful C → ((c : ℕ) → Lawful (G c)) → (t : Bits) (n : ℕ) → Few t n
  unfolding until until_begun
  until-few LC LG t zero at b l e h = omega arith
  until-few LC LG t (suc n) at b l e h = first (C.read s at) refl (λ f i m g. until-few LC LG t n f i m g)
    where
      second : Few t n → (c d : ℕ) → d ≤ length s → (m : Res A) → (G c).read s d ≡ m → (u : Bool)
          → pick u (got [] d) (bind ((G c).read (s ++ t) d) (λ a f. bind ((until C close G n).read (s ++ t) f) (λ v g. got ((c, a) ∷ v) g))) ≡ got l e
          → length (pick u [] (after m (λ a f. (c, a) ∷ until_begun C close G n s f))) ≤ length l
      second ih c d i m q true k = omega arith
      second ih c d i (no r) q false k = omega arith
      second ih c d i (got a f) q false k =
          let p = reads_on (G c) (LG c) s t d i q in
          under ((until C close G n).read (s ++ t) f) _ (rw p.0 at k) (λ v g hv j.
          let w : (c, a) ∷ v ≡ l = cc in
          rw (← w) (omega (arith, ih f p.1 v g hv)))

      first : (m : Res ℕ) → C.read s at ≡ m → Few t n → length (until_begun C close G (suc n) s at) ≤ length l
      first (no r) q ih = rw q (omega arith)
      first (got c d) q ih =
          let p = reads_on C LC s t at b q in
          rw q (second ih c d p.1 ((G c).read s d) refl (eqb c close) (rw p.0 at h))
