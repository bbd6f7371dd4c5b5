-- The least and the greatest QP of a picture are those of slices of it, and no slice's is beyond.
use Prim.Native.Nat.{ℕ}
use mathlib.Core.Path.{◌≡◌, refl, ◌∙◌}
use mathlib.Core.Bool.{true, false}
use mathlib.Core.List.Memᴰ
use mathlib.Core.List.{List, [], ◌∷◌, map, Memᴰ}
use mathlib.Core.Logic.{◌⊎◌, inl, inr, ⊎_elim}
use native.Mathlib.Omega.{arith}
use borrow.Author.Tests.{leb-true, leb-false, le-leb}
use lib.IntN.{ℤ, pos, negsuc}
use lib.Signed.{le_z}
use Rattle.bits.proofs.Results.{cases}
use Rattle.exposures.specs.declared.slice.Slice.{Slice}
use Rattle.exposures.specs.Exposure.{lesser, greater, over}

-- ---- the order of integers, by its test

abbrev Le : ℤ → ℤ → Type 0
Le a b = le_z a b ≡ true

le-self : (a : ℤ) → Le a a
le-self (pos a) = le-leb a a (omega arith)
le-self (negsuc a) = le-leb a a (omega arith)

le_on : (a b c : ℤ) → Le a b → Le b c → Le a c
le_on (pos a) (pos b) (pos c) h k = le-leb a c (omega (arith, leb-true a b h, leb-true b c k))
le_on (pos a) (pos b) (negsuc c) h k = k
le_on (pos a) (negsuc b) (pos c) h k = absurd (let z : ◌≡◌ {A = ℕ} 0 1 = cc in omega arith)
le_on (pos a) (negsuc b) (negsuc c) h k = h
le_on (negsuc a) (pos b) (pos c) h k = refl
le_on (negsuc a) (pos b) (negsuc c) h k = absurd (let z : ◌≡◌ {A = ℕ} 0 1 = cc in omega arith)
le_on (negsuc a) (negsuc b) (pos c) h k = refl
le_on (negsuc a) (negsuc b) (negsuc c) h k = le-leb c a (omega (arith, leb-true b a h, leb-true c b k))

le-or : (a b : ℤ) → le_z a b ≡ false → Le b a
le-or (pos a) (pos b) h = le-leb b a (omega (arith, leb-false a b h))
le-or (pos a) (negsuc b) h = refl
le-or (negsuc a) (pos b) h = absurd (let z : ◌≡◌ {A = ℕ} 0 1 = cc in omega arith)
le-or (negsuc a) (negsuc b) h = le-leb a b (omega (arith, leb-false b a h))

-- ---- one of two, again and again

module _ (f : ℤ → ℤ → ℤ) where
  -- where f gives one of the two, what it comes to is one of them all
  member : ((x y : ℤ) → (f x y ≡ x) ⊎ (f x y ≡ y)) → (x : ℤ) (l : List Slice) → Memᴰ (over f x l) (x ∷ map (λ (a : Slice). a.qp) l)
  member one x [] = Memᴰ.head refl
  member one x (a ∷ r) =
      ⊎_elim
      (λ (e : over f (f x a.qp) r ≡ f x a.qp).
      ⊎_elim (λ (d : f x a.qp ≡ x). Memᴰ.head (e ∙ d)) (λ (d : f x a.qp ≡ a.qp). Memᴰ.tail (Memᴰ.head (e ∙ d))) (one x a.qp))
      (λ (m : Memᴰ (over f (f x a.qp) r) (map (λ (b : Slice). b.qp) r)). Memᴰ.tail (Memᴰ.tail m))
      (Memᴰ.cases_cons (member one (f x a.qp) r))

  -- where R goes on, and f's answer has it to both, what it comes to has it to all
  module _ (R : ℤ → ℤ → Type 0) (self : (x : ℤ) → R x x) (on : (x y z : ℤ) → R x y → R y z → R x z) (left : (x y : ℤ) → R (f x y) x) (right : (x y : ℤ) → R (f x y) y) where
    bound-first : (x : ℤ) (l : List Slice) → R (over f x l) x
    bound-first x [] = self x
    bound-first x (a ∷ r) = on _ _ _ (bound-first (f x a.qp) r) (left x a.qp)

    bound : (x : ℤ) (l : List Slice) (y : ℤ) → Memᴰ y (x ∷ map (λ (a : Slice). a.qp) l) → R (over f x l) y
    bound x l y m =
        ⊎_elim (λ (e : y ≡ x). rw e (bound-first x l)) (λ (n : Memᴰ y (map (λ (a : Slice). a.qp) l)). behind l x n) (Memᴰ.cases_cons m)
      where
        behind : (l : List Slice) (x : ℤ) → Memᴰ y (map (λ (a : Slice). a.qp) l) → R (over f x l) y
        behind [] x n = absurd (Memᴰ.not-nil n)
        behind (a ∷ r) x n =
            ⊎_elim (λ (e : y ≡ a.qp). rw e (on _ _ _ (bound-first (f x a.qp) r) (right x a.qp)))
            (λ (k : Memᴰ y (map (λ (b : Slice). b.qp) r)). behind r (f x a.qp) k) (Memᴰ.cases_cons n)

-- ---- least and greatest

one-lesser : (x y : ℤ) → (lesser x y ≡ x) ⊎ (lesser x y ≡ y)
one-lesser x y = cases (le_z x y) (λ h. inl (rw h)) (λ h. inr (rw h))

one-greater : (x y : ℤ) → (greater x y ≡ x) ⊎ (greater x y ≡ y)
one-greater x y = cases (le_z x y) (λ h. inr (rw h)) (λ h. inl (rw h))

-- the QPs of a picture with this first slice and the rest
abbrev pub qps : Slice → List Slice → List ℤ
qps first rest = first.qp ∷ map (λ (a : Slice). a.qp) rest

module _ (first : Slice) (rest : List Slice) where
  -- the least QP is one of them, and none is less
  pub least-member : Memᴰ (over lesser first.qp rest) (qps first rest)
  least-member = member lesser one-lesser first.qp rest

  pub least-bound : (y : ℤ) → Memᴰ y (qps first rest) → le_z (over lesser first.qp rest) y ≡ true
  least-bound =
      bound lesser Le le-self le_on (λ x y. cases (le_z x y) (λ h. rw h (le-self x)) (λ h. rw h (le-or x y h))) (λ x y. cases (le_z x y) (λ h. rw h h) (λ h. rw h (le-self y)))
      first.qp rest

  -- the greatest QP is one of them, and none is greater
  pub greatest-member : Memᴰ (over greater first.qp rest) (qps first rest)
  greatest-member = member greater one-greater first.qp rest

  pub greatest-bound : (y : ℤ) → Memᴰ y (qps first rest) → le_z y (over greater first.qp rest) ≡ true
  greatest-bound =
      bound greater (λ a b. Le b a) le-self (λ x y z h k. le_on z y x k h) (λ x y. cases (le_z x y) (λ h. rw h h) (λ h. rw h (le-self x)))
      (λ x y. cases (le_z x y) (λ h. rw h (le-self y)) (λ h. rw h (le-or x y h))) first.qp rest
