-- Words written over the front of a list, entry after entry.
use Prim.Native.Nat.{ℕ, suc, ◌+◌, ◌*◌, ◌≤◌, ◌<◌}
use mathlib.Core.Path.{◌≡◌, refl, ap, sym, ◌∙◌}
use mathlib.Core.List.{List, [], ◌∷◌, ◌++◌, flat_map, append_assoc, append-nil}
use native.Mathlib.Omega.{arith}
use native.Mathlib.Nat.{mul-suc}
use lib.ListN.{length, set, replicate, length-append, length-replicate, replicate-append-replicate}
use lib.Seq.{sets, set-set, set_comm}

module _ {A : Type 0} where
  pub sets-append : (t : List A) (i : ℕ) (l m : List A) → sets t i (l ++ m) ≡ sets (sets t i l) (i + length l) m
  sets-append t i [] m = ap (λ (k : ℕ). sets t k m) (omega arith)
  sets-append t i (a ∷ l) m = sets-append (set t i a) (suc i) l m ∙ ap (λ (k : ℕ). sets (sets (set t i a) (suc i) l) k m) (omega arith)

  -- one word more of a run of equal words
  pub same_next : (t : List A) (k : ℕ) (a : A) → set (sets t 0 (replicate k a)) k a ≡ sets t 0 (replicate (k + 1) a)
  same_next t k a =
      let n : 0 + length (replicate k a) ≡ k = omega (arith, length-replicate k a) in
      ap (λ (i : ℕ). set (sets t 0 (replicate k a)) i a) (sym n)
      ∙ sym (sets-append t 0 (replicate k a) (a ∷ []))
      ∙ ap (λ (l : List A). sets t 0 l) (replicate-append-replicate k 1 a)

  -- a word before a run of words
  set_before : (t : List A) (i j : ℕ) (a : A) (x : List A) → i < j → set (sets t j x) i a ≡ sets (set t i a) j x
  set_before t i j a [] h = refl
  set_before t i j a (b ∷ x) h =
      set_before (set t j b) i (suc j) a x (omega arith) ∙ ap (λ (l : List A). sets l (suc j) x) (set_comm t j i b a (λ e. omega arith))

  -- words over words that are no more
  pub sets_over : (t : List A) (i : ℕ) (x y : List A) → length x ≤ length y → sets (sets t i x) i y ≡ sets t i y
  sets_over t i [] y h = refl
  sets_over t i (a ∷ x) [] h = absurd (omega arith)
  sets_over t i (a ∷ x) (b ∷ y) h =
      ap (λ (l : List A). sets l (suc i) y) (set_before (set t i a) i (suc i) b x (omega arith) ∙ ap (λ (l : List A). sets l (suc i) x) (set-set t i a b))
      ∙ sets_over (set t i b) (suc i) x y (omega arith)

-- entries of n words each
module _ {A B : Type 0} (f : A → List B) (n : ℕ) where
  pub length-flat : ((a : A) → length (f a) ≡ n) → (l : List A) → length (flat_map f l) ≡ n * length l
  unfolding flat_map
  length-flat size [] = omega arith
  length-flat size (a ∷ l) = omega (arith, length-append (f a) (flat_map f l), size a, length-flat size l, mul-suc n (length l))

  flat-snoc : (l : List A) (a : A) → flat_map f (l ++ (a ∷ [])) ≡ flat_map f l ++ f a
  unfolding flat_map
  flat-snoc [] a = append-nil (f a)
  flat-snoc (x ∷ l) a = ap (λ (m : List B). f x ++ m) (flat-snoc l a) ∙ sym (append_assoc (f x) (flat_map f l) (f a))

  -- one entry more, behind the others
  pub front-next : ((a : A) → length (f a) ≡ n) → (t : List B) (l : List A) (a : A)
      → sets (sets t 0 (flat_map f l)) (n * length l) (f a) ≡ sets t 0 (flat_map f (l ++ (a ∷ [])))
  front-next size t l a =
      let k : n * length l ≡ 0 + length (flat_map f l) = omega (arith, length-flat size l) in
      rw (k, flat-snoc l a) (sym (sets-append t 0 (flat_map f l) (f a)))
