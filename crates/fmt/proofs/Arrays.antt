-- Laws of lists in arrays of a fixed length.
use Prim.Native.Nat.{ℕ, zero, suc, ◌+◌, ◌-◌, ◌≤◌, ◌<◌}
use mathlib.Core.Path.{◌≡◌, refl, ap, ap₂, sym, ◌∙◌}
use mathlib.Core.List.{List, [], ◌∷◌, ◌++◌, map, append_assoc}
use mathlib.Core.Bool.{Bool, ◌&&◌}
use native.Mathlib.Omega.{arith}
use native.Mathlib.Nat.{sub-zero}
use lib.Dec.{T, eqb, leb, eqb→eq, leb→le, le→leb}
use lib.ListN.{length, take, drop, set, replicate, length-append, length-replicate, take-append-drop, length-drop, length-map}
use lib.Seq.{take-append_seam, drop-append_seam, length-take-le, set-append_seam}
use borrow.Author.Tests.{eq-eqb}
use Rattle.fmt.specs.Arrays.{pad, all_zero, padded}
use Rattle.fmt.proofs.Lawful.{both-0, both-1, both-T}

-- ---- padding

module _ {A : Type 0} (z : A) (n : ℕ) where
  pub pad-none : pad z n [] ≡ replicate n z
  unfolding pad
  pad-none = rw (sub-zero n)

  pub unpad-pad : (l : List A) → take (length l) (pad z n l) ≡ l
  unfolding pad
  unpad-pad l = take-append_seam l (replicate (n - length l) z)

  pub length-pad : (l : List A) → length l ≤ n → length (pad z n l) ≡ n
  unfolding pad
  length-pad l h = omega (arith, length-append l (replicate (n - length l) z), length-replicate (n - length l) z)

  -- one element more
  pub pad-next : (l : List A) (a : A) → length l < n → set (pad z n l) (length l) a ≡ pad z n (l ++ (a ∷ []))
  unfolding pad
  pad-next l a h =
      let m : n - length l ≡ suc (n - (length l + 1)) = omega arith in
      let k : length (l ++ (a ∷ [])) ≡ length l + 1 = length-append l (a ∷ []) in
      ap (λ (j : ℕ). set (l ++ replicate j z) (length l) a) m
      ∙ set-append_seam l z (replicate (n - (length l + 1)) z) a
      ∙ sym (append_assoc l (a ∷ []) (replicate (n - (length l + 1)) z))
      ∙ ap (λ (j : ℕ). (l ++ (a ∷ [])) ++ replicate (n - j) z) (sym k)

-- an array that holds what f takes of each element of a list
module _ {A E : Type 0} (z : A) (n : ℕ) (f : E → A) where
  pub column-next : (l : List E) (e : E) → length l < n → set (pad z n (map f l)) (length l) (f e) ≡ pad z n (map f (l ++ (e ∷ [])))
  column-next l e h =
      let k = length-map l f in
      ap (λ (j : ℕ). set (pad z n (map f l)) j (f e)) (sym k) ∙ pad-next z n (map f l) (f e) (omega arith) ∙ ap (pad z n) (sym (map_snoc l))
    where
      map_snoc : (l : List E) → map f (l ++ (e ∷ [])) ≡ map f l ++ (f e ∷ [])
      map_snoc [] = refl
      map_snoc (x ∷ l) = ap (λ (m : List A). f x ∷ m) (map_snoc l)

-- ---- what is padded

module _ {A : Type 0} (isz : A → Bool) where
  pub padded-le : (n k : ℕ) (xs : List A) → T (padded isz n k xs) → (k ≤ n) × (length xs ≡ n)
  unfolding padded
  padded-le n k xs t =
      let a = both-0 (leb k n && eqb (length xs) n) (all_zero isz (drop k xs)) t in
      (leb→le k n (both-0 (leb k n) (eqb (length xs) n) a), eqb→eq (length xs) n (both-1 (leb k n) (eqb (length xs) n) a))

  pub length-unpad : (n k : ℕ) (xs : List A) → T (padded isz n k xs) → length (take k xs) ≡ k
  length-unpad n k xs t = length-take-le k xs (omega (arith, (padded-le n k xs t).0, (padded-le n k xs t).1))

module _ {A : Type 0} (z : A) (isz : A → Bool) (zero_is : T (isz z)) where
  zero-all : (n : ℕ) → T (all_zero isz (replicate n z))
  zero-all zero = tt
  zero-all (suc n) = both-T (isz z) (all_zero isz (replicate n z)) zero_is (zero-all n)

  pub pad-padded : (n : ℕ) (l : List A) → length l ≤ n → T (padded isz n (length l) (pad z n l))
  unfolding pad padded
  pad-padded n l h =
      both-T (leb (length l) n && eqb (length (pad z n l)) n) (all_zero isz (drop (length l) (pad z n l)))
      (both-T (leb (length l) n) (eqb (length (pad z n l)) n) (le→leb (length l) n h) (rw (eq-eqb (length (pad z n l)) n (length-pad z n l h)) tt))
      (rw (drop-append_seam l (replicate (n - length l) z)) (zero-all (n - length l)))

module _ {A : Type 0} (z : A) (isz : A → Bool) (is_zero : (a : A) → T (isz a) → a ≡ z) where
  all_zero-is : (l : List A) → T (all_zero isz l) → l ≡ replicate (length l) z
  all_zero-is [] t = refl
  all_zero-is (x ∷ l) t =
      ap₂ (λ (a : A) (b : List A). a ∷ b) (is_zero x (both-0 (isz x) (all_zero isz l) t)) (all_zero-is l (both-1 (isz x) (all_zero isz l) t))

  pub pad-unpad : (n k : ℕ) (xs : List A) → T (padded isz n k xs) → pad z n (take k xs) ≡ xs
  unfolding pad padded
  pad-unpad n k xs t =
      let w = padded-le isz n k xs t in
      let y = all_zero-is (drop k xs) (both-1 (leb k n && eqb (length xs) n) (all_zero isz (drop k xs)) t) in
      let d : length (drop k xs) ≡ n - k = omega (arith, w.0, w.1, length-drop k xs) in
      ap (λ (j : ℕ). take k xs ++ replicate (n - j) z) (length-unpad isz n k xs t)
      ∙ ap (λ (j : ℕ). take k xs ++ replicate j z) (sym d)
      ∙ ap (λ (l : List A). take k xs ++ l) (sym y)
      ∙ take-append-drop k xs
