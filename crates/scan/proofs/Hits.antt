-- Where 00 00 and a byte within bounds stand, and where the first of them is: what searches cite. k and m are the bounds.
use mathlib.Core.Path.{◌≡◌, refl, ◌∙◌}
use mathlib.Core.List.{List, [], ◌∷◌}
use mathlib.Core.Bool.{Bool, true, false, ◌&&◌, and-false, false≢true}
use Prim.Native.Nat.{ℕ, zero, suc, ◌+◌, ◌≤◌, ◌<◌}
use native.Mathlib.Omega.{arith}
use native.Mathlib.Decide.{dec_lt}
use native.Mathlib.Numerals.{add-one}
use lib.Dec.{eqb, leb}
use borrow.Author.Tests.{le-leb, lt-leb, eq-eqb, ne_eqb}
use lib.ListN.{length, get_or, drop, length-drop}
use lib.Seq.{drop-cons}
use Rattle.bits.specs.Refusals.{pick}
use Rattle.scan.specs.Scan.{hit, upto}

-- ---- at a place

-- the three bytes that `hit` looks at
pub hit-drop : (k m : ℕ) (s : List ℕ) (i : ℕ) → i + 2 < length s
    → hit k m (drop i s) ≡ (eqb (get_or s i 0) 0 && (eqb (get_or s (i + 1) 0) 0 && (leb k (get_or s (i + 2) 0) && leb (get_or s (i + 2) 0) m)))
hit-drop k m s i h =
    let h0 : i < length s = omega arith in
    let h1 : suc i < length s = omega arith in
    let h2 : suc (suc i) < length s = omega arith in
    let e1 : i + 1 ≡ suc i = omega arith in
    let e2 : i + 2 ≡ suc (suc i) = omega arith in
    rw (e1, e2, drop-cons s i 0 h0, drop-cons s (suc i) 0 h1, drop-cons s (suc (suc i)) 0 h2)

module _ (k m : ℕ) (s : List ℕ) (i : ℕ) (h : i + 2 < length s) where
  pub hit-no-1 : (get_or s i 0 ≡ 0 → ⊥) → hit k m (drop i s) ≡ false
  hit-no-1 n = rw (hit-drop k m s i h, ne_eqb _ _ n)

  pub hit-no-2 : (get_or s (i + 1) 0 ≡ 0 → ⊥) → hit k m (drop i s) ≡ false
  hit-no-2 n = rw (hit-drop k m s i h, ne_eqb (get_or s (i + 1) 0) 0 n) (simp and-false)

  pub hit-no-3 : get_or s (i + 2) 0 < k → hit k m (drop i s) ≡ false
  hit-no-3 n = rw (hit-drop k m s i h, lt-leb k (get_or s (i + 2) 0) n) (simp and-false)

  pub hit-no-4 : m < get_or s (i + 2) 0 → hit k m (drop i s) ≡ false
  hit-no-4 n = rw (hit-drop k m s i h, lt-leb (get_or s (i + 2) 0) m n) (simp and-false)

  pub hit-yes : get_or s i 0 ≡ 0 → get_or s (i + 1) 0 ≡ 0 → k ≤ get_or s (i + 2) 0 → hit k m (drop i s) ≡ leb (get_or s (i + 2) 0) m
  hit-yes a b n = rw (hit-drop k m s i h, eq-eqb (get_or s i 0) 0 a, eq-eqb (get_or s (i + 1) 0) 0 b, le-leb k (get_or s (i + 2) 0) n)

-- fewer than three bytes are left
pub hit-short : (k m : ℕ) (s : List ℕ) (i : ℕ) → length s < i + 3 → hit k m (drop i s) ≡ false
hit-short k m s i h = go (drop i s) (simp length-drop (omega arith))
  where
    go : (l : List ℕ) → length l < 3 → hit k m l ≡ false
    go [] g = refl
    go (a ∷ []) g = refl
    go (a ∷ b ∷ []) g = refl
    go (a ∷ b ∷ c ∷ r) g = absurd (omega arith)

-- a byte that is not zero is neither of the first two
pub hit-first : (k m a : ℕ) (r : List ℕ) → (a ≡ 0 → ⊥) → hit k m (a ∷ r) ≡ false
hit-first k m a [] n = refl
hit-first k m a (b ∷ []) n = refl
hit-first k m a (b ∷ c ∷ r) n = rw (ne_eqb a 0 n)

pub hit-second : (k m a b : ℕ) (r : List ℕ) → (b ≡ 0 → ⊥) → hit k m (a ∷ b ∷ r) ≡ false
hit-second k m a b [] n = refl
hit-second k m a b (c ∷ r) n = rw (ne_eqb b 0 n) (simp and-false)

-- where it stands, its three bytes do
pub hit-room : (k m : ℕ) (l : List ℕ) → hit k m l ≡ true → 3 ≤ length l
hit-room k m [] e = absurd (false≢true e)
hit-room k m (a ∷ []) e = absurd (false≢true e)
hit-room k m (a ∷ b ∷ []) e = absurd (false≢true e)
hit-room k m (a ∷ b ∷ c ∷ r) e = omega arith

-- ---- the first place

pub upto-hit : (k m : ℕ) (l : List ℕ) → hit k m l ≡ true → upto k m l ≡ 0
upto-hit k m [] e = refl
upto-hit k m (a ∷ r) e = rw e

pub upto-miss : (k m : ℕ) (s : List ℕ) (i : ℕ) → i < length s → hit k m (drop i s) ≡ false
    → i + upto k m (drop i s) ≡ i + 1 + upto k m (drop (i + 1) s)
upto-miss k m s i h e =
    let d : drop i s ≡ get_or s i 0 ∷ drop (suc i) s = drop-cons s i 0 h in
    let f : hit k m (get_or s i 0 ∷ drop (suc i) s) ≡ false = rw (← d) e in
    rw (add-one, d, f) (omega arith)

-- a byte over the upper bound is none of the three
pub upto_skip : (k m : ℕ) (s : List ℕ) (i : ℕ) → i + 2 < length s → m < get_or s (i + 2) 0
    → i + upto k m (drop i s) ≡ i + 3 + upto k m (drop (i + 3) s)
upto_skip k m s i h g =
    let q : i + 1 + 1 ≡ i + 2 = omega arith in
    let r : i + 2 + 1 ≡ i + 3 = omega arith in
    upto-miss k m s i (omega arith) (hit-no-4 k m s i h g)
    ∙ (rw q at (upto-miss k m s (i + 1) (omega arith) (second (dec_lt (i + 1 + 2) (length s)))))
    ∙ (rw r at (upto-miss k m s (i + 2) h (third (dec_lt (i + 2 + 2) (length s)))))
  where
    second : Dec (i + 1 + 2 < length s) → hit k m (drop (i + 1) s) ≡ false
    second (yes l) = let q : i + 2 ≡ i + 1 + 1 = omega arith in let g' : m < get_or s (i + 1 + 1) 0 = rw q at g in hit-no-2 k m s (i + 1) l (λ e. omega (arith, g', e))
    second (no l) = hit-short k m s (i + 1) (omega arith)

    third : Dec (i + 2 + 2 < length s) → hit k m (drop (i + 2) s) ≡ false
    third (yes l) = hit-no-1 k m s (i + 2) l (λ e. omega (arith, g, e))
    third (no l) = hit-short k m s (i + 2) (omega arith)

pub upto-short : (k m : ℕ) (l : List ℕ) → length l ≤ 2 → upto k m l ≡ length l
upto-short k m [] h = refl
upto-short k m (a ∷ []) h = refl
upto-short k m (a ∷ b ∷ []) h = refl
upto-short k m (a ∷ b ∷ c ∷ r) h = absurd (omega arith)

pub upto_le : (k m : ℕ) (l : List ℕ) → upto k m l ≤ length l
upto_le k m [] = omega arith
upto_le k m (a ∷ r) = go (hit k m (a ∷ r)) (upto_le k m r)
  where
    go : (t : Bool) → upto k m r ≤ length r → pick t 0 (suc (upto k m r)) ≤ suc (length r)
    go true h = omega arith
    go false h = omega arith

-- nothing that is sought begins before
pub upto_before : (k m : ℕ) (l : List ℕ) (j : ℕ) → j < upto k m l → hit k m (drop j l) ≡ false
upto_before k m [] j h = absurd (omega arith)
upto_before k m (a ∷ r) j h = go (hit k m (a ∷ r)) refl j h (upto_before k m r)
  where
    go : (t : Bool) → hit k m (a ∷ r) ≡ t → (i : ℕ) → i < pick t 0 (suc (upto k m r)) → ((n : ℕ) → n < upto k m r → hit k m (drop n r) ≡ false)
        → hit k m (drop i (a ∷ r)) ≡ false
    go true e i g ih = absurd (omega arith)
    go false e zero g ih = e
    go false e (suc i) g ih = ih i (omega arith)

-- the search stops at what it looks for
pub upto-at : (k m : ℕ) (l : List ℕ) → upto k m l < length l → hit k m (drop (upto k m l) l) ≡ true
upto-at k m [] h = absurd (omega arith)
upto-at k m (a ∷ r) h = go (hit k m (a ∷ r)) refl h (upto-at k m r)
  where
    go : (t : Bool) → hit k m (a ∷ r) ≡ t → pick t 0 (suc (upto k m r)) < suc (length r) → (upto k m r < length r → hit k m (drop (upto k m r) r) ≡ true)
        → hit k m (drop (pick t 0 (suc (upto k m r))) (a ∷ r)) ≡ true
    go true e g ih = e
    go false e g ih = ih (omega arith)
