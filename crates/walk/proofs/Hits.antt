-- Where 00 00 01 or an end mark stands, and where the first of them is: what the search cites.
use mathlib.Core.Path.{◌≡◌, refl}
use mathlib.Core.List.{List, [], ◌∷◌}
use mathlib.Core.Bool.{Bool, true, false, and-false, false≢true}
use Prim.Native.Nat.{ℕ, suc, ◌+◌, ◌-◌, ◌≤◌, ◌<◌}
use native.Mathlib.Omega.{arith}
use native.Mathlib.Numerals.{add-one}
use borrow.Author.Tests.{ne_eqb}
use lib.ListN.{length, get_or, drop, length-drop}
use lib.Seq.{drop-cons}
use Rattle.bits.specs.Refusals.{pick}
use Rattle.walk.specs.Walk.{hit, upto}

-- ---- at a place

-- a byte that is not zero is neither of the first two
pub hit-first : (k a : ℕ) (r : List ℕ) → (a ≡ 0 → ⊥) → hit k (a ∷ r) ≡ false
hit-first k a [] n = refl
hit-first k a (b ∷ []) n = refl
hit-first k a (b ∷ c ∷ r) n = rw (ne_eqb a 0 n)

pub hit-second : (k a b : ℕ) (r : List ℕ) → (b ≡ 0 → ⊥) → hit k (a ∷ b ∷ r) ≡ false
hit-second k a b [] n = refl
hit-second k a b (c ∷ r) n = rw (ne_eqb b 0 n) (simp and-false)

-- where it stands, its three bytes do
pub hit-room : (k : ℕ) (l : List ℕ) → hit k l ≡ true → 3 ≤ length l
hit-room k [] e = absurd (false≢true e)
hit-room k (a ∷ []) e = absurd (false≢true e)
hit-room k (a ∷ b ∷ []) e = absurd (false≢true e)
hit-room k (a ∷ b ∷ c ∷ r) e = omega arith

-- ---- the first place

pub upto-hit : (k : ℕ) (l : List ℕ) → hit k l ≡ true → upto k l ≡ 0
upto-hit k [] e = refl
upto-hit k (a ∷ r) e = rw e

pub upto-miss : (k : ℕ) (s : List ℕ) (i : ℕ) → i < length s → hit k (drop i s) ≡ false
    → i + upto k (drop i s) ≡ i + 1 + upto k (drop (i + 1) s)
upto-miss k s i h e =
    let d : drop i s ≡ get_or s i 0 ∷ drop (suc i) s = drop-cons s i 0 h in
    let f : hit k (get_or s i 0 ∷ drop (suc i) s) ≡ false = rw (← d) e in
    rw (add-one, d, f) (omega arith)

pub upto-short : (k : ℕ) (l : List ℕ) → length l ≤ 2 → upto k l ≡ length l
upto-short k [] h = refl
upto-short k (a ∷ []) h = refl
upto-short k (a ∷ b ∷ []) h = refl
upto-short k (a ∷ b ∷ c ∷ r) h = absurd (omega arith)

pub upto_le : (k : ℕ) (l : List ℕ) → upto k l ≤ length l
upto_le k [] = omega arith
upto_le k (a ∷ r) = go (hit k (a ∷ r)) (upto_le k r)
  where
    go : (t : Bool) → upto k r ≤ length r → pick t 0 (suc (upto k r)) ≤ suc (length r)
    go true h = omega arith
    go false h = omega arith

-- the search stops at what it looks for
pub upto-at : (k : ℕ) (l : List ℕ) → upto k l < length l → hit k (drop (upto k l) l) ≡ true
upto-at k [] h = absurd (omega arith)
upto-at k (a ∷ r) h = go (hit k (a ∷ r)) refl h (upto-at k r)
  where
    go : (t : Bool) → hit k (a ∷ r) ≡ t → pick t 0 (suc (upto k r)) < suc (length r) → (upto k r < length r → hit k (drop (upto k r) r) ≡ true)
        → hit k (drop (pick t 0 (suc (upto k r))) (a ∷ r)) ≡ true
    go true e g ih = e
    go false e g ih = ih (omega arith)

-- so its three bytes are there
pub code-room : (s : List ℕ) (from at : ℕ) → at ≡ from + upto 1 (drop from s) → at < length s → at + 3 ≤ length s
code-room s from at e h =
    let l : length (drop from s) ≡ length s - from = length-drop from s in
    let r : upto 1 (drop from s) < length (drop from s) = omega arith in
    omega (arith, simp length-drop at (hit-room 1 (drop (upto 1 (drop from s)) (drop from s)) (upto-at 1 (drop from s) r)))
