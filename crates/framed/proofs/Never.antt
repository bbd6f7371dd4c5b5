-- From start codes every unit is carried: a unit holds no end mark, and its last byte is not zero.
use mathlib.Core.Path.{◌≡◌, refl, sym, ◌∙◌}
use mathlib.Core.List.{List, [], ◌∷◌}
use mathlib.Core.Bool.{Bool, true, false, ◌&&◌, and-true, false≢true}
use Prim.Native.Nat.{ℕ, zero, suc, ◌≤◌, ◌<◌}
use native.Mathlib.Omega.{arith}
use lib.Dec.{eqb, leb, ltb}
use borrow.Author.Tests.{eqb-true, ltb-true, ltb-false}
use lib.ListN.{length, take, drop}
use lib.Seq.{length-take-le}
use Rattle.bits.specs.Refusals.{pick}
use Rattle.walk.specs.Walk.{hit, upto, keep, kept, len_of}
use Rattle.walk.specs.Units.{span_of, units_at, units}
use Rattle.walk.proofs.Hits.{upto_le}
use Rattle.walk.proofs.Trims.{kept-le}
use Rattle.framed.specs.Convert.{first_uncarried}
use Rattle.framed.proofs.Marks.{Plain, is_plain}
use Rattle.std.specs.Prelude.{None}

-- ---- no mark

-- a part in front has no mark where the whole has none
hit-take : (k : ℕ) (l : List ℕ) → hit 0 l ≡ false → hit 0 (take k l) ≡ false
hit-take zero l e = refl
hit-take (suc k) [] e = refl
hit-take (suc zero) (a ∷ r) e = refl
hit-take (suc (suc k)) (a ∷ []) e = refl
hit-take (suc (suc zero)) (a ∷ b ∷ r) e = refl
hit-take (suc (suc (suc k))) (a ∷ b ∷ []) e = refl
hit-take (suc (suc (suc k))) (a ∷ b ∷ c ∷ r) e = e

upto_take : (k : ℕ) (l : List ℕ) → k ≤ upto 0 l → upto 0 (take k l) ≡ k
upto_take zero l h = refl
upto_take (suc k) [] h = absurd (omega arith)
upto_take (suc k) (a ∷ r) h = go (hit 0 (a ∷ r)) refl h (upto_take k r)
  where
    go : (t : Bool) → hit 0 (a ∷ r) ≡ t → suc k ≤ pick t 0 (suc (upto 0 r)) → (k ≤ upto 0 r → upto 0 (take k r) ≡ k) → upto 0 (a ∷ take k r) ≡ suc k
    go true e g ih = absurd (omega arith)
    go false e g ih = rw (hit-take (suc k) (a ∷ r) e, ih (omega arith))

-- ---- no zero byte last

-- before an end mark stands no zero byte: it would be an end mark with the first two of it
before-mark : (a : ℕ) (r : List ℕ) → hit 0 r ≡ true → hit 0 (a ∷ r) ≡ false → eqb a 0 ≡ false
before-mark a [] e f = absurd (false≢true e)
before-mark a (x ∷ []) e f = absurd (false≢true e)
before-mark a (x ∷ y ∷ []) e f = absurd (false≢true e)
before-mark a (x ∷ y ∷ z ∷ r) e f = go (eqb x 0) refl (eqb y 0) refl e
  where
    go : (s : Bool) → eqb x 0 ≡ s → (t : Bool) → eqb y 0 ≡ t → (s && (t && (leb 0 z && leb z 1))) ≡ true → eqb a 0 ≡ false
    go true g true h e =
        let q : y ≡ 0 = eqb-true y 0 h in
        let w : (eqb a 0 && (eqb x 0 && (leb 0 y && leb y 1))) ≡ false = f in
        let v : eqb a 0 && true ≡ false = rw (g, q) at w in
        sym (and-true (eqb a 0)) ∙ v
    go true g false h e = absurd (false≢true e)
    go false g t h e = absurd (false≢true e)

first-hit : (r : List ℕ) → upto 0 r ≡ 0 → 0 < length r → hit 0 r ≡ true
first-hit [] e h = absurd (omega arith)
first-hit (a ∷ r) e h = go (hit 0 (a ∷ r)) e
  where
    go : (t : Bool) → pick t 0 (suc (upto 0 r)) ≡ 0 → t ≡ true
    go true e = refl
    go false e = absurd (omega arith)

kept-marked : (l : List ℕ) → upto 0 l < length l → kept (take (upto 0 l) l) ≡ upto 0 l
kept-marked [] h = refl
kept-marked (a ∷ r) h = go (hit 0 (a ∷ r)) refl h (kept-marked r)
  where
    goes : (k : ℕ) → upto 0 r ≡ k → upto 0 r < length r → hit 0 (a ∷ r) ≡ false → keep a k ≡ suc k
    goes zero e h f = rw (before-mark a r (first-hit r e (omega arith)) f)
    goes (suc k) e h f = refl

    go : (t : Bool) → hit 0 (a ∷ r) ≡ t → pick t 0 (suc (upto 0 r)) < suc (length r) → (upto 0 r < length r → kept (take (upto 0 r) r) ≡ upto 0 r)
        → kept (take (pick t 0 (suc (upto 0 r))) (a ∷ r)) ≡ pick t 0 (suc (upto 0 r))
    go true e g ih = refl
    go false e g ih =
        let w : upto 0 r < length r = omega arith in
        rw (ih w) (goes (upto 0 r) refl w e)

kept-open : (l : List ℕ) → kept (take (kept l) l) ≡ kept l
kept-open [] = refl
kept-open (a ∷ r) = go (kept r) (kept-open r)
  where
    one : (t : Bool) → eqb a 0 ≡ t → kept (take (pick t 0 1) (a ∷ r)) ≡ pick t 0 1
    one true e = refl
    one false e = rw e

    go : (k : ℕ) → kept (take k r) ≡ k → kept (take (keep a k) (a ∷ r)) ≡ keep a k
    go zero e = one (eqb a 0) refl
    go (suc k) e = rw e

-- ---- a unit

unit-plain : (b : List ℕ) → Plain (take (len_of b) b)
unfolding len_of
unit-plain b = go (ltb (upto 0 b) (length b)) refl
  where
    go : (t : Bool) → ltb (upto 0 b) (length b) ≡ t → Plain (take (pick t (upto 0 b) (kept b)) b)
    go true e =
        let m : upto 0 b ≤ length b = upto_le 0 b in
        let l : length (take (upto 0 b) b) ≡ upto 0 b = length-take-le (upto 0 b) b m in
        record { marks = upto_take (upto 0 b) b (omega arith) ∙ sym l; last = kept-marked b (ltb-true (upto 0 b) (length b) e) ∙ sym l }
    go false e =
        let g : length b ≤ upto 0 b = ltb-false (upto 0 b) (length b) e in
        let m : kept b ≤ length b = kept-le b in
        let l : length (take (kept b) b) ≡ kept b = length-take-le (kept b) b m in
        record { marks = upto_take (kept b) b (omega arith) ∙ sym l; last = kept-open b ∙ sym l }

pub all-carried : (n : ℕ) (l : List ℕ) → first_uncarried (units_at n l) ≡ None
all-carried n [] = refl
all-carried n (a ∷ r) = go (hit 1 (a ∷ r)) (all-carried (suc n) r)
  where
    go : (t : Bool) → first_uncarried (units_at (suc n) r) ≡ None → first_uncarried (pick t (span_of n (drop 2 r) ∷ units_at (suc n) r) (units_at (suc n) r)) ≡ None
    go true ih = rw (is_plain (take (len_of (drop 2 r)) (drop 2 r)) (unit-plain (drop 2 r)), ih)
    go false ih = ih

-- so 35 never arises from start codes
pub never-35 : (s : List ℕ) → first_uncarried (units s) ≡ None
never-35 s = all-carried 0 s
