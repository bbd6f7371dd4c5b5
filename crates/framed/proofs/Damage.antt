-- What damage leaves: the units that end before it. A length says where the next one stands, so nothing holds of those behind it (Examples).
use mathlib.Core.Path.{◌≡◌, refl, sym, subst, ap, ◌∙◌}
use mathlib.Core.List.{List, [], ◌∷◌, ◌++◌, append-nil}
use mathlib.Core.Bool.{Bool, true, false}
use Prim.Native.Nat.{ℕ, zero, suc, ◌+◌, ◌≤◌, ◌<◌}
use native.Mathlib.Omega.{arith}
use native.Mathlib.Nat.{zero-add}
use native.Mathlib.Decide.{dec_le}
use lib.Dec.{leb}
use borrow.Author.Tests.{le-leb, lt-leb}
use lib.ListN.{length, length-append}
use lib.Seq.{take-append-le}
use Rattle.bits.specs.Refusals.{pick}
use Rattle.walk.specs.Units.{Report, Span}
use Rattle.walk.specs.Reports.{sift, ends_before}
use Rattle.walk.proofs.Border.{First}
use Rattle.walk.proofs.State.{run, early-with}
use Rattle.framed.specs.Framed.{four, span_by, framed_at, framed_units, ends_by}

-- ---- where units end

-- each behind its length
late-at : (b k n : ℕ) (l : List ℕ) → b < n + k + 4 → ends_by b (framed_at k n l) ≡ []
late-at b (suc k) n [] h = refl
late-at b (suc k) n (a ∷ r) h = late-at b k (suc n) r (omega arith)
late-at b zero n [] h = refl
late-at b zero n (x ∷ []) h = refl
late-at b zero n (x ∷ y ∷ []) h = refl
late-at b zero n (x ∷ y ∷ z ∷ []) h = refl
late-at b zero n (x ∷ y ∷ z ∷ w ∷ r) h = go (leb (four x y z w) (length r)) (late-at b (four x y z w) (n + 4) r (omega arith))
  where
    go : (t : Bool) → ends_by b (framed_at (four x y z w) (n + 4) r) ≡ [] → ends_by b (pick t (span_by (n + 4) (four x y z w) r ∷ framed_at (four x y z w) (n + 4) r) []) ≡ []
    go true e = rw (lt-leb (n + 4 + four x y z w) b (omega arith)) e
    go false e = refl

-- ---- what stands before

-- the units of P come first, and those after them end behind it
record Before (k n : ℕ) (P X : List ℕ) : Type 0 where
  rest : List Span
  joined : framed_at k n (P ++ X) ≡ framed_at k n P ++ rest
  late : ends_by (n + length P) rest ≡ []
  early : ends_by (n + length P) (framed_at k n P) ≡ framed_at k n P

-- fewer than four bytes
none_before : (n : ℕ) (P X : List ℕ) → framed_at 0 n P ≡ [] → length P < 4 → Before 0 n P X
none_before n P X e h = record { rest = framed_at 0 n (P ++ X); joined = rw e; late = late-at (n + length P) 0 n (P ++ X) (omega arith); early = rw e }

before : (k n : ℕ) (P X : List ℕ) → k ≤ length P → Before k n P X
before (suc k) n [] X h = absurd (omega arith)
before (suc k) n (a ∷ P) X h =
    let e : n + suc (length P) ≡ suc n + length P = omega arith in
    let b = before k (suc n) P X (omega arith) in
    record { rest = b.rest; joined = b.joined; late = rw e b.late; early = rw e b.early }
before zero n [] X h = none_before n [] X refl (omega arith)
before zero n (a ∷ []) X h = none_before n (a ∷ []) X refl (omega arith)
before zero n (a ∷ b ∷ []) X h = none_before n (a ∷ b ∷ []) X refl (omega arith)
before zero n (a ∷ b ∷ c ∷ []) X h = none_before n (a ∷ b ∷ c ∷ []) X refl (omega arith)
before zero n (a ∷ b ∷ c ∷ d ∷ P) X h = go (dec_le (four a b c d) (length P)) (before (four a b c d) (n + 4) P X)
  where
    e : n + suc (suc (suc (suc (length P)))) ≡ n + 4 + length P
    e = omega arith

    over : (t : Bool) → length P < four a b c d
        → ends_by (n + 4 + length P) (pick t (span_by (n + 4) (four a b c d) (P ++ X) ∷ framed_at (four a b c d) (n + 4) (P ++ X)) []) ≡ []
    over true g = rw (lt-leb (n + 4 + four a b c d) (n + 4 + length P) (omega arith)) (late-at (n + 4 + length P) (four a b c d) (n + 4) (P ++ X) (omega arith))
    over false g = refl

    go : Dec (four a b c d ≤ length P) → (four a b c d ≤ length P → Before (four a b c d) (n + 4) P X) → Before 0 n (a ∷ b ∷ c ∷ d ∷ P) X
    go (yes g) ih =
        let i = ih g in
        let l : four a b c d ≤ length (P ++ X) = rw length-append (omega arith) in
        record {
          rest = i.rest;
          joined = rw (le-leb (four a b c d) (length (P ++ X)) l, le-leb (four a b c d) (length P) g, take-append-le (four a b c d) P X g) (ap (λ (us : List Span). span_by (n + 4) (four a b c d) P ∷ us) i.joined);
          late = rw e i.late;
          early =
              subst (λ (m : ℕ). ends_by m (framed_at 0 n (a ∷ b ∷ c ∷ d ∷ P)) ≡ framed_at 0 n (a ∷ b ∷ c ∷ d ∷ P)) (sym e)
              (rw (le-leb (four a b c d) (length P) g, le-leb (n + 4 + four a b c d) (n + 4 + length P) (omega arith)) (ap (λ (us : List Span). span_by (n + 4) (four a b c d) P ∷ us) i.early));
        }
    go (no g) ih =
        let q : length P < four a b c d = omega arith in
        record {
          rest = framed_at 0 n (a ∷ b ∷ c ∷ d ∷ P ++ X);
          joined = rw (lt-leb (four a b c d) (length P) q);
          late = rw e (over (leb (four a b c d) (length (P ++ X))) q);
          early = rw (lt-leb (four a b c d) (length P) q);
        }

sift-append : {B : Type 0} (p : B → Bool) (xs ys : List B) → sift p (xs ++ ys) ≡ sift p xs ++ sift p ys
sift-append p [] ys = refl
sift-append {B} p (x ∷ xs) ys = go (p x) (sift-append p xs ys)
  where
    go : (t : Bool) → sift p (xs ++ ys) ≡ sift p xs ++ sift p ys
        → pick t (x ∷ sift p (xs ++ ys)) (sift p (xs ++ ys)) ≡ pick t (x ∷ sift p xs) (sift p xs) ++ sift p ys
    go true ih = ap (λ (zs : List B). x ∷ zs) ih
    go false ih = ih

-- the units that end within P are those of P alone, whatever stands after it
pub kept-before : (P X : List ℕ) → ends_by (length P) (framed_units (P ++ X)) ≡ framed_units P
kept-before P X =
    let b = before 0 0 P X (omega arith) in
    let l : ends_by (length P) b.rest ≡ [] = rw zero-add at b.late in
    let f : ends_by (length P) (framed_units P) ≡ framed_units P = rw zero-add at b.early in
    ap (ends_by (length P)) b.joined ∙ sift-append (λ (u : Span). leb u.next (length P)) (framed_units P) b.rest ∙ rw (l, f) (append-nil (framed_units P))

-- ---- a walk that carries something from unit to unit

-- a unit that is framed by length ends at k where its end mark would end at k + 3: so what is proved of any list of units is of these too
shift : (n k : ℕ) → leb n k ≡ leb (n + 3) (k + 3)
shift n k = go (dec_le n k)
  where
    go : Dec (n ≤ k) → leb n k ≡ leb (n + 3) (k + 3)
    go (yes h) = rw (le-leb n k h, le-leb (n + 3) (k + 3) (omega arith))
    go (no h) = rw (lt-leb n k (omega arith), lt-leb (n + 3) (k + 3) (omega arith))

as-marked : {A : Type 0} (k : ℕ) (rs : List (Report A)) → ends_by k rs ≡ ends_before (k + 3) rs
as-marked k [] = refl
as-marked {A} k (u ∷ rs) = rw (← (shift u.next k)) (go (leb u.next k) (as-marked k rs))
  where
    go : (t : Bool) → ends_by k rs ≡ ends_before (k + 3) rs → pick t (u ∷ ends_by k rs) (ends_by k rs) ≡ pick t (u ∷ ends_before (k + 3) rs) (ends_before (k + 3) rs)
    go true e = ap (λ (xs : List (Report A)). u ∷ xs) e
    go false e = e

first : (P X : List ℕ) → First (length P + 3) (framed_units (P ++ X))
first P X =
    let b = before 0 0 P X (omega arith) in
    let l : ends_by (length P) b.rest ≡ [] = rw zero-add at b.late in
    let k : ends_before (length P + 3) (framed_units (P ++ X)) ≡ framed_units P = sym (as-marked (length P) (framed_units (P ++ X))) ∙ kept-before P X in
    record { rest = b.rest; joined = rw k b.joined; late = sym (as-marked (length P) b.rest) ∙ l }

-- the reports of the units that end within P are those of a walk over P alone, in any state: so of P M S and P N S they are the same
pub kept-with : {T A : Type 0} (step : T → List ℕ → T) (answer : T → List ℕ → A) (t : T) (P X : List ℕ)
    → ends_by (length P) (run step answer t (framed_units (P ++ X))) ≡ run step answer t (framed_units P)
kept-with step answer t P X =
    as-marked (length P) (run step answer t (framed_units (P ++ X)))
    ∙ early-with step answer t (length P + 3) (framed_units (P ++ X)) (first P X)
    ∙ ap (run step answer t) (sym (as-marked (length P) (framed_units (P ++ X))) ∙ kept-before P X)
