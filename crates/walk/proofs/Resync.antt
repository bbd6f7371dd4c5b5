-- Demand 3 of the units of a recording: what stands before a start code, and what stands after an end mark, changes nothing of a unit.
use mathlib.Core.Path.{◌≡◌, refl, sym, subst, ap, ◌∙◌}
use mathlib.Core.List.{List, [], ◌∷◌, ◌++◌, map}
use mathlib.Core.Bool.{Bool, true, false}
use Prim.Native.Nat.{ℕ, suc, ◌+◌, ◌-◌, ◌≤◌, ◌<◌, min}
use native.Mathlib.Omega.{arith}
use native.Mathlib.Nat.{add-zero, zero-add}
use lib.Dec.{leb}
use borrow.Author.Tests.{lt-ltb, le-leb, lt-leb, leb-true, leb-false}
use lib.ListN.{length, drop, length-append}
use lib.Seq.{take-append-le}
use Rattle.bits.specs.Refusals.{pick}
use Rattle.walk.specs.Walk.{hit, upto, len_of}
use Rattle.walk.specs.Units.{Span, span_of, units_at, units}
use Rattle.walk.specs.Reports.{starts_from, ends_before, to_end}

-- ---- what stands before

-- every unit of what stands from n on has its start code there
pub all_from : (n k : ℕ) (l : List ℕ) → k ≤ n → starts_from k (units_at n l) ≡ units_at n l
all_from n k [] h = refl
all_from n k (a ∷ r) h = go (hit 1 (a ∷ r)) (all_from (suc n) k r (omega arith))
  where
    go : (t : Bool) → starts_from k (units_at (suc n) r) ≡ units_at (suc n) r
        → starts_from k (pick t (span_of n (drop 2 r) ∷ units_at (suc n) r) (units_at (suc n) r)) ≡ pick t (span_of n (drop 2 r) ∷ units_at (suc n) r) (units_at (suc n) r)
    go true ih = rw (le-leb (k + 3) (n + 3) (omega arith), ih)
    go false ih = ih

-- the units whose start code lies in S are those of S
in_tail : (n : ℕ) (X S : List ℕ) → starts_from (n + length X) (units_at n (X ++ S)) ≡ units_at (n + length X) S
in_tail n [] S = rw add-zero (all_from n n S (omega arith))
in_tail n (a ∷ X) S = go (hit 1 (a ∷ X ++ S)) (subst (λ (k : ℕ). starts_from k (units_at (suc n) (X ++ S)) ≡ units_at k S) (sym e) (in_tail (suc n) X S))
  where
    e : n + suc (length X) ≡ suc n + length X
    e = omega arith

    go : (t : Bool) → starts_from (n + suc (length X)) (units_at (suc n) (X ++ S)) ≡ units_at (n + suc (length X)) S
        → starts_from (n + suc (length X)) (pick t (span_of n (drop 2 (X ++ S)) ∷ units_at (suc n) (X ++ S)) (units_at (suc n) (X ++ S))) ≡ units_at (n + suc (length X)) S
    go true ih = rw (lt-leb (n + suc (length X) + 3) (n + 3) (omega arith)) ih
    go false ih = ih

pub tail-units : (X S : List ℕ) → starts_from (length X) (units (X ++ S)) ≡ units_at (length X) S
tail-units X S = rw zero-add at (in_tail 0 X S)

-- counted from the end they are where they were, wherever they stand
from_end : (n m : ℕ) (l : List ℕ) → map (to_end (n + length l)) (units_at n l) ≡ map (to_end (m + length l)) (units_at m l)
from_end n m [] = refl
from_end n m (a ∷ r) = go (hit 1 (a ∷ r)) (sym (ap ends e) ∙ from_end (suc n) (suc m) r ∙ ap ends' f)
  where
    e : suc n + length r ≡ n + suc (length r)
    e = omega arith

    f : suc m + length r ≡ m + suc (length r)
    f = omega arith

    ends : ℕ → List Span
    ends k = map (to_end k) (units_at (suc n) r)

    ends' : ℕ → List Span
    ends' k = map (to_end k) (units_at (suc m) r)

    go : (t : Bool) → map (to_end (n + suc (length r))) (units_at (suc n) r) ≡ map (to_end (m + suc (length r))) (units_at (suc m) r)
        → map (to_end (n + suc (length r))) (pick t (span_of n (drop 2 r) ∷ units_at (suc n) r) (units_at (suc n) r))
        ≡ map (to_end (m + suc (length r))) (pick t (span_of m (drop 2 r) ∷ units_at (suc m) r) (units_at (suc m) r))
    go true ih =
        let g : n + suc (length r) - (n + 3) ≡ m + suc (length r) - (m + 3) = omega arith in
        let h : n + suc (length r) - (n + 3 + upto 0 (drop 2 r)) ≡ m + suc (length r) - (m + 3 + upto 0 (drop 2 r)) = omega arith in
        rw (g, h, ih)
    go false ih = ih

pub tail-end : (n : ℕ) (S : List ℕ) → map (to_end (n + length S)) (units_at n S) ≡ map (to_end (length S)) (units S)
tail-end n S = rw (zero-add (length S)) at (from_end n 0 S)

-- the units whose start code lies in S are those of S alone, each as far from the end, whatever stands before
pub resync : (X S : List ℕ) → map (to_end (length (X ++ S))) (starts_from (length X) (units (X ++ S))) ≡ map (to_end (length S)) (units S)
resync X S = rw (length-append X S, tail-units X S) (tail-end (length X) S)

-- ---- what stands after

-- no unit of what stands from n on has its end mark wholly before n + 6
pub none_before : (n k : ℕ) (l : List ℕ) → k < n + 6 → ends_before k (units_at n l) ≡ []
none_before n k [] h = refl
none_before n k (a ∷ r) h = go (hit 1 (a ∷ r)) (none_before (suc n) k r (omega arith))
  where
    go : (t : Bool) → ends_before k (units_at (suc n) r) ≡ [] → ends_before k (pick t (span_of n (drop 2 r) ∷ units_at (suc n) r) (units_at (suc n) r)) ≡ []
    go true ih = rw (lt-leb (n + 3 + upto 0 (drop 2 r) + 3) k (omega arith)) ih
    go false ih = ih

-- the search looks at the three bytes that it stops at, and at nothing after them
pub near : (k : ℕ) (Q X : List ℕ) → min (upto k Q) (upto k (Q ++ X)) + 3 ≤ length Q → upto k Q ≡ upto k (Q ++ X)
near k [] X h = absurd (omega arith)
near k (a ∷ []) X h = absurd (omega arith)
near k (a ∷ b ∷ []) X h = absurd (omega arith)
near k (a ∷ b ∷ c ∷ Q) X h = go (hit k (a ∷ b ∷ c ∷ Q)) h (near k (b ∷ c ∷ Q) X)
  where
    go : (t : Bool) → min (pick t 0 (suc (upto k (b ∷ c ∷ Q)))) (pick t 0 (suc (upto k (b ∷ c ∷ Q ++ X)))) + 3 ≤ suc (suc (suc (length Q)))
        → (min (upto k (b ∷ c ∷ Q)) (upto k (b ∷ c ∷ Q ++ X)) + 3 ≤ suc (suc (length Q)) → upto k (b ∷ c ∷ Q) ≡ upto k (b ∷ c ∷ Q ++ X))
        → pick t 0 (suc (upto k (b ∷ c ∷ Q))) ≡ pick t 0 (suc (upto k (b ∷ c ∷ Q ++ X)))
    go true g ih = refl
    go false g ih = ap suc (ih (omega arith))

span-near : (n : ℕ) (Q X : List ℕ) → upto 0 Q ≡ upto 0 (Q ++ X) → upto 0 Q + 3 ≤ length Q → span_of n (Q ++ X) ≡ span_of n Q
unfolding len_of
span-near n Q X e h =
    let l : length (Q ++ X) ≡ length Q + length X = length-append Q X in
    rw (← e, lt-ltb (upto 0 Q) (length (Q ++ X)) (omega arith), lt-ltb (upto 0 Q) (length Q) (omega arith), take-append-le (upto 0 Q) Q X (omega arith))

in_head : (n : ℕ) (P X : List ℕ) → ends_before (n + length P) (units_at n (P ++ X)) ≡ ends_before (n + length P) (units_at n P)
in_head n [] X = none_before n (n + 0) X (omega arith)
in_head n (a ∷ []) X = none_before n (n + 1) (a ∷ X) (omega arith)
in_head n (a ∷ b ∷ []) X = none_before n (n + 2) (a ∷ b ∷ X) (omega arith)
in_head n (a ∷ b ∷ c ∷ Q) X =
    go (hit 1 (a ∷ b ∷ c ∷ Q)) (leb (n + 3 + upto 0 (Q ++ X) + 3) B) refl (leb (n + 3 + upto 0 Q + 3) B) refl (rw e at (in_head (suc n) (b ∷ c ∷ Q) X))
  where
    B : ℕ
    B = n + suc (suc (suc (length Q)))

    e : suc n + suc (suc (length Q)) ≡ n + suc (suc (suc (length Q)))
    e = omega arith

    go : (t v : Bool) → leb (n + 3 + upto 0 (Q ++ X) + 3) B ≡ v → (w : Bool) → leb (n + 3 + upto 0 Q + 3) B ≡ w
        → ends_before B (units_at (suc n) (b ∷ c ∷ Q ++ X)) ≡ ends_before B (units_at (suc n) (b ∷ c ∷ Q))
        → ends_before B (pick t (span_of n (Q ++ X) ∷ units_at (suc n) (b ∷ c ∷ Q ++ X)) (units_at (suc n) (b ∷ c ∷ Q ++ X)))
        ≡ ends_before B (pick t (span_of n Q ∷ units_at (suc n) (b ∷ c ∷ Q)) (units_at (suc n) (b ∷ c ∷ Q)))
    go false v x w y ih = ih
    go true true x w y ih =
        let h : n + 3 + upto 0 (Q ++ X) + 3 ≤ B = leb-true _ _ x in
        let f : upto 0 Q ≡ upto 0 (Q ++ X) = near 0 Q X (omega arith) in
        ap (λ (u : Span). ends_before B (u ∷ units_at (suc n) (b ∷ c ∷ Q ++ X))) (span-near n Q X f (omega arith))
        ∙ ap (λ (us : List Span). pick (leb (n + 3 + upto 0 Q + 3) B) (span_of n Q ∷ us) us) ih
    go true false x true y ih =
        let g : B < n + 3 + upto 0 (Q ++ X) + 3 = leb-false _ _ x in
        let h : n + 3 + upto 0 Q + 3 ≤ B = leb-true _ _ y in
        let f : upto 0 Q ≡ upto 0 (Q ++ X) = near 0 Q X (omega arith) in
        absurd (omega arith)
    go true false x false y ih = rw (x, y) ih

-- the units whose end mark lies wholly in P are those of P alone, at their places, whatever stands after
pub kept-before : (P X : List ℕ) → ends_before (length P) (units (P ++ X)) ≡ ends_before (length P) (units P)
kept-before P X = rw zero-add at (in_head 0 P X)
