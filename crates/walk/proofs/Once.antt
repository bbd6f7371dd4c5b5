-- Each start code has one unit, and no other place has any: what `units` says, counted.
use mathlib.Core.Path.{◌≡◌, refl, sym, subst}
use mathlib.Core.List.{List, [], ◌∷◌}
use mathlib.Core.Bool.{Bool, true, false}
use Prim.Native.Nat.{ℕ, zero, suc, ◌+◌, ◌<◌}
use native.Mathlib.Omega.{arith}
use native.Mathlib.Nat.{zero-add}
use lib.Dec.{eqb}
use borrow.Author.Tests.{eq-eqb, ne_eqb}
use lib.ListN.{length, drop}
use lib.Seq.{drop-nil}
use Rattle.bits.specs.Refusals.{pick}
use Rattle.walk.specs.Walk.{hit}
use Rattle.walk.specs.Units.{Span, span_of, units_at, units}
use Rattle.walk.specs.Reports.{sift}

-- the units whose first byte stands at k
abbrev pub stand_at : ℕ → List Span → List Span
stand_at k us = sift (λ (u : Span). eqb u.place k) us

none-at : (n k : ℕ) (l : List ℕ) → k < n + 3 → stand_at k (units_at n l) ≡ []
none-at n k [] h = refl
none-at n k (a ∷ r) h = go (hit 1 (a ∷ r)) (none-at (suc n) k r (omega arith))
  where
    go : (t : Bool) → stand_at k (units_at (suc n) r) ≡ [] → stand_at k (pick t (span_of n (drop 2 r) ∷ units_at (suc n) r) (units_at (suc n) r)) ≡ []
    go true ih = rw (ne_eqb (n + 3) k (omega arith)) ih
    go false ih = ih

one_at : (n i : ℕ) (l : List ℕ) → length (stand_at (n + i + 3) (units_at n l)) ≡ pick (hit 1 (drop i l)) 1 0
one_at n i [] = rw drop-nil
one_at n zero (a ∷ r) = go (hit 1 (a ∷ r)) (none-at (suc n) (n + 0 + 3) r (omega arith))
  where
    go : (t : Bool) → stand_at (n + 0 + 3) (units_at (suc n) r) ≡ [] → length (stand_at (n + 0 + 3) (pick t (span_of n (drop 2 r) ∷ units_at (suc n) r) (units_at (suc n) r))) ≡ pick t 1 0
    go true ih = rw (eq-eqb (n + 3) (n + 0 + 3) (omega arith), ih)
    go false ih = rw ih
one_at n (suc i) (a ∷ r) = go (hit 1 (a ∷ r)) (subst (λ (k : ℕ). length (stand_at k (units_at (suc n) r)) ≡ pick (hit 1 (drop i r)) 1 0) (sym e) (one_at (suc n) i r))
  where
    e : n + suc i + 3 ≡ suc n + i + 3
    e = omega arith

    go : (t : Bool) → length (stand_at (n + suc i + 3) (units_at (suc n) r)) ≡ pick (hit 1 (drop i r)) 1 0
        → length (stand_at (n + suc i + 3) (pick t (span_of n (drop 2 r) ∷ units_at (suc n) r) (units_at (suc n) r))) ≡ pick (hit 1 (drop i r)) 1 0
    go true ih = rw (ne_eqb (n + 3) (n + suc i + 3) (omega arith)) ih
    go false ih = ih

pub one_unit : (i : ℕ) (s : List ℕ) → length (stand_at (i + 3) (units s)) ≡ pick (hit 1 (drop i s)) 1 0
one_unit i s = rw zero-add at (one_at 0 i s)
