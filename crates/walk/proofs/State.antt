-- A walk that carries a state from unit to unit, as a table that the recording's own sets change: demand 3 over any state, step and answer. `late-with` and `early-with` are over any list of units, also one that is found by other means than start codes.
use mathlib.Core.Path.{◌≡◌, refl, sym, ap, ◌∙◌}
use mathlib.Core.List.{List, [], ◌∷◌, ◌++◌, map, append-nil}
use mathlib.Core.Bool.{Bool, true, false}
use Prim.Native.Nat.{ℕ, suc, ◌+◌, ◌≤◌}
use native.Mathlib.Omega.{arith}
use lib.Dec.{leb}
use borrow.Author.Tests.{lt-leb, leb-true}
use lib.ListN.{length}
use Rattle.bits.specs.Refusals.{pick}
use Rattle.walk.specs.Walk.{hit}
use Rattle.walk.specs.Units.{Report, Span, units, report_of}
use Rattle.walk.specs.Reports.{sift, starts_from, starts_before, ends_before, to_end}
use Rattle.walk.proofs.Resync.{resync, kept-before}
use Rattle.walk.proofs.Border.{Parted, border, First, head_first}

-- ---- sifting

sift-append : {B : Type 0} (p : B → Bool) (xs ys : List B) → sift p (xs ++ ys) ≡ sift p xs ++ sift p ys
sift-append p [] ys = refl
sift-append {B} p (x ∷ xs) ys = go (p x) (sift-append p xs ys)
  where
    go : (t : Bool) → sift p (xs ++ ys) ≡ sift p xs ++ sift p ys
        → pick t (x ∷ sift p (xs ++ ys)) (sift p (xs ++ ys)) ≡ pick t (x ∷ sift p xs) (sift p xs) ++ sift p ys
    go true ih = ap (λ (zs : List B). x ∷ zs) ih
    go false ih = ih

-- a start code that begins at k or later does not lie wholly before k
apart-too : (k : ℕ) (us : List Span) → starts_before k (starts_from k us) ≡ []
apart-too k [] = refl
apart-too k (u ∷ us) = go (leb (k + 3) u.place) refl (apart-too k us)
  where
    go : (t : Bool) → leb (k + 3) u.place ≡ t → starts_before k (starts_from k us) ≡ [] → starts_before k (pick t (u ∷ starts_from k us) (starts_from k us)) ≡ []
    go true e ih = let l : k + 3 ≤ u.place = leb-true (k + 3) u.place e in rw (lt-leb u.place k (omega arith)) ih
    go false e ih = ih

-- a start code that lies wholly before k does not begin at k or later
apart : (k : ℕ) (us : List Span) → starts_from k (starts_before k us) ≡ []
apart k [] = refl
apart k (u ∷ us) = go (leb u.place k) refl (apart k us)
  where
    go : (t : Bool) → leb u.place k ≡ t → starts_from k (starts_before k us) ≡ [] → starts_from k (pick t (u ∷ starts_before k us) (starts_before k us)) ≡ []
    go true e ih = let l : u.place ≤ k = leb-true u.place k e in rw (lt-leb (k + 3) u.place (omega arith)) ih
    go false e ih = ih

module _ {T A : Type 0} (step : T → List ℕ → T) (answer : T → List ℕ → A) where
  -- the reports of a walk in state t, and the state after it
  abbrev pub run : T → List Span → List (Report A)
  run t [] = []
  run t (u ∷ us) = report_of (answer t) u ∷ run (step t u.read) us

  abbrev pub after : T → List Span → T
  after t [] = t
  after t (u ∷ us) = after (step t u.read) us

  pub run-append : (t : T) (us vs : List Span) → run t (us ++ vs) ≡ run t us ++ run (after t us) vs
  run-append t [] vs = refl
  run-append t (u ∷ us) vs = ap (λ (rs : List (Report A)). report_of (answer t) u ∷ rs) (run-append (step t u.read) us vs)

  run_end : (k : ℕ) (t : T) (us : List Span) → map (to_end k) (run t us) ≡ run t (map (to_end k) us)
  run_end k t [] = refl
  run_end k t (u ∷ us) = rw (run_end k (step t u.read) us)

  -- a test of the places alone picks the same of the units and of their reports
  module _ (q : ℕ → ℕ → Bool) where
    abbrev of : {B : Type 0} → Report B → Bool
    of = λ r. q r.place r.next

    run_none : (t : T) (us : List Span) → sift of us ≡ [] → sift of (run t us) ≡ []
    run_none t [] e = refl
    run_none t (u ∷ us) e = go (of u) e (run_none (step t u.read) us)
      where
        go : (b : Bool) → pick b (u ∷ sift of us) (sift of us) ≡ [] → (sift of us ≡ [] → sift of (run (step t u.read) us) ≡ [])
            → pick b (report_of (answer t) u ∷ sift of (run (step t u.read) us)) (sift of (run (step t u.read) us)) ≡ []
        go true e ih = let z : ◌≡◌ {A = ℕ} 0 1 = cc in absurd (omega arith)
        go false e ih = ih e

    run-all : (t : T) (us : List Span) → sift of (run t (sift of us)) ≡ run t (sift of us)
    run-all t [] = refl
    run-all t (u ∷ us) = go (of u) refl (run-all (step t u.read) us) (run-all t us)
      where
        go : (b : Bool) → of u ≡ b → sift of (run (step t u.read) (sift of us)) ≡ run (step t u.read) (sift of us) → sift of (run t (sift of us)) ≡ run t (sift of us)
            → sift of (run t (pick b (u ∷ sift of us) (sift of us))) ≡ run t (pick b (u ∷ sift of us) (sift of us))
        go true e ih jh = rw (e, ih)
        go false e ih jh = jh

    -- and as many
    pub run-count : (t : T) (us : List Span) → length (sift of (run t us)) ≡ length (sift of us)
    run-count t [] = refl
    run-count t (u ∷ us) = go (of u) (run-count (step t u.read) us)
      where
        go : (b : Bool) → length (sift of (run (step t u.read) us)) ≡ length (sift of us)
            → length (pick b (report_of (answer t) u ∷ sift of (run (step t u.read) us)) (sift of (run (step t u.read) us))) ≡ length (pick b (u ∷ sift of us) (sift of us))
        go true ih = ap suc ih
        go false ih = ih

  -- ---- any list of units

  -- the reports of the units before k are those of a walk over them alone
  pub before-with : (t : T) (k : ℕ) (us : List Span) → Parted k us → starts_before k (run t us) ≡ run t (starts_before k us)
  before-with t k us e =
      let before = starts_before k us in
      let from = starts_from k us in
      let q : ℕ → ℕ → Bool = λ place next. leb place k in
      ap (λ (vs : List Span). starts_before k (run t vs)) e ∙ ap (starts_before k) (run-append t before from)
      ∙ sift-append (λ (r : Report A). leb r.place k) (run t before) (run (after t before) from)
      ∙ ap (λ (rs : List (Report A)). rs ++ starts_before k (run (after t before) from)) (run-all q t us)
      ∙ ap (λ (rs : List (Report A)). run t before ++ rs) (run_none q (after t before) from (apart-too k us)) ∙ append-nil (run t before)

  -- where no start code lies across k: the reports from k on are those of the units from k on, in the state that those before leave
  pub late-with : (t : T) (k : ℕ) (us : List Span) → Parted k us → starts_from k (run t us) ≡ run (after t (starts_before k us)) (starts_from k us)
  late-with t k us e =
      let before = starts_before k us in
      let from = starts_from k us in
      let q : ℕ → ℕ → Bool = λ place next. leb (k + 3) place in
      ap (λ (vs : List Span). starts_from k (run t vs)) e ∙ ap (starts_from k) (run-append t before from)
      ∙ sift-append (λ (r : Report A). leb (k + 3) r.place) (run t before) (run (after t before) from)
      ∙ ap (λ (rs : List (Report A)). rs ++ starts_from k (run (after t before) from)) (run_none q t before (apart k us)) ∙ run-all q (after t before) us

  -- where the units with their end mark wholly before k come first: their reports are those of a walk over them alone
  pub early-with : (t : T) (k : ℕ) (us : List Span) → First k us → ends_before k (run t us) ≡ run t (ends_before k us)
  early-with t k us f =
      let early = ends_before k us in
      let q : ℕ → ℕ → Bool = λ place next. leb (next + 3) k in
      ap (λ (vs : List Span). ends_before k (run t vs)) f.joined ∙ ap (ends_before k) (run-append t early f.rest)
      ∙ sift-append (λ (r : Report A). leb (r.next + 3) k) (run t early) (run (after t early) f.rest)
      ∙ ap (λ (rs : List (Report A)). rs ++ ends_before k (run (after t early) f.rest)) (run-all q t us)
      ∙ ap (λ (rs : List (Report A)). run t early ++ rs) (run_none q (after t early) f.rest f.late) ∙ append-nil (run t early)

  -- ---- the units of a recording

  -- S begins with a start code: its reports, whatever stands before, are those of S alone, each as far from the end, in the state in which S is met
  pub resync-with : (t : T) (X S : List ℕ) → hit 1 S ≡ true
      → map (to_end (length (X ++ S))) (starts_from (length X) (run t (units (X ++ S)))) ≡ run (after t (starts_before (length X) (units (X ++ S)))) (map (to_end (length S)) (units S))
  resync-with t X S code =
      let us = units (X ++ S) in
      let before = after t (starts_before (length X) us) in
      ap (map (to_end (length (X ++ S)))) (late-with t (length X) us (border X S code)) ∙ run_end (length (X ++ S)) before (starts_from (length X) us) ∙ ap (run before) (resync X S)

  -- the units whose end mark lies wholly in P have the same reports, whatever stands after
  pub kept-with : (t : T) (P X : List ℕ) → ends_before (length P) (run t (units (P ++ X))) ≡ ends_before (length P) (run t (units P))
  kept-with t P X =
      early-with t (length P) (units (P ++ X)) (head_first (length P) (P ++ X)) ∙ ap (run t) (kept-before P X) ∙ sym (early-with t (length P) (units P) (head_first (length P) P))
