-- Places of a recording's slices rise, so that each picture begins at a place of its own; and which exposures of two lists that end alike begin in both.
use Prim.Native.Nat.{ℕ, suc, ◌+◌, ◌-◌, ◌≤◌, ◌<◌}
use mathlib.Core.Path.{◌≡◌, refl, sym, ap, ◌∙◌}
use mathlib.Core.List.{List, [], ◌∷◌, ◌++◌, map}
use mathlib.Core.Bool.{Bool, true, false, ◌||◌, or-true}
use native.Mathlib.Omega.{arith}
use native.Mathlib.Nat.{zero-add}
use lib.Dec.{eqb, leb}
use lib.ListN.{length, drop}
use borrow.Author.Tests.{eq-eqb, ne_eqb}
use Rattle.bits.specs.Refusals.{pick, limit}
use Rattle.nal.specs.Header.{nal_ref_idc}
use Rattle.table.specs.declared.table.Table.{Table}
use Rattle.syntax.specs.declared.record.SliceHeader.{SliceHeader}
use Rattle.unit.specs.declared.answer.UnitAnswer.{UnitAnswer}
use Rattle.unit.specs.declared.answer.UnitRead.{UnitRead}
use Rattle.unit.specs.Begin.{type_in}
use Rattle.unit.specs.Unit.{unit_read}
use Rattle.walk.specs.Walk.{hit}
use Rattle.walk.specs.Units.{Report, Span, span_of, units_at, units}
use Rattle.walk.specs.Walked.{table_after}
use Rattle.walk.specs.Reports.{reports, reports_of, sift, starts_from, table_at}
use Rattle.walk.proofs.Border.{code-bytes}
use Rattle.walk.proofs.Demand.{demand-3-complete}
use Rattle.exposures.specs.declared.slice.Item.{Item}
use Rattle.exposures.specs.declared.exposure.Exposure.{Exposure}
use Rattle.exposures.specs.Compare.{differ}
use Rattle.exposures.specs.Exposure.{exposure_of}
use Rattle.exposures.specs.Pictures.{Picture, joined, cut, refused_in, gap_to, exposures_from, exposures}
use Rattle.exposures.specs.Torn.{goes_on, begun_in, own}
use Rattle.exposures.specs.Moved.{move_item}
use Rattle.exposures.proofs.Moved.{drop-map}
use Rattle.exposures.proofs.Torn.{before, shared, torn-first}
use Rattle.stacking.specs.Item.{slice_of, item_of}
use Rattle.promises.specs.Demands.{one_of}
use Rattle.promises.specs.Exposures.{head_in, items_of, items_from, in_both}
use Rattle.promises.proofs.Items.{Taken, slice, other, taken, item-moved}

-- ---- places rise from report to report, from lo on, and are at most n

abbrev Rises : {A : Type 0} → ℕ → ℕ → List (Report A) → Type 0
Rises n lo [] = Unit {0}
Rises n lo (u ∷ us) = (lo < u.place) × ((u.place ≤ n) × Rises n u.place us)

lower : {A : Type 0} (n lo hi : ℕ) (us : List (Report A)) → lo ≤ hi → Rises n hi us → Rises n lo us
lower n lo hi [] h g = tt
lower n lo hi (u ∷ us) h g = let a = g.0 in (omega arith, g.1)

rises-units : (k : ℕ) (l : List ℕ) → Rises (k + length l) (k + 2) (units_at k l)
rises-units k [] = tt
rises-units k (a ∷ r) = go (hit 1 (a ∷ r)) refl (rw e at (rises-units (suc k) r))
  where
    e : suc k + length r ≡ k + suc (length r)
    e = omega arith

    go : (b : Bool) → hit 1 (a ∷ r) ≡ b → Rises (k + suc (length r)) (suc k + 2) (units_at (suc k) r)
        → Rises (k + suc (length r)) (k + 2) (pick b (span_of k (drop 2 r) ∷ units_at (suc k) r) (units_at (suc k) r))
    go true h ih =
        let l : suc (length r) ≡ suc (suc (suc (length (drop 2 r)))) = ap length (code-bytes (a ∷ r) h) in
        (omega arith, (omega arith, lower (k + suc (length r)) (k + 3) (suc k + 2) (units_at (suc k) r) (omega arith) ih))
    go false h ih = lower (k + suc (length r)) (k + 2) (suc k + 2) (units_at (suc k) r) (omega arith) ih

rises-reports : (n lo : ℕ) (t : Table) (c : List ℕ) (us : List Span) → Rises n lo us → Rises n lo (reports_of unit_read t c us)
rises-reports n lo t c [] h = tt
rises-reports n lo t c (u ∷ us) h = (h.0, (h.1.0, rises-reports n u.place (table_after t (unit_read t u.read c).read.answer) c us h.1.1))

rises-sift : (n lo : ℕ) (p : Report UnitRead → Bool) (us : List (Report UnitRead)) → Rises n lo us → Rises n lo (sift p us)
rises-sift n lo p [] h = tt
rises-sift n lo p (u ∷ us) h = let a = h.0 in go (p u) (rises-sift n u.place p us h.1.1)
  where
    go : (b : Bool) → Rises n u.place (sift p us) → Rises n lo (pick b (u ∷ sift p us) (sift p us))
    go true ih = (h.0, (h.1.0, ih))
    go false ih = let a = h.0 in lower n lo u.place (sift p us) (omega arith) ih

rises-from : (t : Table) (c s : List ℕ) → length s ≤ limit → (k : ℕ) → Rises (length s) 2 (starts_from k (reports t c s))
rises-from t c s small k =
    let h : Rises (length s) 2 (units s) = rw zero-add at (rises-units 0 s) in
    rises-sift (length s) 2 (λ (u : Report UnitRead). leb (k + 3) u.place) (reports t c s) (rw (demand-3-complete t c s small) (rises-reports (length s) 2 t c (units s) h))

-- ---- counted from the end they fall, from slice to slice

abbrev pub Falls : ℕ → List Item → Type 0
Falls hi [] = Unit {0}
Falls hi (Item.Slice a ∷ r) = (a.place < hi) × Falls a.place r
Falls hi (Item.Unit k ∷ r) = Falls hi r

higher : (lo hi : ℕ) (l : List Item) → lo ≤ hi → Falls lo l → Falls hi l
higher lo hi [] h g = tt
higher lo hi (Item.Slice a ∷ r) h g = let x = g.0 in (omega arith, g.1)
higher lo hi (Item.Unit k ∷ r) h g = higher lo hi r h g

falls-item : (hi : ℕ) (t : Table) (place type ref : ℕ) (a : UnitAnswer) (h : SliceHeader) (r : List Item) → place < hi → Falls place r → Falls hi (item_of t place type ref a h ∷ r)
unfolding slice_of
falls-item hi t place type ref a h r e g = go (taken t type ref a h)
  where
    go : Taken t type ref a h → Falls hi (item_of t place type ref a h ∷ r)
    go (slice f) = rw (f place) (e, g)
    go (other k f) = rw (f place) (higher place hi r (omega arith) g)

falls-items : (n lo : ℕ) (s : List ℕ) (t : Table) (us : List (Report UnitRead)) → Rises n lo us → Falls (n - lo) (map (move_item (λ p. n - p)) (items_of s t us))
falls-items n lo s t [] h = tt
falls-items n lo s t (u ∷ us) h =
    let a = h.0 in
    let b = h.1.0 in
    let type = type_in (head_in s u) in
    let ref = nal_ref_idc (head_in s u) in
    let rest = map (move_item (λ p. n - p)) (items_of s (table_after t u.read.answer) us) in
    rw (item-moved (λ p. n - p) t u.place type ref u.read.answer u.read.header)
    (falls-item (n - lo) t (n - u.place) type ref u.read.answer u.read.header rest (omega arith) (falls-items n u.place s (table_after t u.read.answer) us h.1.1))

-- for every recording
pub falls-from : (t : Table) (c s : List ℕ) → length s ≤ limit → (k : ℕ) → Falls (length s - 2) (map (move_item (λ p. length s - p)) (items_from t c s k))
falls-from t c s small k = falls-items (length s) 2 s (table_at t c s k) (starts_from k (reports t c s)) (rises-from t c s small k)

-- ---- and from picture to picture

abbrev Falling : ℕ → List Picture → Type 0
Falling hi [] = Unit {0}
Falling hi (p ∷ ps) = (p.first.place < hi) × Falling p.first.place ps

falling-cut : (hi : ℕ) (l : List Item) → Falls hi l → Falling hi (cut l).pictures
falling-cut hi [] h = tt
falling-cut hi (Item.Unit k ∷ r) h = falling-cut hi r h
falling-cut hi (Item.Slice a ∷ r) h = go (cut r).pictures (falling-cut a.place r h.1)
  where
    deeper : (p : Picture) (ps : List Picture) → Falling a.place (p ∷ ps) → Falling a.place ps
    deeper p [] g = tt
    deeper p (x ∷ ps) g = let y = g.0 in let z = g.1.0 in (omega arith, g.1.1)

    pair : (p : Picture) (ps : List Picture) → Falling a.place (p ∷ ps) → (b : Bool)
        → Falling hi (pick b (record { first = a; behind = (cut r).lead } ∷ p ∷ ps) (record { first = a; behind = (cut r).lead ++ Item.Slice p.first ∷ p.behind } ∷ ps))
    pair p ps g true = (h.0, g)
    pair p ps g false = (h.0, deeper p ps g)

    go : (ps : List Picture) → Falling a.place ps → Falling hi (joined a (cut r).lead ps)
    go [] g = (h.0, tt)
    go (p ∷ ps) g = pair p ps g (differ a p.first)

abbrev places : List Exposure → List ℕ
places = map (λ (e : Exposure). e.place)

-- a place that is not among those behind the first
abbrev Fresh : List ℕ → Type 0
Fresh [] = Unit {0}
Fresh (p ∷ ps) = one_of ps p ≡ false

none_below : (gap : Bool) (n : ℕ) (ps : List Picture) (hi p : ℕ) → hi ≤ p → Falling hi ps → one_of (places (exposures_from gap n ps)) p ≡ false
unfolding exposure_of
none_below gap n [] hi p h g = refl
none_below gap n (x ∷ ps) hi p h g =
    let a = g.0 in
    rw (ne_eqb p x.first.place (λ e. absurd (omega arith)), none_below (gap_to x ps) (refused_in x.behind) ps x.first.place p (omega arith) g.1)

fresh : (hi : ℕ) (l : List Item) → Falls hi l → Fresh (places (exposures l))
unfolding exposures exposure_of
fresh hi l h = go (cut l).pictures (falling-cut hi l h)
  where
    go : (ps : List Picture) → Falling hi ps → Fresh (places (exposures_from false (refused_in (cut l).lead) ps))
    go [] g = tt
    go (p ∷ ps) g = none_below (gap_to p ps) (refused_in p.behind) ps p.first.place p.first.place (omega arith) g.1

-- ---- exposures at places of others

abbrev AllOf : List ℕ → List ℕ → Type 0
AllOf qs [] = Unit {0}
AllOf qs (p ∷ ps) = (one_of qs p ≡ true) × AllOf qs ps

more_of : (q : ℕ) (qs ps : List ℕ) → AllOf qs ps → AllOf (q ∷ qs) ps
more_of q qs [] h = tt
more_of q qs (p ∷ ps) h = (ap (λ (b : Bool). eqb p q || b) h.0 ∙ or-true (eqb p q), more_of q qs ps h.1)

own_of : (ps : List ℕ) → AllOf ps ps
own_of [] = tt
own_of (p ∷ ps) = (rw (eq-eqb p p refl), more_of p ps ps (own_of ps))

keeps : (qs : List ℕ) (es : List Exposure) → AllOf qs (places es) → sift (λ (e : Exposure). one_of qs e.place) es ≡ es
keeps qs [] h = refl
keeps qs (e ∷ es) h = rw (h.0, keeps qs es h.1)

-- es here and fs there, at the places of ps but for the first where it goes on
picked : (here there : Bool) (ps : List ℕ) → Fresh ps → (es fs : List Exposure) → places es ≡ drop (before here) ps → places fs ≡ drop (before there) ps → in_both es fs ≡ shared here there es
picked true true ps f es fs h g = keeps (places fs) es (rw (g, h) (own_of (drop 1 ps)))
picked true false [] f es fs h g = keeps (places fs) es (rw (g, h) tt)
picked true false (p ∷ ps) f es fs h g = keeps (places fs) es (rw (g, h) (more_of p ps ps (own_of ps)))
picked false false ps f es fs h g = keeps (places fs) es (rw (g, h) (own_of ps))
picked false true ps f [] fs h g = refl
picked false true [] f (e ∷ es) fs h g = let z : ◌≡◌ {A = ℕ} 1 0 = cc in absurd (omega arith)
picked false true (p ∷ ps) f (e ∷ es) fs h g =
    let a : e.place ≡ p = cc in
    let b : places es ≡ ps = cc in
    rw (g, a, f) (keeps (places fs) es (rw (g, b) (own_of ps)))

place-own : (es : List Exposure) → places (map own es) ≡ places es
place-own [] = refl
place-own (e ∷ es) = ap (λ (ps : List ℕ). e.place ∷ ps) (place-own es)

-- behind X and behind Y: those that begin in both
pub in_both_lem : (hi : ℕ) (X Y S : List Item) → Falls hi S → in_both (begun_in X S) (begun_in Y S) ≡ shared (goes_on X S) (goes_on Y S) (begun_in X S)
in_both_lem hi X Y S h = picked (goes_on X S) (goes_on Y S) (places (exposures S)) (fresh hi S h) (begun_in X S) (begun_in Y S) (at X) (at Y)
  where
    at : (Z : List Item) → places (begun_in Z S) ≡ drop (before (goes_on Z S)) (places (exposures S))
    at Z =
        sym (place-own (begun_in Z S)) ∙ ap places (torn-first Z S) ∙ place-own (drop (before (goes_on Z S)) (exposures S))
        ∙ drop-map (λ (e : Exposure). e.place) (before (goes_on Z S)) (exposures S)
