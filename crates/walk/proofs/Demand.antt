-- Demand 3: damage stays where it is. Of the reports of the walk itself, chained from the front with table and scratch as each call leaves them, for every table.
-- What holds with any scratch is said of any reading.
use mathlib.Core.Path.{◌≡◌, refl, sym, ap, ◌∙◌}
use mathlib.Core.List.{List, [], ◌∷◌, ◌++◌, map, append_assoc}
use mathlib.Core.Bool.{Bool, true, false, true≢false}
use Prim.Native.Nat.{ℕ, suc, ◌+◌, ◌≤◌}
use native.Mathlib.Omega.{arith}
use native.Mathlib.Nat.{zero-add}
use lib.Dec.{leb, eqb}
use lib.ListN.{length, drop, length-append, length-take, length-drop, drop_of_length-le}
use Rattle.bits.specs.Refusals.{pick, limit}
use Rattle.table.specs.declared.table.Table.{Table}
use Rattle.unit.specs.declared.answer.UnitAnswer.{UnitAnswer}
use Rattle.unit.specs.declared.answer.UnitRead.{UnitRead}
use Rattle.unit.specs.Unit.{unit_read}
use Rattle.unit.proofs.Cases.{left-length}
use Rattle.unit.proofs.Rooms.{unit-alike, unit-roomy}
use Rattle.walk.specs.Walk.{hit}
use Rattle.walk.specs.Units.{Report, Span, span_of, units_at, units, report_of}
use Rattle.walk.specs.Walked.{table_after, next_step, Reading, walk_by, walked}
use Rattle.walk.specs.Reports.{reports_by, reports_in, reports, reports_of, sift, starts_from, starts_before, ends_before, is_set, sets_among, table_by, table_in, table_at, to_end}
use Rattle.walk.proofs.Chain.{went, ended}
use Rattle.walk.proofs.Once.{one_unit}
use Rattle.walk.proofs.Resync.{resync}
use Rattle.walk.proofs.Border.{border, head_first}
use Rattle.walk.proofs.State.{run, after, run-count, before-with, early-with, resync-with, kept-with}
use Rattle.walk.proofs.Steps.{found_at, found-end, refused_over}
use Rattle.walk.proofs.Reports.{Fair, Meets, chain-all, answer, step, of-run, table-run}

-- ---- any reading

-- the walk's steps meet the units of the recording
units-met : (s : List ℕ) → length s ≤ limit → Meets s (next_step s) (λ from. units_at from (drop from s))
units-met s small =
    record {
      on = λ from p l n e. let w = went s from _ (found_at s from e) in (w.on, w.there);
      ended = λ from e. ended s from (found-end s from e);
      stopped = λ from r e. let h = refused_over s from e in absurd (omega (arith, h.0));
      past = λ from h. rw (drop_of_length-le s h);
    }

module _ (R : Reading) (fair : Fair R) where
  -- each report is that of reading its unit by the table that those before it left; there is one for each start code, in order, and no other
  all-reports : (more : ℕ) (t : Table) (scratch s : List ℕ) → length s ≤ limit → reports_by (walk_by R next_step) (more + length s) s t 0 scratch ≡ reports_of R t scratch (units s)
  all-reports more t scratch s h = chain-all R fair next_step s (λ from. units_at from (drop from s)) (units-met s h) more t scratch

  pub complete : (t : Table) (scratch s : List ℕ) → length s ≤ limit → reports_in (walk_by R next_step) t scratch s ≡ reports_of R t scratch (units s)
  complete t scratch s h = rw zero-add at (all-reports 0 t scratch s h)

  -- asked more often, the walk has no more to say
  pub no_more : (more : ℕ) (t : Table) (scratch s : List ℕ) → length s ≤ limit → reports_by (walk_by R next_step) (more + length s) s t 0 scratch ≡ reports_in (walk_by R next_step) t scratch s
  no_more more t scratch s h = all-reports more t scratch s h ∙ sym (complete t scratch s h)

  all-run : (t : Table) (scratch s : List ℕ) → length s ≤ limit → reports_in (walk_by R next_step) t scratch s ≡ run (step R scratch) (answer R scratch) t (units s)
  all-run t scratch s h = complete t scratch s h ∙ of-run R t scratch (units s)

  -- counted: one report of a unit after each start code, and none after any other place
  pub once : (t : Table) (scratch s : List ℕ) → length s ≤ limit → (i : ℕ)
      → length (sift (λ (r : Report UnitRead). eqb r.place (i + 3)) (reports_in (walk_by R next_step) t scratch s)) ≡ pick (hit 1 (drop i s)) 1 0
  once t scratch s h i =
      ap (λ (rs : List (Report UnitRead)). length (sift (λ (r : Report UnitRead). eqb r.place (i + 3)) rs)) (all-run t scratch s h)
      ∙ run-count (step R scratch) (answer R scratch) (λ place next. eqb place (i + 3)) t (units s) ∙ one_unit i s

  -- the table with which the walk comes to S
  met : (t : Table) (X S c : List ℕ) → length (X ++ S) ≤ limit → hit 1 S ≡ true
      → table_in (walk_by R next_step) t c (X ++ S) (length X) ≡ after (step R c) (answer R c) t (starts_before (length X) (units (X ++ S)))
  met t X S c h code =
      ap (λ (rs : List (Report UnitRead)). table_by t (starts_before (length X) rs)) (all-run t c (X ++ S) h)
      ∙ ap (table_by t) (before-with (step R c) (answer R c) t (length X) (units (X ++ S)) (border X S code)) ∙ table-run R t c (starts_before (length X) (units (X ++ S)))

  -- S begins with a start code: the reports of its units are those of S alone, by that table
  late : (t : Table) (X S c : List ℕ) → length (X ++ S) ≤ limit → hit 1 S ≡ true
      → map (to_end (length (X ++ S))) (starts_from (length X) (reports_in (walk_by R next_step) t c (X ++ S)))
      ≡ run (step R c) (answer R c) (table_in (walk_by R next_step) t c (X ++ S) (length X)) (map (to_end (length S)) (units S))
  late t X S c h code =
      ap (λ (rs : List (Report UnitRead)). map (to_end (length (X ++ S))) (starts_from (length X) rs)) (all-run t c (X ++ S) h) ∙ resync-with (step R c) (answer R c) t X S code
      ∙ ap (λ (u : Table). run (step R c) (answer R c) u (map (to_end (length S)) (units S))) (sym (met t X S c h code))

  -- the reports of units whose end mark lies wholly in P are those of P alone
  early : (t : Table) (P X c : List ℕ) → length (P ++ X) ≤ limit
      → ends_before (length P) (reports_in (walk_by R next_step) t c (P ++ X)) ≡ run (step R c) (answer R c) t (ends_before (length P) (units P))
  early t P X c h =
      ap (ends_before (length P)) (all-run t c (P ++ X) h) ∙ kept-with (step R c) (answer R c) t P X
      ∙ early-with (step R c) (answer R c) t (length P) (units P) (head_first (length P) P)

-- ---- the walk

pub read-fair : Fair unit_read
read-fair = record { keeps = left-length; alike = unit-alike }

pub demand-3-complete : (t : Table) (scratch s : List ℕ) → length s ≤ limit → reports t scratch s ≡ reports_of unit_read t scratch (units s)
unfolding walked
demand-3-complete = complete unit_read read-fair

pub no-more-reports : (more : ℕ) (t : Table) (scratch s : List ℕ) → length s ≤ limit → reports_by walked (more + length s) s t 0 scratch ≡ reports t scratch s
unfolding walked
no-more-reports = no_more unit_read read-fair

pub demand-3-once : (t : Table) (scratch s : List ℕ) → length s ≤ limit → (i : ℕ) → length (sift (λ (r : Report UnitRead). eqb r.place (i + 3)) (reports t scratch s)) ≡ pick (hit 1 (drop i s)) 1 0
unfolding walked
demand-3-once = once unit_read read-fair

walk-late : (t : Table) (X S c : List ℕ) → length (X ++ S) ≤ limit → hit 1 S ≡ true
    → map (to_end (length (X ++ S))) (starts_from (length X) (reports t c (X ++ S)))
    ≡ run (step unit_read c) (answer unit_read c) (table_at t c (X ++ S) (length X)) (map (to_end (length S)) (units S))
unfolding walked
walk-late = late unit_read read-fair

walk-early : (t : Table) (P X c : List ℕ) → length (P ++ X) ≤ limit
    → ends_before (length P) (reports t c (P ++ X)) ≡ run (step unit_read c) (answer unit_read c) t (ends_before (length P) (units P))
unfolding walked
walk-early = early unit_read read-fair

-- no unit has more bytes than the recording
abbrev pub Short : ℕ → List Span → Type 0
Short m [] = Unit {0}
Short m (u ∷ us) = (length u.read ≤ m) × Short m us

pub short-units : (n m : ℕ) (l : List ℕ) → length l ≤ m → Short m (units_at n l)
short-units n m [] h = tt
short-units n m (a ∷ r) h = go (hit 1 (a ∷ r)) (short-units (suc n) m r (omega arith))
  where
    go : (t : Bool) → Short m (units_at (suc n) r) → Short m (pick t (span_of n (drop 2 r) ∷ units_at (suc n) r) (units_at (suc n) r))
    go true ih = (simp (length-take, length-drop) (omega arith), ih)
    go false ih = ih

short-sift : (m : ℕ) (p : Span → Bool) (us : List Span) → Short m us → Short m (sift p us)
short-sift m p [] h = tt
short-sift m p (u ∷ us) h = go (p u) (short-sift m p us h.1)
  where
    go : (b : Bool) → Short m (sift p us) → Short m (pick b (u ∷ sift p us) (sift p us))
    go true ih = (h.0, ih)
    go false ih = ih

short-end : (m k : ℕ) (us : List Span) → Short m us → Short m (map (to_end k) us)
short-end m k [] h = tt
short-end m k (u ∷ us) h = (h.0, short-end m k us h.1)

-- so two scratches no shorter give the same reports
same-answers : (t : Table) (m : ℕ) (c d : List ℕ) (us : List Span) → Short m us → m ≤ length c → m ≤ length d → run (step unit_read c) (answer unit_read c) t us ≡ run (step unit_read d) (answer unit_read d) t us
same-answers t m c d [] h a b = refl
same-answers t m c d (u ∷ us) h a b =
    let s = h.0 in
    rw (unit-roomy t u.read c d (omega arith) (omega arith), same-answers (step unit_read d t u.read) m c d us h.1 a b)

-- ---- demand 3

-- M is torn into N; c and d are the scratches, and t and t' the tables to begin with
module _ (t t' : Table) (P M N S c d : List ℕ) (m-limit : length (P ++ M ++ S) ≤ limit) (n-limit : length (P ++ N ++ S) ≤ limit)
    (m-room : length (P ++ M ++ S) ≤ length c) (n_room : length (P ++ N ++ S) ≤ length d) where
  -- S begins with a start code, and both walks come to it with the same table: every unit whose start code lies in S has the same report in both, equally far from the
  -- end; none is missing and none invented
  pub demand-3-late : hit 1 S ≡ true → table_at t c (P ++ M ++ S) (length (P ++ M)) ≡ table_at t' d (P ++ N ++ S) (length (P ++ N))
      → map (to_end (length (P ++ M ++ S))) (starts_from (length (P ++ M)) (reports t c (P ++ M ++ S)))
      ≡ map (to_end (length (P ++ N ++ S))) (starts_from (length (P ++ N)) (reports t' d (P ++ N ++ S)))
  demand-3-late code same =
      let a : length (P ++ M ++ S) ≡ length (P ++ M) + length S = length-append (P ++ M) S in
      let b : length (P ++ N ++ S) ≡ length (P ++ N) + length S = length-append (P ++ N) S in
      let us = map (to_end (length S)) (units S) in
      let short : Short (length S) (map (to_end (length S)) (units S)) = short-end (length S) (length S) (units S) (short-units 0 (length S) S (omega arith)) in
      walk-late t (P ++ M) S c m-limit code ∙ same-answers (table_at t c (P ++ M ++ S) (length (P ++ M))) (length S) c d us short (omega arith) (omega arith)
      ∙ ap (λ (u : Table). run (step unit_read d) (answer unit_read d) u us) same ∙ sym (walk-late t' (P ++ N) S d n-limit code)

module _ (t : Table) (P M N S c d : List ℕ) (m-limit : length (P ++ M ++ S) ≤ limit) (n-limit : length (P ++ N ++ S) ≤ limit)
    (m-room : length (P ++ M ++ S) ≤ length c) (n_room : length (P ++ N ++ S) ≤ length d) where
  -- every unit whose end mark lies wholly in P has the same report at the same place
  pub demand-3-early : ends_before (length P) (reports t c (P ++ M ++ S)) ≡ ends_before (length P) (reports t d (P ++ N ++ S))
  demand-3-early =
      let a : length (P ++ M ++ S) ≡ length P + length M + length S = simp length-append in
      let b : length (P ++ N ++ S) ≡ length P + length N + length S = simp length-append in
      let early-ones : Short (length P) (ends_before (length P) (units P)) = short-sift (length P) (λ (u : Span). leb (u.next + 3) (length P)) (units P) (short-units 0 (length P) P (omega arith)) in
      rw (append_assoc P M S, append_assoc P N S, walk-early t P (M ++ S) c (rw append_assoc at m-limit), walk-early t P (N ++ S) d (rw append_assoc at n-limit))
      (same-answers t (length P) c d (ends_before (length P) (units P)) early-ones (omega arith) (omega arith))

-- ---- recordings without sets: the table stays, so each unit's report is its own, and S may begin with anything

not_set : (t : Table) (a : UnitAnswer) → is_set a ≡ false → table_after t a ≡ t
not_set t (UnitAnswer.Slice n) e = refl
not_set t UnitAnswer.«Prefix» e = refl
not_set t (UnitAnswer.Sequence v) e = let z : ◌≡◌ {A = Bool} true false = e in absurd (true≢false z)
not_set t (UnitAnswer.Picture v) e = let z : ◌≡◌ {A = Bool} true false = e in absurd (true≢false z)
not_set t (UnitAnswer.Other id) e = refl
not_set t (UnitAnswer.Refused r) e = refl

stays : (t : Table) (scratch : List ℕ) (us : List Span) → sets_among (run (step unit_read scratch) (answer unit_read scratch) t us) ≡ [] → run (step unit_read scratch) (answer unit_read scratch) t us ≡ map (report_of (answer unit_read scratch t)) us
stays t scratch [] e = refl
stays t scratch (u ∷ us) e = go (is_set (answer unit_read scratch t u.read).answer) refl e (stays t scratch us)
  where
    rest : Table → List (Report UnitRead)
    rest v = run (step unit_read scratch) (answer unit_read scratch) v us

    go : (b : Bool) → is_set (answer unit_read scratch t u.read).answer ≡ b
        → pick b (report_of (answer unit_read scratch t) u ∷ sets_among (rest (step unit_read scratch t u.read))) (sets_among (rest (step unit_read scratch t u.read))) ≡ []
        → (sets_among (rest t) ≡ [] → rest t ≡ map (report_of (answer unit_read scratch t)) us)
        → report_of (answer unit_read scratch t) u ∷ rest (step unit_read scratch t u.read) ≡ report_of (answer unit_read scratch t) u ∷ map (report_of (answer unit_read scratch t)) us
    go true f g ih = let z : ◌≡◌ {A = ℕ} 0 1 = cc in absurd (omega arith)
    go false f g ih =
        let k : step unit_read scratch t u.read ≡ t = not_set t (answer unit_read scratch t u.read).answer f in
        let h : sets_among (rest t) ≡ [] = rw k at g in
        rw k (ap (λ (rs : List (Report UnitRead)). report_of (answer unit_read scratch t) u ∷ rs) (ih h))

-- each report is that of reading its unit by itself
pub complete-without-sets : (t : Table) (scratch s : List ℕ) → length s ≤ limit → sets_among (reports t scratch s) ≡ [] → reports t scratch s ≡ map (report_of (answer unit_read scratch t)) (units s)
unfolding walked
complete-without-sets t scratch s h e = all-run unit_read read-fair t scratch s h ∙ stays t scratch (units s) (ap sets_among (sym (all-run unit_read read-fair t scratch s h)) ∙ e)

-- a test of the places alone picks the same of the units and of their reports
module _ {A : Type 0} (F : List ℕ → A) where
  sift-map : (q : ℕ → ℕ → Bool) (us : List Span)
      → sift (λ (r : Report A). q r.place r.next) (map (report_of F) us) ≡ map (report_of F) (sift (λ (u : Span). q u.place u.next) us)
  sift-map q [] = refl
  sift-map q (u ∷ us) = go (q u.place u.next) (sift-map q us)
    where
      go : (b : Bool) → sift (λ (r : Report A). q r.place r.next) (map (report_of F) us) ≡ map (report_of F) (sift (λ (v : Span). q v.place v.next) us)
          → pick b (report_of F u ∷ sift (λ (r : Report A). q r.place r.next) (map (report_of F) us)) (sift (λ (r : Report A). q r.place r.next) (map (report_of F) us))
          ≡ map (report_of F) (pick b (u ∷ sift (λ (v : Span). q v.place v.next) us) (sift (λ (v : Span). q v.place v.next) us))
      go true ih = rw ih
      go false ih = ih

  to_end_lem : (k : ℕ) (us : List Span) → map (to_end k) (map (report_of F) us) ≡ map (report_of F) (map (to_end k) us)
  to_end_lem k [] = refl
  to_end_lem k (u ∷ us) = rw (to_end_lem k us)

same-alone : (t : Table) (m : ℕ) (c d : List ℕ) (us : List Span) → Short m us → m ≤ length c → m ≤ length d → map (report_of (answer unit_read c t)) us ≡ map (report_of (answer unit_read d t)) us
same-alone t m c d [] h a b = refl
same-alone t m c d (u ∷ us) h a b =
    let s = h.0 in
    rw (unit-roomy t u.read c d (omega arith) (omega arith), same-alone t m c d us h.1 a b)

late-alone : (t : Table) (X S c : List ℕ) → length (X ++ S) ≤ limit → sets_among (reports t c (X ++ S)) ≡ []
    → map (to_end (length (X ++ S))) (starts_from (length X) (reports t c (X ++ S))) ≡ map (to_end (length S)) (map (report_of (answer unit_read c t)) (units S))
late-alone t X S c h e =
    let F = answer unit_read c t in
    ap (λ (rs : List (Report UnitRead)). map (to_end (length (X ++ S))) (starts_from (length X) rs)) (complete-without-sets t c (X ++ S) h e)
    ∙ ap (map (to_end (length (X ++ S)))) (sift-map F (λ place next. leb (length X + 3) place) (units (X ++ S)))
    ∙ to_end_lem F (length (X ++ S)) (starts_from (length X) (units (X ++ S))) ∙ ap (map (report_of F)) (resync X S) ∙ sym (to_end_lem F (length S) (units S))

module _ (t : Table) (P M N S c d : List ℕ) (m-limit : length (P ++ M ++ S) ≤ limit) (n-limit : length (P ++ N ++ S) ≤ limit)
    (m-room : length (P ++ M ++ S) ≤ length c) (n_room : length (P ++ N ++ S) ≤ length d)
    (m-none : sets_among (reports t c (P ++ M ++ S)) ≡ []) (n-none : sets_among (reports t d (P ++ N ++ S)) ≡ []) where
  pub late-without-sets : map (to_end (length (P ++ M ++ S))) (starts_from (length (P ++ M)) (reports t c (P ++ M ++ S)))
      ≡ map (to_end (length (P ++ N ++ S))) (starts_from (length (P ++ N)) (reports t d (P ++ N ++ S)))
  late-without-sets =
      let a : length (P ++ M ++ S) ≡ length (P ++ M) + length S = length-append (P ++ M) S in
      let b : length (P ++ N ++ S) ≡ length (P ++ N) + length S = length-append (P ++ N) S in
      rw (late-alone t (P ++ M) S c m-limit m-none, late-alone t (P ++ N) S d n-limit n-none)
      (ap (map (to_end (length S))) (same-alone t (length S) c d (units S) (short-units 0 (length S) S (omega arith)) (omega arith) (omega arith)))
