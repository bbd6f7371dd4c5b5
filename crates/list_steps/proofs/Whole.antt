-- The steps of a listing, one after another from its start, write the listing; for either framing.
use mathlib.Core.Path.{◌≡◌, refl, sym, ap, ap₂, ◌∙◌}
use mathlib.Core.List.{List, [], ◌∷◌, ◌++◌, append-nil, append_assoc}
use mathlib.Core.Bool.{Bool, true, false}
use Prim.Native.Nat.{ℕ, zero, suc, ◌+◌, ◌-◌, ◌≤◌, ◌<◌}
use native.Mathlib.Omega.{arith}
use native.Mathlib.Nat.{add-zero, zero-add}
use borrow.Author.Tests.{le-leb, leb-true, leb-false}
use lib.Dec.{leb, ltb}
use lib.IntN.{pos}
use lib.ListN.{length, drop}
use Rattle.bits.specs.Refusals.{pick, refusal}
use Rattle.bits.specs.declared.refusals.Refusal.{Refusal}
use Rattle.bits.proofs.Results.{cases}
use Rattle.table.specs.declared.table.Table.{Table}
use Rattle.unit.specs.declared.answer.UnitRead.{UnitRead}
use Rattle.unit.specs.Unit.{unit_read}
use Rattle.walk.specs.declared.walk.Step.{Step}
use Rattle.walk.specs.Units.{Report}
use Rattle.walk.specs.Walked.{table_after, nothing, next_step, stepped, walk_by, walked}
use Rattle.walk.specs.Reports.{and_on as on, reports_by, reports}
use Rattle.walk.proofs.Demand.{no-more-reports}
use Rattle.walk.proofs.Steps.{refused_over}
use Rattle.framed.specs.Framed.{framed_at, framed_units, end_of, broken_length, next_framed}
use Rattle.framed.specs.Walked.{walked_framed, framed_reports}
use Rattle.framed.proofs.Frames.{short-at}
use Rattle.framed.proofs.Steps.{went, stopped}
use Rattle.framed.proofs.Walks.{framed-no-more, framed-end}
use Rattle.lines.specs.Lines.{unit_line, end_line, broken_line, too_long_line}
use Rattle.list_steps.specs.declared.step.State.{State}
use Rattle.list_steps.specs.Listing.{
  most,
  bytes_at,
  unit_lines,
  is_refused,
  refused_ones,
  whole_text,
  listing,
  framed_listing,
  start,
  one_more,
  counted,
  Turn,
  after_walk,
  turn_by,
  turn,
  framed_turn,
  and_on,
  steps,
}
use Rattle.list_steps.proofs.Turns.{one_more_lem, Ahead, start-ahead, framed-ahead, turn-long}

-- the last line, where the reports us follow a state
abbrev totals : State → List (Report UnitRead) → List ℕ
totals st us = end_line (st.units + length us) (st.refused + length (refused_ones us))

-- all lines behind the units', where the walk comes to no unit from e: there it comes to k
abbrev closing : State → List (Report UnitRead) → ℕ → Step → List ℕ
closing st us e (Step.Unit p n m) = totals st us
closing st us e Step.End = totals st us
closing st us e (Step.Refused r) = broken_line e ++ end_line (st.units + length us) (suc (st.refused + length (refused_ones us)))

-- a count goes up by one where its unit counts
counts : (b : Bool) (n : ℕ) (u : Report UnitRead) (us : List (Report UnitRead)) → n < most → pick b (one_more n) n + length us ≡ n + length (pick b (u ∷ us) us)
counts true n u us h = omega (arith, one_more_lem n h)
counts false n u us h = refl

-- the state after a unit, and the reports after it
moved : (st : State) (m : ℕ) (u : Report UnitRead) (us : List (Report UnitRead)) (e : ℕ) (k : Step) → st.units < most → st.refused < most
    → closing (counted st m (is_refused u.read.answer)) us e k ≡ closing st (u ∷ us) e k
moved st m u us e k h l = go k
  where
    one : st.units + suc (length us) ≡ one_more st.units + length us
    one = omega (arith, one_more_lem st.units h)

    two : st.refused + length (refused_ones (u ∷ us)) ≡ pick (is_refused u.read.answer) (one_more st.refused) st.refused + length (refused_ones us)
    two = sym (counts (is_refused u.read.answer) st.refused u (refused_ones us) l)

    go : (k : Step) → closing (counted st m (is_refused u.read.answer)) us e k ≡ closing st (u ∷ us) e k
    go (Step.Unit p n m) = ap₂ end_line (sym one) (sym two)
    go Step.End = ap₂ end_line (sym one) (sym two)
    go (Step.Refused r) = ap (λ (x : List ℕ). broken_line e ++ x) (ap₂ (λ (a b : ℕ). end_line a (suc b)) (sym one) (sym two))

-- a count after a unit
one_up : (b : Bool) (n k : ℕ) → n ≤ k → n < most → pick b (one_more n) n ≤ suc k
one_up true n k h l = omega (arith, one_more_lem n l)
one_up false n k h l = omega arith

module _ (next : List ℕ → ℕ → Step) (s : List ℕ) where
  -- the place from which the walk comes to no unit
  abbrev end_on : Step → ℕ → (ℕ → ℕ) → ℕ
  end_on (Step.Unit p n m) from rest = rest m
  end_on Step.End from rest = from
  end_on (Step.Refused r) from rest = from

  abbrev end_by : ℕ → ℕ → ℕ
  end_by zero from = from
  end_by (suc f) from = end_on (next s from) from (end_by f)

  -- all lines, where the walk's reports are us and it comes to no unit from e
  abbrev lines_of : Table → State → List (Report UnitRead) → ℕ → List ℕ
  lines_of t st us e = unit_lines t s us ++ closing st us e (next s e)

  -- what f + 1 steps from a table and a state write
  abbrev Writes : ℕ → Table → State → List ℕ → Type 0
  Writes f t st scratch = steps (turn_by next) (suc f) s t st scratch ≡ lines_of t st (reports_by (walk_by unit_read next) f s t st.from scratch) (end_by f st.from)

  -- by the first step
  abbrev lines_by : ℕ → Table → State → List ℕ → Step → List ℕ
  lines_by f t st scratch k = lines_of t st (on (stepped unit_read t s scratch k) (reports_by (walk_by unit_read next) f s)) (end_on k st.from (end_by f))

module _ (next : List ℕ → ℕ → Step) (s : List ℕ) (small : length s ≤ most) (way : Ahead s (next s)) where
  turn_at : (t : Table) (st : State) (scratch : List ℕ) {k : Step} → next s st.from ≡ k → turn_by next t s st scratch ≡ after_walk s st (stepped unit_read t s scratch k)
  turn_at t st scratch e = rw (le-leb (length s) most small) (ap (λ (k : Step). after_walk s st (stepped unit_read t s scratch k)) e)

  -- the walk came to the end
  ended : (f : ℕ) (t : Table) (st : State) (scratch : List ℕ) → next s st.from ≡ Step.End → steps (turn_by next) (suc f) s t st scratch ≡ end_line st.units st.refused
  unfolding nothing
  ended f t st scratch e = ap (λ (o : Turn). and_on o (steps (turn_by next) f s)) (turn_at t st scratch e) ∙ append-nil (end_line st.units st.refused)

  none_after : (st : State) → end_line st.units st.refused ≡ totals st []
  none_after st = ap₂ end_line (sym (add-zero st.units)) (sym (add-zero st.refused))

  -- a unit, and the steps after it
  unit-on : (f : ℕ) (t : Table) (st : State) (scratch : List ℕ) (p n m : ℕ) → next s st.from ≡ Step.Unit p n m → st.units < most → st.refused < most
      → (let o = unit_read t (bytes_at s p n) scratch in Writes next s f (table_after t o.read.answer) (counted st m (is_refused o.read.answer)) o.left)
      → Writes next s (suc f) t st scratch
  unit-on f t st scratch p n m e h l ih =
      let o = unit_read t (bytes_at s p n) scratch in
      let v : Table = table_after t o.read.answer in
      let u : Report UnitRead = record { place = p; size = n; next = m; read = o.read } in
      let us : List (Report UnitRead) = reports_by (walk_by unit_read next) f s v m o.left in
      let end : ℕ = end_by next s f m in
      let line : List ℕ = unit_line v.pictures p (bytes_at s p n) o.read in
      ap (λ (o : Turn). and_on o (steps (turn_by next) (suc f) s)) (turn_at t st scratch e)
      ∙ ap (λ (y : List ℕ). line ++ y) (ih ∙ ap (λ (y : List ℕ). unit_lines v s us ++ y) (moved st m u us end (next s end) h l))
      ∙ sym (append_assoc line (unit_lines v s us) (closing st (u ∷ us) end (next s end)))
      ∙ sym (ap (lines_by next s f t st scratch) e)

  -- a broken length: the totals follow
  broken-on : (f : ℕ) (t : Table) (st : State) (scratch : List ℕ) (r : Refusal) → next s st.from ≡ Step.Refused r → st.refused < most → Writes next s (suc f) t st scratch
  unfolding nothing
  broken-on f t st scratch r e l =
      let st' : State = record { from = length s; units = st.units; refused = one_more st.refused } in
      ap (λ (o : Turn). and_on o (steps (turn_by next) (suc f) s)) (turn_at t st scratch e)
      ∙ ap (λ (y : List ℕ). broken_line st.from ++ y) (ended f t st' scratch way.past ∙ ap₂ end_line (sym (add-zero st.units)) (one_more_lem st.refused l ∙ ap suc (sym (add-zero st.refused))))
      ∙ sym (ap (lines_by next s f t st scratch) e ∙ ap (closing st [] st.from) e)

  ended-on : (f : ℕ) (t : Table) (st : State) (scratch : List ℕ) → next s st.from ≡ Step.End → Writes next s (suc f) t st scratch
  unfolding nothing
  ended-on f t st scratch e = ended (suc f) t st scratch e ∙ none_after st ∙ sym (ap (lines_by next s f t st scratch) e ∙ ap (closing st [] st.from) e)

  -- steps enough to come to the end, from a state that has counted no more than it passed
  along : (f : ℕ) (t : Table) (st : State) (scratch : List ℕ) → length s ≤ st.from + f → st.units ≤ st.from → st.refused ≤ st.from → Writes next s f t st scratch
  along zero t st scratch h a b = go (next s st.from) refl
    where
      go : (k : Step) → next s st.from ≡ k → Writes next s zero t st scratch
      go (Step.Unit p n m) e = let w = way.on st.from p n m e in absurd (omega (arith, w.0, w.1))
      go Step.End e = ended zero t st scratch e ∙ none_after st ∙ sym (ap (closing st [] st.from) e)
      go (Step.Refused r) e = absurd (omega (arith, way.stops st.from r e))
  along (suc f) t st scratch h a b = go (along f) (next s st.from) refl
    where
      go : ((t : Table) (st : State) (scratch : List ℕ) → length s ≤ st.from + f → st.units ≤ st.from → st.refused ≤ st.from → Writes next s f t st scratch)
          → (k : Step) → next s st.from ≡ k → Writes next s (suc f) t st scratch
      go ih (Step.Unit p n m) e =
          let w = way.on st.from p n m e in
          let c : st.from < most = omega (arith, w.0, w.1) in
          let o = unit_read t (bytes_at s p n) scratch in
          unit-on f t st scratch p n m e (omega arith) (omega arith)
          (ih (table_after t o.read.answer) (counted st m (is_refused o.read.answer)) o.left
          (omega (arith, w.0))
          (omega (arith, w.0, one_up true st.units st.from a (omega arith)))
          (omega (arith, w.0, one_up (is_refused o.read.answer) st.refused st.from b (omega arith))))
      go ih Step.End e = ended-on f t st scratch e
      go ih (Step.Refused r) e = broken-on f t st scratch r e (omega (arith, way.stops st.from r e))

  -- from where the walk ends it comes to no unit
  no-unit : (f from : ℕ) → length s ≤ from + f → (p n m : ℕ) → next s (end_by next s f from) ≡ Step.Unit p n m → ⊥
  no-unit zero from h p n m e = let w = way.on from p n m e in omega (arith, w.0, w.1)
  no-unit (suc f) from h p n m e = go (next s from) refl e (no-unit f)
    where
      go : (k : Step) → next s from ≡ k → next s (end_on next s k from (end_by next s f)) ≡ Step.Unit p n m → ((from : ℕ) → length s ≤ from + f → (p n m : ℕ) → next s (end_by next s f from) ≡ Step.Unit p n m → ⊥) → ⊥
      go (Step.Unit p' n' m') g q ih = let w = way.on from p' n' m' g in ih m' (omega (arith, w.0)) p n m q
      go Step.End g q ih = let z : ◌≡◌ {A = ℕ} 0 1 = cc in omega arith
      go (Step.Refused r) g q ih = let z : ◌≡◌ {A = ℕ} 0 1 = cc in omega arith

-- the steps by `next` write the lines of the reports; us are these, and e is where the walk ends
written-by : (next : List ℕ → ℕ → Step) (t : Table) (scratch s : List ℕ) (f : ℕ) → length s ≤ f → (small : length s ≤ most) → Ahead s (next s)
    → steps (turn_by next) (suc f) s t start scratch ≡ lines_of next s t start (reports_by (walk_by unit_read next) f s t 0 scratch) (end_by next s f 0)
written-by next t scratch s f l small way = along next s small way f t start scratch (omega arith) (omega arith) (omega arith)

too_long : (next : List ℕ → ℕ → Step) (t : Table) (scratch s : List ℕ) (f : ℕ) → most < length s → steps (turn_by next) (suc f) s t start scratch ≡ too_long_line
too_long next t scratch s f h = ap (λ (o : Turn). and_on o (steps (turn_by next) f s)) (turn-long next t s start scratch h) ∙ append-nil too_long_line

-- nothing was counted before
from_start : (us : List (Report UnitRead)) → totals start us ≡ end_line (length us) (length (refused_ones us))
from_start us = ap₂ end_line (zero-add (length us)) (zero-add (length (refused_ones us)))

-- ---- with start codes

module _ (t : Table) (scratch s : List ℕ) where
  -- as many steps as the recording has bytes, and one, or more of them
  enough : (f : ℕ) → length s ≤ f → steps turn (suc f) s t start scratch ≡ listing t scratch s
  unfolding listing turn walked
  enough f l =
      cases (leb (length s) most)
      (λ p. let h : length s ≤ most = leb-true (length s) most p in
      let k : f - length s + length s ≡ f = omega arith in
      let us : List (Report UnitRead) = reports t scratch s in
      let e : reports_by walked f s t 0 scratch ≡ us = rw k at (no-more-reports (f - length s) t scratch s (omega arith)) in
      let end : ℕ = end_by next_step s f 0 in
      let w : next_step s end ≡ Step.End = is-end h (next_step s end) refl in
      written-by next_step t scratch s f l h (start-ahead s h)
      ∙ ap (λ (vs : List (Report UnitRead)). lines_of next_step s t start vs end) e
      ∙ ap (λ (k : Step). unit_lines t s us ++ closing start us end k) w
      ∙ ap (λ (y : List ℕ). unit_lines t s us ++ y) (from_start us)
      ∙ rw p)
      (λ p. too_long next_step t scratch s f (leb-false (length s) most p) ∙ rw p)
    where
      is-end : length s ≤ most → (k : Step) → next_step s (end_by next_step s f 0) ≡ k → next_step s (end_by next_step s f 0) ≡ Step.End
      is-end h (Step.Unit p n m) g = absurd (no-unit next_step s h (start-ahead s h) f 0 (omega arith) p n m g)
      is-end h Step.End g = g
      is-end h (Step.Refused r) g = absurd (omega (arith, (refused_over s (end_by next_step s f 0) g).0))

  -- for every table, recording and scratch: as many steps as the recording has bytes, and one, write the listing
  pub steps-write-the-listing : steps turn (suc (length s)) s t start scratch ≡ listing t scratch s
  steps-write-the-listing = enough (length s) (omega arith)

  -- asked more often, the steps write no more
  pub no-more-lines : (more : ℕ) → steps turn (suc (more + length s)) s t start scratch ≡ listing t scratch s
  no-more-lines more = enough (more + length s) (omega arith)

-- ---- framed by length

-- the walk ends where the units do
ends_there : (s : List ℕ) → length s ≤ most → (f from : ℕ) → length s ≤ from + f → end_by next_framed s f from ≡ end_of from (framed_at 0 from (drop from s))
ends_there s h zero from l = rw (short-at s from (omega arith))
ends_there s h (suc f) from l = go (next_framed s from) refl (ends_there s h f)
  where
    go : (k : Step) → next_framed s from ≡ k → ((m : ℕ) → length s ≤ m + f → end_by next_framed s f m ≡ end_of m (framed_at 0 m (drop m s)))
        → end_on next_framed s k from (end_by next_framed s f) ≡ end_of from (framed_at 0 from (drop from s))
    go (Step.Unit p n m) e ih = let w = went s from (omega arith) e in ih m (omega arith) ∙ sym (ap (end_of from) w.there)
    go Step.End e ih = rw (stopped s from (omega arith) (sym e) (λ p k m q. cc))
    go (Step.Refused r) e ih = rw (stopped s from (omega arith) (sym e) (λ p k m q. cc))

module _ (t : Table) (scratch s : List ℕ) where
  framed-enough : (f : ℕ) → length s ≤ f → steps framed_turn (suc f) s t start scratch ≡ framed_listing t scratch s
  unfolding framed_listing framed_turn walked_framed
  framed-enough f l =
      cases (leb (length s) most)
      (λ p. let h : length s ≤ most = leb-true (length s) most p in
      let k : f - length s + length s ≡ f = omega arith in
      let us : List (Report UnitRead) = framed_reports t scratch s in
      let e : reports_by walked_framed f s t 0 scratch ≡ us = rw k at (framed-no-more (f - length s) t scratch s (omega arith)) in
      let end : ℕ = end_of 0 (framed_units s) in
      written-by next_framed t scratch s f l h (framed-ahead s h)
      ∙ ap₂ (lines_of next_framed s t start) e (ends_there s h f 0 (omega arith))
      ∙ ap (λ (k : Step). unit_lines t s us ++ closing start us end k) (framed-end s (omega arith))
      ∙ by us end (ltb end (length s))
      ∙ rw p)
      (λ p. too_long next_framed t scratch s f (leb-false (length s) most p) ∙ rw p)
    where
      by : (us : List (Report UnitRead)) (end : ℕ) (b : Bool)
          → unit_lines t s us ++ closing start us end (pick b (Step.Refused (refusal broken_length (pos end))) Step.End)
          ≡ pick b (unit_lines t s us ++ (broken_line end ++ end_line (length us) (suc (length (refused_ones us))))) (whole_text t s us)
      by us end true = ap₂ (λ (a b : ℕ). unit_lines t s us ++ (broken_line end ++ end_line a (suc b))) (zero-add (length us)) (zero-add (length (refused_ones us)))
      by us end false = ap (λ (y : List ℕ). unit_lines t s us ++ y) (from_start us)

  pub steps-write-the-framed-listing : steps framed_turn (suc (length s)) s t start scratch ≡ framed_listing t scratch s
  steps-write-the-framed-listing = framed-enough (length s) (omega arith)

  pub no-more-framed-lines : (more : ℕ) → steps framed_turn (suc (more + length s)) s t start scratch ≡ framed_listing t scratch s
  no-more-framed-lines more = framed-enough (more + length s) (omega arith)
