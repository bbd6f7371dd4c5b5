-- The cases of one step of a listing, for either framing: `next` says where the walk steps to.
use mathlib.Core.Path.{◌≡◌, refl, sym, ap, ap₂, subst, ◌∙◌}
use mathlib.Core.List.{List, []}
use mathlib.Core.Bool.{Bool, true, false, true≢false}
use Prim.Native.Nat.{ℕ, suc, ◌+◌, ◌-◌, ◌≤◌, ◌<◌}
use native.Mathlib.Omega.{arith}
use borrow.Author.Tests.{le-leb, lt-leb, lt-ltb, leb-true, leb-false}
use lib.Dec.{leb}
use lib.ListN.{length, length-take, length-drop}
use Rattle.bits.specs.declared.refusals.Refusal.{Refusal}
use Rattle.table.specs.declared.table.Table.{Table}
use Rattle.table.specs.Tables.{empty_table}
use Rattle.unit.specs.declared.answer.UnitAnswer.{UnitAnswer}
use Rattle.unit.specs.declared.answer.UnitRead.{UnitRead}
use Rattle.unit.specs.Unit.{unit_read}
use Rattle.unit.specs.Into.{short, short_answer, words_after, Lent}
use Rattle.walk.specs.declared.walk.Step.{Step}
use Rattle.walk.specs.Walked.{WalkOut, next_step, walk_by}
use Rattle.walk.proofs.Nexts.{none_from}
use Rattle.walk.proofs.Steps.{step-found, found_at, refused_over, step_of}
use Rattle.walk.proofs.Chain.{went}
use Rattle.framed.specs.Framed.{next_framed}
use Rattle.framed.proofs.Steps.{at-end, found, broken-there}
use Rattle.lines.specs.Lines.{broken_line, too_long_line, unit_line, lent_line, Written}
use Rattle.lines.proofs.Lent.{lent-line}
use Rattle.list_steps.specs.declared.step.State.{State}
use Rattle.list_steps.specs.declared.step.Listed.{Listed}
use Rattle.list_steps.specs.declared.step.Next.{Next}
use Rattle.list_steps.specs.Listing.{most, is_refused, one_more, counted, bytes_at, Turn, last, line_after, turn_by, turn, framed_turn, Stepped}
use Rattle.list_steps.specs.Private.{is_refused_short, next_by, Ends, Broken, Met, Inside, met_by, met_turn}

pub one_more_lem : (n : ℕ) → n < most → one_more n ≡ suc n
one_more_lem n h = rw (lt-ltb n most h)

-- a last line is one with any scratch and table
pub ends : {text line line' : List ℕ} {st : State} {r : Listed} → Ends text st line r line' → (scratch : List ℕ) (t : Table) → Stepped (last text st scratch t) line r scratch line' t
ends e scratch t = record { state = e.state; more = e.more; text = e.text; left = refl; table = refl }

-- so is a broken length's
pub breaks : (n : ℕ) (st : State) {line line' : List ℕ} {r : Listed} → Broken st n line r line' → (scratch : List ℕ) (t : Table)
    → Stepped (record { text = broken_line st.from; state = record { from = n; units = st.units; refused = one_more st.refused }; more = true; left = scratch; table = t }) line r scratch line' t
breaks n st e scratch t = record { state = e.state; more = e.more; text = e.text; left = refl; table = refl }

-- ---- where the walk steps to

-- a unit lies ahead and within the recording, so does a broken length, and from the recording's end it is the end
pub record Ahead (s : List ℕ) (next : ℕ → Step) : Type 0 where
  pub on : (from p n m : ℕ) → next from ≡ Step.Unit p n m → (from < m) × (m ≤ length s) × (p + n ≤ length s)
  pub stops : (from : ℕ) (r : Refusal) → next from ≡ Step.Refused r → from < length s
  pub past : next (length s) ≡ Step.End

pub start-ahead : (s : List ℕ) → length s ≤ most → Ahead s (next_step s)
start-ahead s h =
    record {
      on = λ from p n m e. let w = went s from _ (found_at s from e) in (w.on, w.within, omega arith);
      stops = λ from r e. absurd (omega (arith, (refused_over s from e).0));
      past = sym (step-found s (length s) (omega arith) (sym (none_from s (length s) _ refl (omega arith))));
    }

pub framed-ahead : (s : List ℕ) → length s ≤ most → Ahead s (next_framed s)
framed-ahead s h =
    record {
      on = λ from p n m e. let w = found s from e in (omega arith, w.within, omega arith);
      stops = λ from r e. (broken-there s from (omega arith) e).1;
      past = sym (at-end s (length s) (omega arith) (omega arith));
    }

pub by-ahead : (b : Bool) (s : List ℕ) → length s ≤ most → Ahead s (next_by b s)
by-ahead true = framed-ahead
by-ahead false = start-ahead

-- ---- a unit

-- an answer without its records is a refusal where the answer is
refused-short : (u : UnitRead) → is_refused_short (short_answer u) ≡ is_refused u.answer
unfolding short_answer
refused-short u = go u.answer
  where
    go : (a : UnitAnswer) → is_refused_short (short a u) ≡ is_refused a
    go (UnitAnswer.Slice bits) = refl
    go UnitAnswer.«Prefix» = refl
    go (UnitAnswer.Sequence v) = refl
    go (UnitAnswer.Picture v) = refl
    go (UnitAnswer.Other id) = refl
    go (UnitAnswer.Refused r) = refl

module _ (next : List ℕ → ℕ → Step) (t : Table) (s : List ℕ) (st : State) (scratch : List ℕ) where
  abbrev out : WalkOut
  out = walk_by unit_read next t s st.from scratch

  -- where the walk came to
  pub came : {k : Step} → next s st.from ≡ k → out.walked.step ≡ k
  came e = step_of unit_read t s scratch (next s st.from) ∙ e

  pub stepped-to : {b : Lent} {r : Next} {z : List ℕ} {v : Table} {k : Step} → Met out b r z v → r.step ≡ k → next s st.from ≡ k
  stepped-to e g = sym (step_of unit_read t s scratch (next s st.from)) ∙ sym e.step ∙ g

  pub turn-long : most < length s → turn_by next t s st scratch ≡ last too_long_line st scratch t
  turn-long h = rw (lt-leb (length s) most h)

  module _ (small : length s ≤ most) where
    -- by where the walk came to, and what it left in scratch and table
    pub turn_by_lem : {z : List ℕ} {v : Table} (k : Step) → z ≡ out.left → v ≡ out.table → out.walked.step ≡ k → turn_by next t s st scratch ≡ line_after s st out.walked.read z v k
    turn_by_lem {z} {v} k f d g =
        rw (le-leb (length s) most small)
        (ap₂ (λ (z : List ℕ) (v : Table). line_after s st out.walked.read z v out.walked.step) (sym f) (sym d) ∙ ap (λ (k : Step). line_after s st out.walked.read z v k) g)

    module _ (way : Ahead s (next s)) where
      pub inside : {b : Lent} {r : Next} {z : List ℕ} {v : Table} {p n m : ℕ} → Met out b r z v → r.step ≡ Step.Unit p n m → p + n ≤ length s
      inside {p = p} {n = n} {m = m} e g = (way.on st.from p n m (stepped-to e g)).2

      pub met-inside : {b : Lent} {r : Next} {z : List ℕ} {v : Table} → Met out b r z v → Inside r.step (length s)
      met-inside {r = r} e = go r.step refl
        where
          go : (k : Step) → r.step ≡ k → Inside k (length s)
          go (Step.Unit p n m) g = inside e g
          go Step.End g = tt
          go (Step.Refused x) g = tt

      pub unit-stepped : {b : Lent} {r : Next} {z : List ℕ} {v : Table} {p n m : ℕ} → Met out b r z v → r.step ≡ Step.Unit p n m
          → {line line' : List ℕ} {o : Listed}
          → Stepped (met_by v.pictures s st r (Step.Unit p n m)) line o [] line' empty_table
          → Stepped (turn_by next t s st scratch) line o z line' v
      unit-stepped {b} {r} {z} {v} {p} {n} {m} e g {line} {line'} {o} w =
          let u = out.walked.read in
          let i : p + n ≤ length s = inside e g in
          let l : n ≡ length (bytes_at s p n) = simp (length-take, length-drop) (omega arith) in
          let d : lent_line v.pictures p n (bytes_at s p n) r.answer r.numbers r.signed ≡ unit_line v.pictures p (bytes_at s p n) u =
          rw (e.answered, e.numbers, e.signed)
          (ap (λ (j : ℕ). lent_line v.pictures p j (bytes_at s p n) (short_answer u) (words_after u b).header.numbers (words_after u b).header.signed) l
          ∙ lent-line v.pictures (bytes_at s p n) u b p) in
          rw (turn_by_lem (Step.Unit p n m) e.left e.table (sym e.step ∙ g))
          (record {
            state = w.state ∙ ap (counted st m) (ap is_refused_short e.answered ∙ refused-short u);
            more = w.more;
            text = subst (λ (x : List ℕ). Written x line o.length line') d w.text;
            left = refl;
            table = refl;
          })

      -- the line of what a step came to is the listing's
      pub met-stepped : {b : Lent} {r : Next} {z : List ℕ} {v : Table} → Met out b r z v → {line line' : List ℕ} {o : Listed}
          → Stepped (met_turn v.pictures s st r) line o [] line' empty_table → Stepped (turn_by next t s st scratch) line o z line' v
      met-stepped {b} {r} {z} {v} e {line} {line'} {o} = go r.step refl
        where
          go : (k : Step) → r.step ≡ k → Stepped (met_by v.pictures s st r k) line o [] line' empty_table → Stepped (turn_by next t s st scratch) line o z line' v
          go (Step.Unit p n m) g w = unit-stepped e g w
          go Step.End g w = rw (turn_by_lem Step.End e.left e.table (sym e.step ∙ g)) (ends w _ _)
          go (Step.Refused x) g w = rw (turn_by_lem (Step.Refused x) e.left e.table (sym e.step ∙ g)) (breaks (length s) st w _ _)

      -- a step that another follows goes on ahead, within the recording
      on-from : (turn_by next t s st scratch).more ≡ true → (st.from < (turn_by next t s st scratch).state.from) × ((turn_by next t s st scratch).state.from ≤ length s)
      on-from e = go (next s st.from) refl
        where
          go : (k : Step) → next s st.from ≡ k → (st.from < (turn_by next t s st scratch).state.from) × ((turn_by next t s st scratch).state.from ≤ length s)
          go (Step.Unit p n m) g = let w = way.on st.from p n m g in rw (turn_by_lem (Step.Unit p n m) refl refl (came g)) (w.0, w.1)
          go Step.End g = absurd (true≢false (sym e ∙ ap (λ (o : Turn). o.more) (turn_by_lem Step.End refl refl (came g))))
          go (Step.Refused r) g = let w = way.stops st.from r g in rw (turn_by_lem (Step.Refused r) refl refl (came g)) (omega arith, omega arith)

  goes_by : (length s ≤ most → Ahead s (next s)) → (turn_by next t s st scratch).more ≡ true
      → (st.from < (turn_by next t s st scratch).state.from) × ((turn_by next t s st scratch).state.from ≤ length s)
  goes_by way e = size (leb (length s) most) refl
    where
      size : (b : Bool) → leb (length s) most ≡ b → (st.from < (turn_by next t s st scratch).state.from) × ((turn_by next t s st scratch).state.from ≤ length s)
      size true p = let h : length s ≤ most = leb-true (length s) most p in on-from h (way h) e
      size false p = absurd (true≢false (sym e ∙ ap (λ (o : Turn). o.more) (turn-long (leb-false (length s) most p))))

module _ (t : Table) (s : List ℕ) (st : State) (scratch : List ℕ) where
  pub goes_on : (turn t s st scratch).more ≡ true → (st.from < (turn t s st scratch).state.from) × ((turn t s st scratch).state.from ≤ length s)
  unfolding turn
  goes_on = goes_by next_step t s st scratch (start-ahead s)

  pub framed-goes-on : (framed_turn t s st scratch).more ≡ true → (st.from < (framed_turn t s st scratch).state.from) × ((framed_turn t s st scratch).state.from ≤ length s)
  unfolding framed_turn
  framed-goes-on = goes_by next_framed t s st scratch (framed-ahead s)
