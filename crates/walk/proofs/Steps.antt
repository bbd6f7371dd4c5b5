-- The cases of one step of a walk, for any table and reading.
use mathlib.Core.Path.{◌≡◌, refl, ap}
use mathlib.Core.List.{List}
use mathlib.Core.Bool.{Bool, true, false}
use Prim.Native.Nat.{ℕ, ◌+◌, ◌-◌, ◌≤◌, ◌<◌}
use native.Mathlib.Omega.{arith}
use lib.Dec.{leb}
use borrow.Author.Tests.{le-leb, lt-leb, leb-false}
use lib.IntN.{pos}
use lib.ListN.{length, take, drop}
use Rattle.bits.specs.Refusals.{pick, refusal, too_large, limit}
use Rattle.bits.specs.declared.refusals.Refusal.{Refusal}
use Rattle.table.specs.declared.table.Table.{Table}
use Rattle.unit.specs.declared.into.ShortAnswer.{ShortAnswer}
use Rattle.unit.specs.Answer.{only}
use Rattle.unit.specs.Unit.{unit_read}
use Rattle.unit.specs.Into.{short_answer, Lent, words_after}
use Rattle.front.specs.Front.{unit_front}
use Rattle.std.specs.Prelude.{Option, Some, None}
use Rattle.walk.specs.declared.search.Span.{Span}
use Rattle.walk.specs.declared.walk.Step.{Step}
use Rattle.walk.specs.Walk.{next_unit}
use Rattle.walk.specs.Walked.{table_after, step_to, next_step, nothing, Reading, stepped, walked}
use Rattle.walk.specs.WalkedInto.{WalkedInto, Turned}
use Rattle.walk.specs.Headers.{walked_headers}

-- where a step comes to, by the search
module _ (s : List ℕ) (from : ℕ) where
  pub step-over : limit < length s → Step.Refused (refusal too_large (pos 0)) ≡ next_step s from
  unfolding next_step
  step-over h = rw (lt-leb (length s) limit h)

  pub step-found : length s ≤ limit → {f : Option Span} → next_unit s from ≡ f → step_to f ≡ next_step s from
  unfolding next_step
  step-found h e = rw (le-leb (length s) limit h, e)

  -- a step to a unit is the search's
  pub found_at : {p l n : ℕ} → next_step s from ≡ Step.Unit p l n → next_unit s from ≡ Some (record { place = p; length = l; next = n })
  unfolding next_step
  found_at {p} {l} {n} = go (leb (length s) limit) (next_unit s from)
    where
      go : (b : Bool) (f : Option Span) → pick b (step_to f) (Step.Refused (refusal too_large (pos 0))) ≡ Step.Unit p l n → f ≡ Some (record { place = p; length = l; next = n })
      go true (Some u) e =
          let ep : u.place ≡ p = cc in
          let el : u.length ≡ l = cc in
          let en : u.next ≡ n = cc in
          λ i. Some (record { place = ep i; length = el i; next = en i })
      go true None e = let z : ◌≡◌ {A = ℕ} 0 1 = cc in absurd (omega arith)
      go false f e = let z : ◌≡◌ {A = ℕ} 0 1 = cc in absurd (omega arith)

  -- so is one to the end
  pub found-end : next_step s from ≡ Step.End → next_unit s from ≡ None
  unfolding next_step
  found-end = go (leb (length s) limit) (next_unit s from)
    where
      go : (b : Bool) (f : Option Span) → pick b (step_to f) (Step.Refused (refusal too_large (pos 0))) ≡ Step.End → f ≡ None
      go true (Some u) e = let z : ◌≡◌ {A = ℕ} 0 1 = cc in absurd (omega arith)
      go true None e = refl
      go false f e = let z : ◌≡◌ {A = ℕ} 0 1 = cc in absurd (omega arith)

  -- and what is refused is 27
  pub refused_over : {r : Refusal} → next_step s from ≡ Step.Refused r → (limit < length s) × (r ≡ refusal too_large (pos 0))
  unfolding next_step
  refused_over {r} = go (leb (length s) limit) refl (next_unit s from)
    where
      go : (b : Bool) → leb (length s) limit ≡ b → (f : Option Span) → pick b (step_to f) (Step.Refused (refusal too_large (pos 0))) ≡ Step.Refused r
          → (limit < length s) × (r ≡ refusal too_large (pos 0))
      go true h (Some u) e = let z : ◌≡◌ {A = ℕ} 0 1 = cc in absurd (omega arith)
      go true h None e = let z : ◌≡◌ {A = ℕ} 0 1 = cc in absurd (omega arith)
      go false h f e = (leb-false (length s) limit h, cc)

-- what is known where a step is not taken apart as a unit
abbrev pub NoUnit : Step → Type 0
NoUnit r = (p l n : ℕ) → r ≡ Step.Unit p l n → ⊥

-- the walks' steps
pub walked_at : (t : Table) (s : List ℕ) (from : ℕ) (scratch : List ℕ) {k : Step} → next_step s from ≡ k → walked t s from scratch ≡ stepped unit_read t s scratch k
unfolding walked
walked_at t s from scratch e = ap (stepped unit_read t s scratch) e

pub headers-at : (t : Table) (s : List ℕ) (from : ℕ) (scratch : List ℕ) {k : Step} → next_step s from ≡ k → walked_headers t s from scratch ≡ stepped unit_front t s scratch k
unfolding walked_headers
headers-at t s from scratch e = ap (stepped unit_front t s scratch) e

module _ (R : Reading) (t : Table) (s scratch : List ℕ) where
  -- where it came to
  pub step_of : (k : Step) → (stepped R t s scratch k).walked.step ≡ k
  unfolding nothing
  step_of (Step.Unit p l n) = refl
  step_of Step.End = refl
  step_of (Step.Refused r) = refl

  -- its table is that after the unit's answer: a set that was read is put, a refused one leaves the table
  pub table_of : (k : Step) → (stepped R t s scratch k).table ≡ table_after t (stepped R t s scratch k).walked.read.answer
  unfolding nothing only
  table_of (Step.Unit p l n) = refl
  table_of Step.End = refl
  table_of (Step.Refused r) = refl

  -- ---- into lent words

  pub none-into : (k : Step) → NoUnit k → (b : Lent) → WalkedInto (stepped R t s scratch k) (record { step = k; answer = ShortAnswer.Other 0 }) scratch t b b
  unfolding nothing only short_answer words_after
  none-into (Step.Unit p l n) k b = absurd (k p l n refl)
  none-into Step.End k b = record { step = refl; answered = refl; left = refl; table = refl; words = refl }
  none-into (Step.Refused r) k b = record { step = refl; answered = refl; left = refl; table = refl; words = refl }

  -- the part that is lent is s[p .. p + l]
  pub unit-into : {p l n : ℕ} {a : ShortAnswer} {left : List ℕ} {t' : Table} {b w : Lent} → Turned R t (take (p + l - p) (drop p s)) scratch a left t' b w
      → WalkedInto (stepped R t s scratch (Step.Unit p l n)) (record { step = Step.Unit p l n; answer = a }) left t' b w
  unit-into {p} {l} {a = a} {left = left} {t' = t'} {b = b} {w = w} h =
      let m : p + l - p ≡ l = omega arith in
      let g : Turned R t (take l (drop p s)) scratch a left t' b w = rw m at h in
      record { step = refl; answered = g.answered; left = g.left; table = g.table; words = g.words }

-- a unit that two readings read alike
pub turned_as : {R R' : Reading} {t : Table} {unit c : List ℕ} {a : ShortAnswer} {left : List ℕ} {t' : Table} {b w : Lent} → R t unit c ≡ R' t unit c
    → Turned R t unit c a left t' b w → Turned R' t unit c a left t' b w
turned_as e h = record { answered = rw (← e) h.answered; left = rw (← e) h.left; table = rw (← e) h.table; words = rw (← e) h.words }
