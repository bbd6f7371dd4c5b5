-- The reports of a walk are those of a list of units: one law for every way to read a unit, and for every way to step from unit to unit.
use mathlib.Core.Path.{◌≡◌, refl, ap, ◌∙◌}
use mathlib.Core.List.{List, [], ◌∷◌}
use Prim.Native.Nat.{ℕ, zero, suc, ◌+◌, ◌≤◌, ◌<◌}
use native.Mathlib.Omega.{arith}
use lib.ListN.{length, take, drop}
use Rattle.bits.specs.declared.refusals.Refusal.{Refusal}
use Rattle.table.specs.declared.table.Table.{Table}
use Rattle.unit.specs.declared.answer.UnitRead.{UnitRead}
use Rattle.walk.specs.declared.walk.Step.{Step}
use Rattle.walk.specs.Units.{Report, Span, report_of}
use Rattle.walk.specs.Walked.{table_after, nothing, Reading, stepped, walk_by}
use Rattle.walk.specs.Reports.{and_on, reports_by, reports_of, table_by}
use Rattle.walk.proofs.State.{run, after}

-- scratch keeps its length, and nothing else of it plays a part
pub record Fair (R : Reading) : Type 0 where
  pub keeps : (t : Table) (u c : List ℕ) → length (R t u c).left ≡ length c
  pub alike : (t : Table) (u c d : List ℕ) → length c ≡ length d → (R t u c).read ≡ (R t u d).read

-- the steps over the recording s meet the units `us from` from a place on, one after the other and ahead, and no other
pub record Meets (s : List ℕ) (next : ℕ → Step) (us : ℕ → List Span) : Type 0 where
  pub on : (from p l n : ℕ) → next from ≡ Step.Unit p l n → (from < n) × (us from ≡ record { place = p; size = l; next = n; read = take l (drop p s) } ∷ us n)
  pub ended : (from : ℕ) → next from ≡ Step.End → us from ≡ []
  pub stopped : (from : ℕ) (r : Refusal) → next from ≡ Step.Refused r → us from ≡ []
  pub past : (from : ℕ) → length s ≤ from → us from ≡ []

module _ (R : Reading) (fair : Fair R) (next : List ℕ → ℕ → Step) (s : List ℕ) (us : ℕ → List Span) (meets : Meets s (next s) us) where
  -- from a place on: scratch may be any of the length that the first had
  pub chain : (f : ℕ) (t : Table) (from : ℕ) (c scratch : List ℕ) → length c ≡ length scratch → length s ≤ f + from
      → reports_by (walk_by R next) f s t from c ≡ reports_of R t scratch (us from)
  unfolding nothing
  chain zero t from c scratch e h = rw (meets.past from (omega arith))
  chain (suc f) t from c scratch e h = go (next s from) refl (λ t n d. chain f t n d scratch)
    where
      go : (k : Step) → next s from ≡ k
          → ((t : Table) (n : ℕ) (d : List ℕ) → length d ≡ length scratch → length s ≤ f + n → reports_by (walk_by R next) f s t n d ≡ reports_of R t scratch (us n))
          → and_on (stepped R t s c k) (reports_by (walk_by R next) f s) ≡ reports_of R t scratch (us from)
      go Step.End g ih = rw (meets.ended from g)
      go (Step.Refused r) g ih = rw (meets.stopped from r g)
      go (Step.Unit p l n) g ih =
          let w = meets.on from p l n g in
          let u = take l (drop p s) in
          rw (w.1, fair.alike t u c scratch e, ih (table_after t (R t u scratch).read.answer) n (R t u c).left (fair.keeps t u c ∙ e) (omega (arith, w.0)))

  -- asked as often as the recording has bytes, or more often
  pub chain-all : (more : ℕ) (t : Table) (scratch : List ℕ) → reports_by (walk_by R next) (more + length s) s t 0 scratch ≡ reports_of R t scratch (us 0)
  chain-all more t scratch = chain (more + length s) t 0 scratch scratch refl (omega arith)

-- ---- as a run that carries the table

-- what reading a unit answers with such a scratch, and the table after it
abbrev pub answer : Reading → List ℕ → Table → List ℕ → UnitRead
answer R scratch t u = (R t u scratch).read

abbrev pub step : Reading → List ℕ → Table → List ℕ → Table
step R scratch t u = table_after t (answer R scratch t u).answer

pub of-run : (R : Reading) (t : Table) (scratch : List ℕ) (us : List Span) → reports_of R t scratch us ≡ run (step R scratch) (answer R scratch) t us
of-run R t scratch [] = refl
of-run R t scratch (u ∷ us) = ap (λ (rs : List (Report UnitRead)). report_of (answer R scratch t) u ∷ rs) (of-run R (step R scratch t u.read) scratch us)

-- the table after reports of a run is the run's
pub table-run : (R : Reading) (t : Table) (scratch : List ℕ) (us : List Span) → table_by t (run (step R scratch) (answer R scratch) t us) ≡ after (step R scratch) (answer R scratch) t us
table-run R t scratch [] = refl
table-run R t scratch (u ∷ us) = table-run R (step R scratch t u.read) scratch us
