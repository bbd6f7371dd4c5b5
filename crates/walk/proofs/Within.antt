-- Every report lies within the recording.
use mathlib.Core.Path.{◌≡◌, refl}
use mathlib.Core.List.Memᴰ
use mathlib.Core.List.{List, Memᴰ}
use mathlib.Core.Logic.{◌⊎◌, inl, inr}
use Prim.Native.Nat.{ℕ, zero, suc, ◌+◌, ◌≤◌}
use lib.ListN.{length, take, drop}
use Rattle.table.specs.declared.table.Table.{Table}
use Rattle.unit.specs.declared.answer.UnitRead.{UnitRead}
use Rattle.unit.specs.Unit.{unit_read}
use Rattle.walk.specs.declared.walk.Step.{Step}
use Rattle.walk.specs.Units.{Report}
use Rattle.walk.specs.Walked.{table_after, next_step, nothing, Reading, stepped, walk_by, walked}
use Rattle.walk.specs.Reports.{and_on, reports_by, reports}
use Rattle.walk.proofs.Chain.{went}
use Rattle.walk.proofs.Steps.{found_at}

-- the unit ends where the walk goes on or before, and that is no later than the recording's end
abbrev pub Inside : List ℕ → Report UnitRead → Type 0
Inside s u = (u.place + u.size ≤ u.next) × (u.next ≤ length s)

-- of any walk whose steps are within
module _ (R : Reading) (next : List ℕ → ℕ → Step) (s : List ℕ) (steps : (from p l n : ℕ) → next s from ≡ Step.Unit p l n → (p + l ≤ n) × (n ≤ length s)) (u : Report UnitRead) where
  pub steps-within : (f : ℕ) (t : Table) (from : ℕ) (scratch : List ℕ) → Memᴰ u (reports_by (walk_by R next) f s t from scratch) → Inside s u
  unfolding nothing
  steps-within zero t from scratch m = absurd (Memᴰ.not-nil m)
  steps-within (suc f) t from scratch m = go (next s from) refl (steps-within f) m
    where
      on : (p l n : ℕ) → List (Report UnitRead)
      on p l n = reports_by (walk_by R next) f s (table_after t (R t (take l (drop p s)) scratch).read.answer) n (R t (take l (drop p s)) scratch).left

      one : (p l n : ℕ) → next s from ≡ Step.Unit p l n → (Memᴰ u (on p l n) → Inside s u)
          → (u ≡ record { place = p; size = l; next = n; read = (R t (take l (drop p s)) scratch).read }) ⊎ Memᴰ u (on p l n) → Inside s u
      one p l n e ih (inl d) = rw d (steps from p l n e)
      one p l n e ih (inr m) = ih m

      go : (k : Step) → next s from ≡ k → ((t : Table) (from : ℕ) (scratch : List ℕ) → Memᴰ u (reports_by (walk_by R next) f s t from scratch) → Inside s u)
          → Memᴰ u (and_on (stepped R t s scratch k) (reports_by (walk_by R next) f s)) → Inside s u
      go (Step.Unit p l n) e ih m = one p l n e (ih _ n (R t (take l (drop p s)) scratch).left) (Memᴰ.cases_cons m)
      go Step.End e ih m = absurd (Memᴰ.not-nil m)
      go (Step.Refused r) e ih m = absurd (Memᴰ.not-nil m)

pub next-within : (s : List ℕ) (from p l n : ℕ) → next_step s from ≡ Step.Unit p l n → (p + l ≤ n) × (n ≤ length s)
next-within s from p l n e = let w = went s from _ (found_at s from e) in (w.inside, w.within)

-- for every table, recording and scratch
pub reports-within : (s : List ℕ) (u : Report UnitRead) (t : Table) (scratch : List ℕ) → Memᴰ u (reports t scratch s) → Inside s u
unfolding walked
reports-within s u t scratch = steps-within unit_read next_step s (next-within s) u (length s) t 0 scratch
