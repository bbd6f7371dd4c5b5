-- The reports of a walk over a whole recording, and the parts of them that demand 3 speaks of.
use Rattle.std.specs.Prelude.{ℕ, zero, suc, ◌+◌, ◌-◌, List, [], ◌∷◌, Bool, true, false, leb, length}
use Rattle.bits.specs.Refusals.{pick}
use Rattle.table.specs.declared.table.Table.{Table}
use Rattle.unit.specs.declared.answer.UnitAnswer.{UnitAnswer}
use Rattle.unit.specs.declared.answer.UnitRead.{UnitRead}
use Rattle.walk.specs.declared.walk.Step.{Step}
use Rattle.walk.specs.Units.{Report, Span}
use Rattle.walk.specs.Walked.{WalkOut, table_after, Reading, Walking, walked}

-- the report of a step, and those of the steps from where it says to go on
abbrev pub onward : Step → UnitRead → (ℕ → List (Report UnitRead)) → List (Report UnitRead)
onward (Step.Unit place size next) read rest = record { place = place; size = size; next = next; read = read } ∷ rest next
onward Step.End read rest = []
onward (Step.Refused r) read rest = []

abbrev pub and_on : WalkOut → (Table → ℕ → List ℕ → List (Report UnitRead)) → List (Report UnitRead)
and_on out rest = onward out.walked.step out.walked.read (λ next. rest out.table next out.left)

-- at most f steps of a walk over the recording s, the first from `from`; each is lent table and scratch as the one before left them
abbrev pub reports_by : Walking → ℕ → List ℕ → Table → ℕ → List ℕ → List (Report UnitRead)
reports_by walk zero s t from scratch = []
reports_by walk (suc f) s t from scratch = and_on (walk t s from scratch) (reports_by walk f s)

-- all reports of the recording s: it has no more units than bytes
abbrev pub reports_in : Walking → Table → List ℕ → List ℕ → List (Report UnitRead)
reports_in walk t scratch s = reports_by walk (length s) s t 0 scratch

abbrev pub reports : Table → List ℕ → List ℕ → List (Report UnitRead)
reports t scratch s = reports_in walked t scratch s

-- ---- the reports of a list of units: each is read by the table that those before it leave

abbrev pub reports_of : Reading → Table → List ℕ → List Span → List (Report UnitRead)
reports_of R t scratch [] = []
reports_of R t scratch (u ∷ us) =
    let r = (R t u.read scratch).read in
    record { place = u.place; size = u.size; next = u.next; read = r } ∷ reports_of R (table_after t r.answer) scratch us

-- ---- parts of a list of reports

-- the entries that pass a test
abbrev pub sift : {A : Type 0} → (A → Bool) → List A → List A
sift p [] = []
sift p (x ∷ xs) = pick (p x) (x ∷ sift p xs) (sift p xs)

-- those whose start code begins at k or later
abbrev pub starts_from : {A : Type 0} → ℕ → List (Report A) → List (Report A)
starts_from {A} k rs = sift (λ (u : Report A). leb (k + 3) u.place) rs

-- those whose start code lies wholly before k
abbrev pub starts_before : {A : Type 0} → ℕ → List (Report A) → List (Report A)
starts_before {A} k rs = sift (λ (u : Report A). leb u.place k) rs

-- those whose end mark lies wholly before k. A unit without one goes on from the recording's end, and is none of them
abbrev pub ends_before : {A : Type 0} → ℕ → List (Report A) → List (Report A)
ends_before {A} k rs = sift (λ (u : Report A). leb (u.next + 3) k) rs

-- those of parameter sets that were read
abbrev pub is_set : UnitAnswer → Bool
is_set (UnitAnswer.Slice n) = false
is_set UnitAnswer.«Prefix» = false
is_set (UnitAnswer.Sequence v) = true
is_set (UnitAnswer.Picture v) = true
is_set (UnitAnswer.Other id) = false
is_set (UnitAnswer.Refused r) = false

abbrev pub sets_among : List (Report UnitRead) → List (Report UnitRead)
sets_among rs = sift (λ (u : Report UnitRead). is_set u.read.answer) rs

-- the table after units with these reports
abbrev pub table_by : Table → List (Report UnitRead) → Table
table_by t [] = t
table_by t (u ∷ us) = table_by (table_after t u.read.answer) us

-- the table with which a walk over the recording s comes to the place k
abbrev pub table_in : Walking → Table → List ℕ → List ℕ → ℕ → Table
table_in walk t scratch s k = table_by t (starts_before k (reports_in walk t scratch s))

abbrev pub table_at : Table → List ℕ → List ℕ → ℕ → Table
table_at t scratch s k = table_in walked t scratch s k

-- a report with its places counted from the recording's end, which is n
abbrev pub to_end : {A : Type 0} → ℕ → Report A → Report A
to_end n u = record { place = n - u.place; size = u.size; next = n - u.next; read = u.read }
