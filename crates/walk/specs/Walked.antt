-- One step of the walk (docs/RULES.md, 'The walk'): its answer, and scratch and table at exit.
use Rattle.std.specs.Prelude.{ℕ, List, leb, pos, length, take, drop, Option, Some, None}
use Rattle.bits.specs.Refusals.{pick, refusal, too_large, limit}
use Rattle.table.specs.declared.table.Table.{Table}
use Rattle.table.specs.Tables.{put_sequence, put_picture}
use Rattle.unit.specs.declared.answer.UnitAnswer.{UnitAnswer}
use Rattle.unit.specs.declared.answer.UnitRead.{UnitRead}
use Rattle.unit.specs.Answer.{only}
use Rattle.unit.specs.Unit.{UnitOut, unit_read}
use Rattle.walk.specs.declared.search.Span.{Span}
use Rattle.walk.specs.declared.walk.Step.{Step}
use Rattle.walk.specs.Walk.{next_unit}

-- the step, and what reading the unit gives
pub record Walked : Type 0 where
  pub step : Step
  pub read : UnitRead

-- what is answered, and scratch and table at exit
pub record WalkOut : Type 0 where
  pub walked : Walked
  pub left : List ℕ
  pub table : Table

-- the table after a unit: a set that was read is put in, and nothing else changes it
abbrev pub table_after : Table → UnitAnswer → Table
table_after t (UnitAnswer.Slice n) = t
table_after t UnitAnswer.«Prefix» = t
table_after t (UnitAnswer.Sequence v) = (put_sequence t v.seq_parameter_set_id v.sequence).table
table_after t (UnitAnswer.Picture v) = (put_picture t v.pic_parameter_set_id v.picture).table
table_after t (UnitAnswer.Other id) = t
table_after t (UnitAnswer.Refused r) = t

-- what the search found, as a step
abbrev pub step_to : Option Span → Step
step_to (Some u) = Step.Unit u.place u.length u.next
step_to None = Step.End

-- where the walk comes to: 27 first
unfoldable pub next_step : List ℕ → ℕ → Step
next_step recording from = pick (leb (length recording) limit) (step_to (next_unit recording from)) (Step.Refused (refusal too_large (pos 0)))

-- a step to no unit: nothing is read
unfoldable pub nothing : Step → Walked
nothing s = record { step = s; read = only (UnitAnswer.Other 0) }

-- a step to a unit, and what reading it gives
abbrev pub reading : Table → ℕ → ℕ → ℕ → UnitOut → WalkOut
reading t place size next u =
    record { walked = record { step = Step.Unit place size next; read = u.read }; left = u.left; table = table_after t u.read.answer }

-- how a unit is read: by a table, and with a scratch
abbrev pub Reading : Type 0
Reading = Table → List ℕ → List ℕ → UnitOut

-- what a step answers: a unit is read, else nothing is, and scratch and table are as they were
abbrev pub stepped : Reading → Table → List ℕ → List ℕ → Step → WalkOut
stepped R t recording scratch (Step.Unit place size next) = reading t place size next (R t (take size (drop place recording)) scratch)
stepped R t recording scratch Step.End = record { walked = nothing Step.End; left = scratch; table = t }
stepped R t recording scratch (Step.Refused r) = record { walked = nothing (Step.Refused r); left = scratch; table = t }

-- a walk over recordings, asked from any place: it steps to a unit as `next` says, and reads it by R
abbrev pub Walking : Type 0
Walking = Table → List ℕ → ℕ → List ℕ → WalkOut

abbrev pub walk_by : Reading → (List ℕ → ℕ → Step) → Walking
walk_by R next t recording from scratch = stepped R t recording scratch (next recording from)

-- the walk
unfoldable pub walked : Walking
walked t recording from scratch = walk_by unit_read next_step t recording from scratch
