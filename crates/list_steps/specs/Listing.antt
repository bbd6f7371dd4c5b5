-- A listing (docs/RULES.md, 'A listing, whole'): the text as a whole, and one step of writing it.
use Rattle.std.specs.Prelude.{ℕ, zero, suc, ◌≡◌, List, [], ◌∷◌, ◌++◌, Bool, true, false, leb, ltb, length, take, drop}
use Rattle.bits.specs.Refusals.{pick}
use Rattle.table.specs.declared.table.Table.{Table}
use Rattle.unit.specs.declared.answer.UnitAnswer.{UnitAnswer}
use Rattle.unit.specs.declared.answer.UnitRead.{UnitRead}
use Rattle.walk.specs.declared.walk.Step.{Step}
use Rattle.walk.specs.Units.{Report}
use Rattle.unit.specs.Unit.{unit_read}
use Rattle.unit.specs.Into.{Lent, words_after}
use Rattle.walk.specs.Walked.{WalkOut, table_after, next_step, walk_by}
use Rattle.walk.specs.Reports.{sift, reports}
use Rattle.framed.specs.Framed.{framed_units, end_of, next_framed}
use Rattle.framed.specs.Walked.{framed_reports}
use Rattle.lines.specs.Lines.{unit_line, end_line, broken_line, too_long_line, Written}
use Rattle.list_steps.specs.declared.step.State.{State}
use Rattle.list_steps.specs.declared.step.Listed.{Listed}

-- the longest recording that is listed, in bytes
abbrev pub most : ℕ
most = 65536

-- the bytes of a unit at a place
abbrev pub bytes_at : List ℕ → ℕ → ℕ → List ℕ
bytes_at s place n = take n (drop place s)

-- ---- the listing

-- a line for each report of a recording's units, by the table in force there; t is the table before them
abbrev pub unit_lines : Table → List ℕ → List (Report UnitRead) → List ℕ
unit_lines t s [] = []
unit_lines t s (u ∷ us) =
    unit_line (table_after t u.read.answer).pictures u.place (bytes_at s u.place u.size) u.read ++ unit_lines (table_after t u.read.answer) s us

abbrev pub is_refused : UnitAnswer → Bool
is_refused (UnitAnswer.Slice bits) = false
is_refused UnitAnswer.«Prefix» = false
is_refused (UnitAnswer.Sequence v) = false
is_refused (UnitAnswer.Picture v) = false
is_refused (UnitAnswer.Other id) = false
is_refused (UnitAnswer.Refused r) = true

-- the reports of refused units
abbrev pub refused_ones : List (Report UnitRead) → List (Report UnitRead)
refused_ones us = sift (λ (u : Report UnitRead). is_refused u.read.answer) us

-- all units' lines, then the totals: how many reports there are, and how many of refused units
abbrev pub whole_text : Table → List ℕ → List (Report UnitRead) → List ℕ
whole_text t s us = unit_lines t s us ++ end_line (length us) (length (refused_ones us))

unfoldable pub listing : Table → List ℕ → List ℕ → List ℕ
listing t scratch s = pick (leb (length s) most) (whole_text t s (reports t scratch s)) too_long_line

-- framed by length: where the units end before the recording does, a length is broken. It has a line of its own and counts as refused
abbrev pub framed_text : Table → List ℕ → List (Report UnitRead) → ℕ → List ℕ
framed_text t s us end =
    pick (ltb end (length s)) (unit_lines t s us ++ (broken_line end ++ end_line (length us) (suc (length (refused_ones us))))) (whole_text t s us)

unfoldable pub framed_listing : Table → List ℕ → List ℕ → List ℕ
framed_listing t scratch s = pick (leb (length s) most) (framed_text t s (framed_reports t scratch s) (end_of 0 (framed_units s))) too_long_line

-- ---- one step

abbrev pub start : State
start = record { from = 0; units = 0; refused = 0 }

-- one more; a count of `most` stays
abbrev pub one_more : ℕ → ℕ
one_more n = pick (ltb n most) (suc n) n

-- after a unit, and whether it was refused
abbrev pub counted : State → ℕ → Bool → State
counted st next refused = record { from = next; units = one_more st.units; refused = pick refused (one_more st.refused) st.refused }

-- a line's text, the state after it, whether another follows, and scratch and table at exit
pub record Turn : Type 0 where
  pub text : List ℕ
  pub state : State
  pub more : Bool
  pub left : List ℕ
  pub table : Table

-- the last line
abbrev pub last : List ℕ → State → List ℕ → Table → Turn
last text st scratch t = record { text = text; state = st; more = false; left = scratch; table = t }

-- a unit's line and its count, by the table that the walk left; the totals at its end. Where the walk is refused, the length at its place is broken: only the totals follow
abbrev pub line_after : List ℕ → State → UnitRead → List ℕ → Table → Step → Turn
line_after s st read scratch t (Step.Unit place n next) =
    record { text = unit_line t.pictures place (bytes_at s place n) read; state = counted st next (is_refused read.answer); more = true; left = scratch; table = t }
line_after s st read scratch t Step.End = last (end_line st.units st.refused) st scratch t
line_after s st read scratch t (Step.Refused r) =
    record { text = broken_line st.from; state = record { from = length s; units = st.units; refused = one_more st.refused }; more = true; left = scratch; table = t }

abbrev pub after_walk : List ℕ → State → WalkOut → Turn
after_walk s st w = line_after s st w.walked.read w.left w.table w.walked.step

-- by a table, of a recording, in a state, with a scratch
abbrev pub Turning : Type 0
Turning = Table → List ℕ → State → List ℕ → Turn

-- where the walk steps to its next unit as `next` says
abbrev pub turn_by : (List ℕ → ℕ → Step) → Turning
turn_by next t s st scratch = pick (leb (length s) most) (after_walk s st (walk_by unit_read next t s st.from scratch)) (last too_long_line st scratch t)

unfoldable pub turn : Turning
turn t s st scratch = turn_by next_step t s st scratch

unfoldable pub framed_turn : Turning
framed_turn t s st scratch = turn_by next_framed t s st scratch

-- what a step leaves in words that are lent, which held b: what reading its unit leaves; where the recording is too long, b
unfoldable pub words_left : Table → List ℕ → State → List ℕ → Lent → Lent
words_left t s st scratch b = pick (leb (length s) most) (words_after (walk_by unit_read next_step t s st.from scratch).walked.read b) b

-- what a step answers and leaves
pub record Stepped (o : Turn) (line : List ℕ) (r : Listed) (scratch line' : List ℕ) (t : Table) : Type 0 where
  pub state : r.state ≡ o.state
  pub more : r.more ≡ o.more
  pub text : Written o.text line r.length line'
  pub left : scratch ≡ o.left
  pub table : t ≡ o.table

-- ---- steps one after another: the lines that at most f of them write, each from the state and with the scratch and the table that the one before left

abbrev pub and_on : Turn → (Table → State → List ℕ → List ℕ) → List ℕ
and_on o rest = o.text ++ pick o.more (rest o.table o.state o.left) []

abbrev pub steps : Turning → ℕ → List ℕ → Table → State → List ℕ → List ℕ
steps turn zero s t st scratch = []
steps turn (suc f) s t st scratch = and_on (turn t s st scratch) (steps turn f s)
