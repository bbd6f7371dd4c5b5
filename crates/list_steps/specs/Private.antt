-- For contracts of private functions alone.
use Rattle.std.specs.Prelude.{ℕ, ◌≡◌, ◌+◌, ◌≤◌, List, [], Bool, true, false, replicate, length}
use Rattle.table.specs.declared.table.Table.{Table}
use Rattle.table.specs.Tables.{empty_table}
use Rattle.header.specs.Short.{zeros}
use Rattle.unit.specs.declared.into.ShortAnswer.{ShortAnswer}
use Rattle.unit.specs.Into.{short_answer, Lent, words_after}
use Rattle.walk.specs.declared.walk.Step.{Step}
use Rattle.walk.specs.Walked.{WalkOut, next_step}
use Rattle.framed.specs.Framed.{next_framed}
use Rattle.list_steps.specs.declared.step.State.{State}
use Rattle.list_steps.specs.declared.step.Listed.{Listed}
use Rattle.list_steps.specs.declared.step.Next.{Next}
use Rattle.lines.specs.Lines.{broken_line, end_line, lent_line}
use Rattle.list_steps.specs.Listing.{one_more, counted, bytes_at, Turn, last, Stepped}

abbrev pub is_refused_short : ShortAnswer → Bool
is_refused_short (ShortAnswer.Slice bits) = false
is_refused_short (ShortAnswer.«Prefix» p) = false
is_refused_short (ShortAnswer.Sequence v) = false
is_refused_short (ShortAnswer.Picture v) = false
is_refused_short (ShortAnswer.Other id) = false
is_refused_short (ShortAnswer.Refused r) = true

-- how a walk steps to its next unit
abbrev pub next_by : Bool → List ℕ → ℕ → Step
next_by true = next_framed
next_by false = next_step

-- a last line, where scratch and table play no part
abbrev pub Ends : List ℕ → State → List ℕ → Listed → List ℕ → Type 0
Ends text st line r line' = Stepped (last text st [] empty_table) line r [] line' empty_table

-- the same of a broken length's, in a recording of n bytes
abbrev pub Broken : State → ℕ → List ℕ → Listed → List ℕ → Type 0
Broken st n line r line' =
    Stepped (record { text = broken_line st.from; state = record { from = n; units = st.units; refused = one_more st.refused }; more = true; left = []; table = empty_table }) line r [] line' empty_table

-- words that nothing was read into
abbrev pub blank : Lent
blank = record { header = zeros; base = replicate 198 0 }

-- a step of the walk, and what reading left in the words of a slice's fields, where all words held b before
pub record Met (o : WalkOut) (b : Lent) (r : Next) (scratch : List ℕ) (t : Table) : Type 0 where
  pub step : r.step ≡ o.walked.step
  pub answered : r.answer ≡ short_answer o.walked.read
  pub numbers : r.numbers ≡ (words_after o.walked.read b).header.numbers
  pub signed : r.signed ≡ (words_after o.walked.read b).header.signed
  pub left : scratch ≡ o.left
  pub table : t ≡ o.table

-- a unit lies within so many bytes
abbrev pub Inside : Step → ℕ → Type 0
Inside (Step.Unit place n next) size = place + n ≤ size
Inside Step.End size = Unit {0}
Inside (Step.Refused r) size = Unit {0}

-- the line of what a step came to, where scratch and table play no part
abbrev pub met_by : List ℕ → List ℕ → State → Next → Step → Turn
met_by pictures s st r (Step.Unit place n next) =
    record {
      text = lent_line pictures place n (bytes_at s place n) r.answer r.numbers r.signed;
      state = counted st next (is_refused_short r.answer);
      more = true;
      left = [];
      table = empty_table;
    }
met_by pictures s st r Step.End = last (end_line st.units st.refused) st [] empty_table
met_by pictures s st r (Step.Refused x) =
    record { text = broken_line st.from; state = record { from = length s; units = st.units; refused = one_more st.refused }; more = true; left = []; table = empty_table }

abbrev pub met_turn : List ℕ → List ℕ → State → Next → Turn
met_turn pictures s st r = met_by pictures s st r r.step
