-- A unit in its turn, and one step of a walk, into lent words.
use Rattle.std.specs.Prelude.{◌≡◌, List, ℕ}
use Rattle.table.specs.declared.table.Table.{Table}
use Rattle.unit.specs.Into.{short_answer, Lent, words_after}
use Rattle.walk.specs.declared.walk.WalkedShort.{WalkedShort}
use Rattle.unit.specs.declared.into.ShortAnswer.{ShortAnswer}
use Rattle.walk.specs.Walked.{WalkOut, table_after, Reading}

-- what is answered, scratch and table at exit, and the words at exit, w, which were b at entry, for a step that comes to o
pub record WalkedInto (o : WalkOut) (r : WalkedShort) (scratch : List ℕ) (t : Table) (b w : Lent) : Type 0 where
  pub step : r.step ≡ o.walked.step
  pub answered : r.answer ≡ short_answer o.walked.read
  pub left : scratch ≡ o.left
  pub table : t ≡ o.table
  pub words : w ≡ words_after o.walked.read b

-- the same of a unit that is read by R and the table t, with scratch c at entry
pub record Turned (R : Reading) (t : Table) (unit c : List ℕ) (r : ShortAnswer) (scratch : List ℕ) (t' : Table) (b w : Lent) : Type 0 where
  pub answered : r ≡ short_answer (R t unit c).read
  pub left : scratch ≡ (R t unit c).left
  pub table : t' ≡ table_after t (R t unit c).read.answer
  pub words : w ≡ words_after (R t unit c).read b
