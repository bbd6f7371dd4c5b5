use mathlib.Core.Path.{◌∙◌}
use borrow.Author.Rules.{rules}
use Rattle.fmt.specs.Leaves.{flag, se}
use Rattle.fmt.specs.Reads.{found, next}
use Rattle.parameter_sets.specs.SequenceSet.{cycle}
use Rattle.parameter_sets.proofs.Passing.{passed-signed}
use Rattle.parameter_sets.proofs.sequence.cycle.Goals as goal

pub returns-in_err-c5 : goal.returns-in_err-c5
unfolding cycle next found flag se
returns-in_err-c5 c = let q = c.in_err-c5.ensures ∙ passed-signed _ _ _ in search rules

pub returns : goal.returns
unfolding cycle next found flag se
returns c = let q = c.in_ok-c5.ensures ∙ passed-signed _ _ _ in search rules
