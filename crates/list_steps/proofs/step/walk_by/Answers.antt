use Rattle.walk.specs.Walked.{walked}
use Rattle.framed.specs.Walked.{walked_framed}
use Rattle.list_steps.proofs.step.walk_by.Goals as goal

pub returns-then-by_length-clause-walked : goal.returns-then-by_length-clause-walked
unfolding walked_framed
returns-then-by_length-clause-walked c = rw c.if-by_length.true c.walk_framed_into.ensures.walked

pub returns-clause-walked : goal.returns-clause-walked
unfolding walked
returns-clause-walked c = rw c.if-by_length.false c.walk_into.ensures.walked
