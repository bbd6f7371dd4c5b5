use Rattle.list_steps.specs.Listing.{framed_turn}
use Rattle.list_steps.proofs.step.list_framed_step.Goals as goal

pub returns : goal.returns
unfolding framed_turn
returns c = c.line_by.ensures
