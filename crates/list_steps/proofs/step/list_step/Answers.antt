use Rattle.list_steps.specs.Listing.{turn}
use Rattle.list_steps.proofs.step.list_step.Goals as goal

pub returns : goal.returns
unfolding turn
returns c = c.line_by.ensures
