use Rattle.list_steps.proofs.step.walk_on.Goals as goal

pub returns : goal.returns
returns c = c.walk_lent.ensures.met
