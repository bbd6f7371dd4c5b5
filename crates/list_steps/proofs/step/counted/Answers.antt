use Rattle.list_steps.proofs.step.counted.Goals as goal

pub returns-then-refused : goal.returns-then-refused
returns-then-refused c = rw (c.if-refused.true, c.one_more-units.ensures, c.one_more.ensures)

pub returns : goal.returns
returns c = rw (c.if-refused.false, c.one_more-units.ensures)
