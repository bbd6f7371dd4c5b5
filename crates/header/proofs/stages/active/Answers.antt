use Rattle.header.proofs.stages.active.Goals as goal

pub returns : goal.returns
returns c = rw (c.one_more.ensures, c.own_or.ensures)
