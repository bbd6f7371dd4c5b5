use Rattle.cut.proofs.rest.stands.Goals as goal

pub returns : goal.returns
returns c = rw (c.both.ensures, c.is_dropped.ensures)
