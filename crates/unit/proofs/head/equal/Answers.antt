use Rattle.unit.proofs.head.equal.Goals as goal

pub returns : goal.returns
returns c = rw (c.both-2.ensures, c.both-extension.ensures, c.both.ensures, c.both-kind.ensures)
