use Rattle.cut.proofs.part.may_change.Goals as goal

pub returns : goal.returns
returns c = c.either.ensures
