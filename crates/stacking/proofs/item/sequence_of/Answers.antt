use Rattle.stacking.proofs.item.sequence_of.Goals as goal

pub returns-in-Some : goal.returns-in-Some
returns-in-Some c = rw (← c.sequence_in.ensures, c.in-Some.is)

pub returns-in-None : goal.returns-in-None
returns-in-None c = rw (c.no_sequence.ensures, ← c.sequence_in.ensures, c.in-None.is)
