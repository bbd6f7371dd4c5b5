use Rattle.exports.specs.Sets.{sequence_out}
use Rattle.exports.proofs.sets.sequence_out.Goals as goal

pub returns-in-Some : goal.returns-in-Some
unfolding sequence_out
returns-in-Some c = rw (← c.sequence_in.ensures, c.in-Some.is)

pub returns-in-None : goal.returns-in-None
unfolding sequence_out
returns-in-None c = rw (c.no_sequence.ensures, ← c.sequence_in.ensures, c.in-None.is)
