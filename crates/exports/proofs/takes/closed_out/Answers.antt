use Rattle.exports.specs.Takes.{closed_out}
use Rattle.exports.proofs.takes.closed_out.Goals as goal

pub returns-in-None : goal.returns-in-None
unfolding closed_out
returns-in-None c = rw (c.no_exposure.ensures, c.in-None.is)

pub returns-in-Some : goal.returns-in-Some
unfolding closed_out
returns-in-Some c = rw c.in-Some.is
