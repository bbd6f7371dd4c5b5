use Rattle.exports.specs.Sets.{picture_out}
use Rattle.exports.proofs.sets.picture_out.Goals as goal

pub returns-in-Some : goal.returns-in-Some
unfolding picture_out
returns-in-Some c = rw (← c.picture_in.ensures, c.in-Some.is)

pub returns-in-None : goal.returns-in-None
unfolding picture_out
returns-in-None c = rw (c.no_picture.ensures, ← c.picture_in.ensures, c.in-None.is)
