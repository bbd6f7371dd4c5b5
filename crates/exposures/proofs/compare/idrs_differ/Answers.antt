use Rattle.exposures.specs.Compare.{idrs}
use Rattle.exposures.proofs.compare.idrs_differ.Goals as goal

pub returns : goal.returns
unfolding idrs
returns c = rw (c.either.ensures, c.flags.ensures, c.both-2.ensures, c.both.ensures, c.numbers.ensures)
