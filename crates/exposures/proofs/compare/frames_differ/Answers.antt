use Rattle.exposures.specs.Compare.{frames}
use Rattle.exposures.proofs.compare.frames_differ.Goals as goal

pub returns : goal.returns
unfolding frames
returns c = rw (c.either.ensures, c.numbers.ensures, c.numbers-2.ensures)
