use Rattle.exposures.specs.Compare.{references}
use Rattle.exposures.proofs.compare.references_differ.Goals as goal

pub returns : goal.returns
unfolding references
returns c = rw (c.both.ensures, c.numbers.ensures, c.either.ensures)
