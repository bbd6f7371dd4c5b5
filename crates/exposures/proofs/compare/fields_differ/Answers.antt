use Rattle.exposures.specs.Compare.{fields}
use Rattle.exposures.proofs.compare.fields_differ.Goals as goal

pub returns : goal.returns
unfolding fields
returns c = rw (c.either.ensures, c.flags.ensures, c.flags-2.ensures)
