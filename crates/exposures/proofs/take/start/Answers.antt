use Rattle.exposures.specs.Take.{start}
use Rattle.exposures.proofs.take.start.Goals as goal

pub returns : goal.returns
unfolding start
returns c = rw (c.first_slice-e.ensures, c.no_slice-last.ensures, c.no_counts.ensures) at c.lay.ensures
