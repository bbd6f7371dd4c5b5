use Rattle.exposures.specs.Take.{unit_taken}
use Rattle.exposures.specs.Words.{state_in}
use Rattle.exposures.proofs.take.take_unit.Goals as goal

pub returns : goal.returns
unfolding unit_taken state_in
returns c = rw (c.last_in-last.ensures, c.exposure_in-e.ensures, c.refused_with-refused.ensures) at c.lay.ensures
