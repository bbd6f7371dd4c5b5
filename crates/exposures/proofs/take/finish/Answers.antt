use borrow.Author.Tests.{ne_eqb}
use lib.ListN.{get_or}
use Rattle.exposures.specs.Take.{finish_of}
use Rattle.exposures.specs.Words.{state_in}
use Rattle.exposures.proofs.take.finish.Goals as goal

pub returns-then-numbers-eq0 : goal.returns-then-numbers-eq0
unfolding finish_of state_in
returns-then-numbers-eq0 c = rw c.if-numbers-eq0.true

pub returns : goal.returns
unfolding finish_of state_in
returns c = rw (c.exposure_in-e.ensures, ne_eqb (get_or c.args.numbers.now 0 0) 0 c.if-numbers-eq0.false)
