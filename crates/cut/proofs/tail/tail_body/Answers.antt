use borrow.Author.Rules.{rules}
use Rattle.cut.proofs.tail.tail_body.Goals as goal

pub keep_from-requires : goal.keep_from-requires
keep_from-requires c = (c.spot_of-spot.ensures.1, search rules)

pub returns : goal.returns
returns c = rw (← c.spot_of-spot.ensures.0) c.keep_from.ensures
