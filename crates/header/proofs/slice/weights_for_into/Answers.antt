use Rattle.syntax.specs.SliceHeader.{active_l0, active_l1}
use Rattle.header.proofs.Counts.{twice_same}
use Rattle.header.proofs.slice.weights_for_into.Goals as goal

pub returns : goal.returns
returns c =
    rw (c.active-n0.ensures, c.active-n1.ensures, twice_same (active_l0 c.args.x c.args.a), twice_same (active_l1 c.args.x c.args.a))
    at c.weights_onto.ensures
