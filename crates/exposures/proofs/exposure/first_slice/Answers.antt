use borrow.Author.Rules.{rules}
use mir.Facts.{to_z-of_z}
use mir.Syntax.{w64}
use mir.Val.{SFits}
use Rattle.exposures.specs.Exposure.{one_slice}
use Rattle.exposures.proofs.exposure.first_slice.Goals as goal

pub returns : goal.returns
unfolding one_slice
returns c = let q : SFits w64 c.args.s.qp = search rules in rw (to_z-of_z q)
