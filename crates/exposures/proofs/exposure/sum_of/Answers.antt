use mir.Facts.{to_z-of_z}
use mir.Syntax.{w64}
use mir.Val.{SFits}
use Rattle.exposures.specs.Exposure.{plus}
use Rattle.exposures.proofs.Sums.{plus-fits}
use Rattle.exposures.proofs.exposure.sum_of.Goals as goal

pub overflow_add-result : goal.overflow_add-result
unfolding plus
overflow_add-result c =
    let f = c.ranges in
    let a : SFits w64 c.near_zero.result = record { sfits = c.near_zero.type_inv } in
    let b : SFits w64 c.near_zero-2.result = record { sfits = c.near_zero-2.type_inv } in
    rw (to_z-of_z a, to_z-of_z b, c.near_zero.ensures, c.near_zero-2.ensures, to_z-of_z f.a, to_z-of_z f.b) (plus-fits c.args.a c.args.b)

pub returns : goal.returns
unfolding plus
returns c =
    let f = c.ranges in
    let a : SFits w64 c.near_zero.result = record { sfits = c.near_zero.type_inv } in
    let b : SFits w64 c.near_zero-2.result = record { sfits = c.near_zero-2.type_inv } in
    rw (to_z-of_z a, to_z-of_z b, c.near_zero.ensures, c.near_zero-2.ensures, to_z-of_z f.a, to_z-of_z f.b) (to_z-of_z (plus-fits c.args.a c.args.b))
