use mathlib.Core.Path.{sym, ◌∙◌}
use Prim.Native.Nat.{◌/◌}
use native.Mathlib.Omega.{arith}
use lib.Seq.{length-take-le}
use Rattle.cut.proofs.Tails.{tail-held}
use Rattle.front.proofs.SetBodies.{bits-few, rest-place, rest-moved, rest_read}
use Rattle.front.proofs.sets.behind_ids.Goals as goal

pub slice_bounds-local-end : goal.slice_bounds-local-end
slice_bounds-local-end c = (tail-held c.args.unit.now 1 (c.args.at / 8) c.tail_body-n.ensures.value c.tail_body-n.ensures.local_after).0

pub slice_bounds-picture_rest-end : goal.slice_bounds-picture_rest-end
slice_bounds-picture_rest-end c = sym (length-take-le _ _ (tail-held c.args.unit.now 1 (c.args.at / 8) c.tail_body-n.ensures.value c.tail_body-n.ensures.local_after).0)

pub overflow_mul-k : goal.overflow_mul-k
overflow_mul-k c = omega (arith, c.requires.1, bits-few c.args.unit.now c.requires.0)

pub move_by-requires : goal.move_by-requires
move_by-requires c =
    let a = c.args in
    let u = a.unit.now in
    let f = bits-few u c.requires.0 in
    let p = rest_read u a.at a.start c.picture_rest.result (tail-held u 1 (c.args.at / 8) c.tail_body-n.ensures.value c.tail_body-n.ensures.local_after).1 c.picture_rest.ensures in
    (omega (arith, rest-place u a.at c.requires.1 a.start c.picture_rest.result p), omega (arith, c.requires.1))

pub returns : goal.returns
returns c =
    let a = c.args in
    let u = a.unit.now in
    let p = rest_read u a.at a.start c.picture_rest.result (tail-held u 1 (c.args.at / 8) c.tail_body-n.ensures.value c.tail_body-n.ensures.local_after).1 c.picture_rest.ensures in
    c.move_by.ensures ∙ rest-moved u a.at c.requires.1 a.start c.picture_rest.result p
