use mathlib.Core.Path.{sym}
use native.Mathlib.Omega.{arith}
use Rattle.std.proofs.lemmas.Result.{err_from_is_err_and}
use Rattle.fmt.specs.Reads.{next}
use Rattle.escape.proofs.Bodies.{part_length}
use Rattle.parameter_sets.proofs.PictureParts.{picture-parts}
use Rattle.front.proofs.SetBodies.{ids-passed, ids-within}
use Rattle.front.proofs.sets.picture_body.Goals as goal

pub returns-in_err-start : goal.returns-in_err-start
unfolding next
returns-in_err-start c =
    let p = err_from_is_err_and c.from_residual.result c.from_residual.ensures.1 in
    rw (p.1, p.2, picture-parts, ← c.in_err-start.ensures)

pub overflow_mul-body_bytes : goal.overflow_mul-body_bytes
overflow_mul-body_bytes c = omega (arith, c.body_bytes.ensures, part_length c.args.unit.now 1, c.requires)

pub returns-in_err-d : goal.returns-in_err-d
unfolding next
returns-in_err-d c =
    let p = err_from_is_err_and c.from_residual-in_err-d.result c.from_residual-in_err-d.ensures.1 in
    rw (p.1, p.2, picture-parts, ← c.in_ok-start.ensures, ← ids-passed c.args.unit.now _ _ (sym c.in_ok-start.ensures) c.body_bytes.ensures c.ids_end.ensures, c.in_err-d.was)

pub behind_ids-requires : goal.behind_ids-requires
behind_ids-requires c = (c.requires, ids-within c.args.unit.now _ _ (sym c.in_ok-start.ensures) c.body_bytes.ensures c.ids_end.ensures _ c.in_ok-d.was)

pub returns : goal.returns
unfolding next
returns c =
    rw (picture-parts, ← c.in_ok-start.ensures, ← ids-passed c.args.unit.now _ _ (sym c.in_ok-start.ensures) c.body_bytes.ensures c.ids_end.ensures, c.in_ok-d.was) c.behind_ids.ensures
