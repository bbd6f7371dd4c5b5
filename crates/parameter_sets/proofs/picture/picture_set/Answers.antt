use Rattle.std.proofs.lemmas.Result.{err_from_is_err_and}
use Rattle.fmt.specs.Reads.{next}
use Rattle.parameter_sets.proofs.PictureParts.{picture-parts}
use Rattle.parameter_sets.proofs.picture.picture_set.Goals as goal

pub returns-in_err-start : goal.returns-in_err-start
unfolding next
returns-in_err-start c =
    let p = err_from_is_err_and c.from_residual.result c.from_residual.ensures.1 in
    rw (picture-parts, p.1, p.2, ← c.in_err-start.ensures)

pub returns-in_err-c2 : goal.returns-in_err-c2
unfolding next
returns-in_err-c2 c =
    let p = err_from_is_err_and c.from_residual-in_err-c2.result c.from_residual-in_err-c2.ensures.1 in
    rw (picture-parts, p.1, p.2, ← c.in_ok-start.ensures, ← c.in_err-c2.ensures)

pub returns : goal.returns
unfolding next
returns c = rw (picture-parts, ← c.in_ok-start.ensures, ← c.in_ok-c2.ensures) c.picture_rest.ensures
