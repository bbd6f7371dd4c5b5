use Rattle.std.proofs.lemmas.Result.{err_from_is_err_and}
use Rattle.writer.specs.Given.{kind_given}
use Rattle.writer.proofs.given.kind_given.Goals as goal

pub returns-in_err-h : goal.returns-in_err-h
unfolding kind_given
returns-in_err-h c =
    let p = err_from_is_err_and c.from_residual.result c.from_residual.ensures.1 in
    rw (p.1, p.2, ← c.in_err-h.ensures)

pub returns : goal.returns
unfolding kind_given
returns c = rw (c.typed.ensures, ← c.in_ok-h.ensures)
