use Rattle.unit.specs.Into.{lent_in}
use borrow.Author.Rules.{rules}
use Rattle.cut.specs.Seam.{body_bits}
use Rattle.front.proofs.Answers.{picture-right, picture-cleared}
use Rattle.unit.specs.Into.{Lent}
use Rattle.front.proofs.into.picture_into.Goals as goal

pub returns-in-Ok : goal.returns-in-Ok
returns-in-Ok c =
    let a = c.args in
    let b : Lent = lent_in a.w.now in
    let r = picture-right (body_bits a.unit.now 1) b c.picture_body.result c.picture_body.ensures c.in-Ok.v _ c.in-Ok.is in
    record { value = r.0; words = r.1; same = search rules }

pub returns-in-Err : goal.returns-in-Err
returns-in-Err c =
    let a = c.args in
    let b : Lent = lent_in a.w.now in
    let r = picture-cleared (body_bits a.unit.now 1) b c.picture_body.result c.picture_body.ensures c.in-Err.r c.in-Err.is c.clear.ensures.words in
    record { value = r.0; words = r.1; same = search rules }
