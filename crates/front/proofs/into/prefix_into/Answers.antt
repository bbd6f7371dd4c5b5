use Rattle.unit.specs.Into.{lent_in}
use Rattle.header.specs.Short.{words_in}
use borrow.Author.Rules.{rules}
use Rattle.cut.specs.Seam.{body_bits}
use Rattle.front.proofs.Answers.{prefix-right, prefix-cleared}
use Rattle.front.proofs.into.prefix_into.Goals as goal

pub returns-in-Ok : goal.returns-in-Ok
returns-in-Ok c =
    let a = c.args in
    let h = c.prefix_body.ensures in
    let r = prefix-right a.kind (body_bits a.unit.now 4) (words_in a.w.now.header) a.w.now.base.now h.value h.base_after _ _ c.in-Ok.is in
    record { value = r.0; words = r.1; same = search rules }

pub returns-in-Err : goal.returns-in-Err
returns-in-Err c =
    let a = c.args in
    let r = prefix-cleared a.kind (body_bits a.unit.now 4) (lent_in a.w.now) c.prefix_body.ensures.value _ c.in-Err.is c.clear.ensures.words in
    record { value = r.0; words = r.1; same = search rules }
