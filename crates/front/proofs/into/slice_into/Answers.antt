use Rattle.unit.specs.Into.{lent_in}
use Rattle.header.specs.Short.{words_in}
use borrow.Author.Rules.{rules}
use Rattle.header.specs.Lead.{table_in}
use Rattle.cut.specs.Seam.{body_bits}
use Rattle.front.proofs.Answers.{slice-right, slice-cleared}
use Rattle.front.proofs.into.slice_into.Goals as goal

pub returns-in-Ok : goal.returns-in-Ok
returns-in-Ok c =
    let a = c.args in
    let h = c.read_escaped_into.ensures in
    let r = slice-right (table_in a.sets) a.kind (body_bits a.unit.now a.from) (words_in a.w.now.header) a.w.now.base.now h.value h.words _ c.in-Ok.is in
    record { value = r.0; words = r.1; same = search rules }

pub returns-in-Err : goal.returns-in-Err
returns-in-Err c =
    let a = c.args in
    let h = c.read_escaped_into.ensures in
    let r = slice-cleared (table_in a.sets) a.kind (body_bits a.unit.now a.from) (lent_in a.w.now) h.value h.words _ c.in-Err.is in
    record { value = r.0; words = rw c.clear_list.ensures r.1; same = search rules }
