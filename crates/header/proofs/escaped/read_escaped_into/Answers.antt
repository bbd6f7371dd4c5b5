use borrow.Author.Rules.{rules}
use Rattle.header.proofs.Told.{left-got, left-no}
use Rattle.header.proofs.Tried.{part-is}
use Rattle.header.proofs.escaped.read_escaped_into.Goals as goal

pub returns-in_default : goal.returns-in_default
returns-in_default c =
    let f = rw (part-is c.args.unit.now c.start_in-start.result c.args.from c.start_in-start.ensures) at c.fill_by_parts-a.ensures.filled in
    let p = left-no _ _ _ _ _ f c.in_default.is c.clear.ensures.words in
    record { value = p.0; words = p.1; same = search rules }

pub returns : goal.returns
returns c =
    let f = rw (part-is c.args.unit.now c.start_in-start.result c.args.from c.start_in-start.ensures) at c.fill_by_parts-a.ensures.filled in
    let p = left-got _ _ _ _ c.empty_lists.ensures.words f c.in-Ok.is in
    record { value = p.0; words = p.1; same = search rules }
