use borrow.Author.Rules.{rules}
use Rattle.header.proofs.Told.{left-got, left-no}
use Rattle.header.proofs.slice.read_header_into.Goals as goal

pub returns-in_default : goal.returns-in_default
returns-in_default c =
    let p = left-no _ _ _ _ _ c.fill-a.ensures.filled c.in_default.is c.clear.ensures.words in
    record { value = p.0; words = p.1; same = search rules }

pub returns : goal.returns
returns c =
    let p = left-got _ _ _ _ c.empty_lists.ensures.words c.fill-a.ensures.filled c.in-Ok.is in
    record { value = p.0; words = p.1; same = search rules }
