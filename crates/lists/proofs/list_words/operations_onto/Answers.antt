use Rattle.bits.specs.Bits.{bits_of}
use Rattle.lists.specs.Kinds.{kind_of}
use Rattle.lists.proofs.Lent.{onto-absent, onto-there}
use Rattle.lists.proofs.list_words.operations_onto.Goals as goal

pub returns-then-not-there : goal.returns-then-not-there
returns-then-not-there c =
    let g = c.args in
    let f = onto-absent g.there (kind_of g.kind) (bits_of g.s.now) g.c.at g.words.now c.if-not-there.true in
    record { value = f.0; words_after = f.1 }

pub returns : goal.returns
returns c =
    let g = c.args in
    let f = onto-there g.there (kind_of g.kind) (bits_of g.s.now) g.c.at g.words.now c.if-not-there.false (c.fill.ensures.value, c.fill.ensures.words_after) in
    record { value = f.0; words_after = f.1 }
