use mathlib.Core.Path.{refl}
use Rattle.bits.specs.Bits.{bits_of}
use Rattle.lists.specs.Kinds.{kind_of}
use Rattle.lists.proofs.Lent.{onto-absent, onto-there, left-read, left-refused}
use Rattle.lists.proofs.list_words.operations_into.Goals as goal

pub returns-then-not-there : goal.returns-then-not-there
returns-then-not-there c =
    let g = c.args in
    let f = onto-absent g.there (kind_of g.kind) (bits_of g.s.now) g.c.at g.words.now c.if-not-there.true in
    record { value = f.0; words_after = left-read g.there (kind_of g.kind) (bits_of g.s.now) g.c.at g.words.now f.0 refl f.1 }

pub returns-in_default : goal.returns-in_default
returns-in_default c =
    let g = c.args in
    let f = onto-there g.there (kind_of g.kind) (bits_of g.s.now) g.c.at g.words.now c.if-not-there.false (c.fill-a.ensures.value, c.fill-a.ensures.words_after) in
    record { value = f.0; words_after = left-refused _ _ f.0 c.in_default.is c.clear_list.ensures }

pub returns : goal.returns
returns c =
    let g = c.args in
    let f = onto-there g.there (kind_of g.kind) (bits_of g.s.now) g.c.at g.words.now c.if-not-there.false (c.fill-a.ensures.value, c.fill-a.ensures.words_after) in
    record { value = f.0; words_after = left-read g.there (kind_of g.kind) (bits_of g.s.now) g.c.at _ f.0 c.in-Ok.is f.1 }
