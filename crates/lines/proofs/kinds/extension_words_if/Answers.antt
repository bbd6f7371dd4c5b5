use mathlib.Core.Path.{sym, ◌∙◌}
use native.Mathlib.Omega.{arith}
use Rattle.lines.proofs.Texts.{nothing}
use Rattle.lines.proofs.kinds.extension_words_if.Goals as goal

pub returns-then-has_extension : goal.returns-then-has_extension
returns-then-has_extension c =
    let e = sym c.has_extension.ensures ∙ c.if-has_extension.true in
    (rw e c.extension_words.ensures.0, omega arith)

pub returns : goal.returns
returns c =
    let e = sym c.has_extension.ensures ∙ c.if-has_extension.false in
    (rw e (nothing _ _), omega arith)
