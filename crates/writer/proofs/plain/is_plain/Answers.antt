use mathlib.Core.Path.{sym, ◌∙◌}
use Rattle.writer.proofs.PlainLoop.{plain-counts}
use Rattle.writer.proofs.plain.is_plain.Goals as goal

pub is_plain_weights-requires : goal.is_plain_weights-requires
is_plain_weights-requires c = (plain-counts _ (sym c.is_plain_numbers.ensures ∙ c.if-not-is_plain_numbers.false)).w0

pub is_plain_weights-requires-2 : goal.is_plain_weights-requires-2
is_plain_weights-requires-2 c = (plain-counts _ (sym c.is_plain_numbers.ensures ∙ c.if-not-is_plain_numbers.false)).w1
