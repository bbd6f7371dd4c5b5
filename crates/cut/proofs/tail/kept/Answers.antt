use mathlib.Core.Path.{sym, ◌∙◌}
use Rattle.cut.proofs.tail.kept.Goals as goal

pub returns-then-is_dropped : goal.returns-then-is_dropped
returns-then-is_dropped c = rw (sym c.is_dropped.ensures ∙ c.if-is_dropped.true)

pub returns-else-is_dropped : goal.returns-else-is_dropped
returns-else-is_dropped c = rw (sym c.is_dropped.ensures ∙ c.if-is_dropped.false)
