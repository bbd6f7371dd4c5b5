use mathlib.Core.Path.{sym, ◌∙◌}
use Rattle.walk.proofs.Steps.{step-over, step-found}
use Rattle.walk.proofs.walk.next_step.Goals as goal

pub returns-then-recording-gt-LIMIT : goal.returns-then-recording-gt-LIMIT
returns-then-recording-gt-LIMIT c = rw c.refuse.ensures (step-over _ _ c.if-recording-gt-LIMIT.true)

pub returns-in-Some : goal.returns-in-Some
returns-in-Some c = step-found _ _ c.if-recording-gt-LIMIT.false (sym c.next_unit.ensures ∙ c.in-Some.is)

pub returns-in-None : goal.returns-in-None
returns-in-None c = step-found _ _ c.if-recording-gt-LIMIT.false (sym c.next_unit.ensures ∙ c.in-None.is)
