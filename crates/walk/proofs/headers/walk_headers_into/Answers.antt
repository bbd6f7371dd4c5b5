use mathlib.Core.Path.{sym, ◌∙◌}
use mathlib.Core.List.{[]}
use native.Mathlib.Omega.{arith}
use Rattle.front.specs.Front.{unit_front}
use Rattle.walk.proofs.Chain.{went}
use Rattle.walk.proofs.Steps.{found_at, headers-at, none-into, unit-into}
use Rattle.walk.proofs.headers.walk_headers_into.Goals as goal

pub returns-in_default-clause-walked : goal.returns-in_default-clause-walked
returns-in_default-clause-walked c = rw (headers-at _ _ _ [] (sym c.next_step-step.ensures)) (none-into unit_front _ c.args.recording.now [] _ c.in_default.not-Unit _)

pub overflow_add-end : goal.overflow_add-end
overflow_add-end c = let w = went _ _ _ (found_at _ _ (sym c.next_step-step.ensures ∙ c.in-Unit.is)) in omega arith

pub slice_bounds-front_in_turn-end : goal.slice_bounds-front_in_turn-end
slice_bounds-front_in_turn-end c = let w = went _ _ _ (found_at _ _ (sym c.next_step-step.ensures ∙ c.in-Unit.is)) in omega arith

pub returns-clause-walked : goal.returns-clause-walked
returns-clause-walked c = rw (headers-at _ _ _ [] (sym c.next_step-step.ensures ∙ c.in-Unit.is)) (unit-into _ _ _ _ c.front_in_turn-answer.ensures.turned)
