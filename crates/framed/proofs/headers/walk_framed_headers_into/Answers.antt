use mathlib.Core.Path.{sym, ◌∙◌}
use mathlib.Core.List.{[]}
use native.Mathlib.Omega.{arith}
use Rattle.header.specs.Lead.{table_of}
use Rattle.front.specs.Front.{unit_front}
use Rattle.walk.proofs.Steps.{none-into, unit-into}
use Rattle.framed.proofs.Steps.{found}
use Rattle.framed.proofs.Walks.{framed-headers-at}
use Rattle.framed.proofs.headers.walk_framed_headers_into.Goals as goal

pub returns-in_default-clause-walked : goal.returns-in_default-clause-walked
returns-in_default-clause-walked c = rw (framed-headers-at (table_of c.args.sequences.now c.args.pictures.now) c.args.recording.now c.args.from [] (sym c.next_framed-step.ensures)) (none-into unit_front _ c.args.recording.now [] _ c.in_default.not-Unit _)

pub overflow_add-end : goal.overflow_add-end
overflow_add-end c = let w = found _ _ (sym c.next_framed-step.ensures ∙ c.in-Unit.is) in omega arith

pub slice_bounds-front_in_turn-end : goal.slice_bounds-front_in_turn-end
slice_bounds-front_in_turn-end c = let w = found _ _ (sym c.next_framed-step.ensures ∙ c.in-Unit.is) in omega arith

pub returns-clause-walked : goal.returns-clause-walked
returns-clause-walked c = rw (framed-headers-at (table_of c.args.sequences.now c.args.pictures.now) c.args.recording.now c.args.from [] (sym c.next_framed-step.ensures ∙ c.in-Unit.is)) (unit-into _ _ _ _ c.front_in_turn-answer.ensures.turned)
