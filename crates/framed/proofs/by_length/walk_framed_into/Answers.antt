use mathlib.Core.Path.{sym, ◌∙◌}
use native.Mathlib.Omega.{arith}
use Rattle.header.specs.Lead.{table_of}
use Rattle.unit.specs.Unit.{unit_read}
use Rattle.unit.proofs.Known.{none-known}
use Rattle.walk.proofs.Steps.{none-into, unit-into, turned_as}
use Rattle.framed.proofs.Steps.{found}
use Rattle.framed.proofs.Walks.{framed_at_lem}
use Rattle.framed.proofs.by_length.walk_framed_into.Goals as goal

pub returns-in_default-clause-walked : goal.returns-in_default-clause-walked
returns-in_default-clause-walked c = rw (framed_at_lem (table_of c.args.sequences.now c.args.pictures.now) c.args.recording.now c.args.from c.args.scratch.now (sym c.next_framed-step.ensures)) (none-into unit_read _ c.args.recording.now c.args.scratch.now _ c.in_default.not-Unit _)

pub overflow_add-end : goal.overflow_add-end
overflow_add-end c = let w = found _ _ (sym c.next_framed-step.ensures ∙ c.in-Unit.is) in omega arith

pub slice_bounds-body_in_turn-end : goal.slice_bounds-body_in_turn-end
slice_bounds-body_in_turn-end c = let w = found _ _ (sym c.next_framed-step.ensures ∙ c.in-Unit.is) in omega arith

pub returns-clause-walked : goal.returns-clause-walked
returns-clause-walked c = rw (framed_at_lem (table_of c.args.sequences.now c.args.pictures.now) c.args.recording.now c.args.from c.args.scratch.now (sym c.next_framed-step.ensures ∙ c.in-Unit.is)) (unit-into _ _ _ _ (turned_as {R' = unit_read} (none-known _ _ _) c.body_in_turn-answer.ensures.turned))
