use native.Mathlib.Omega.{arith}
use Rattle.header.specs.Lead.{table_of}
use Rattle.list_steps.specs.Private.{next_by}
use Rattle.list_steps.proofs.Turns.{ends, by-ahead, met-inside, met-stepped, turn-long}
use Rattle.list_steps.proofs.step.line_by.Goals as goal

pub returns-then-size-gt-MOST : goal.returns-then-size-gt-MOST
returns-then-size-gt-MOST c = let a = c.args in rw (turn-long (next_by a.by_length) (table_of a.sequences.now a.pictures.now) a.recording.now a.state a.scratch.now (omega arith)) (ends c.too_long.ensures _ _)

pub line_met-requires : goal.line_met-requires
line_met-requires c =
    let a = c.args in
    met-inside (next_by a.by_length) (table_of a.sequences.now a.pictures.now) a.recording.now a.state a.scratch.now (omega arith) (by-ahead a.by_length a.recording.now (omega arith)) c.walk_on-met.ensures

pub returns : goal.returns
returns c =
    let a = c.args in
    met-stepped (next_by a.by_length) (table_of a.sequences.now a.pictures.now) a.recording.now a.state a.scratch.now (omega arith) (by-ahead a.by_length a.recording.now (omega arith)) c.walk_on-met.ensures c.line_met.ensures
