use mathlib.Core.Path.{refl}
use Prim.Native.Nat.{◌≤◌}
use native.Mathlib.Omega.{arith}
use borrow.Author.Tests.{le-leb, lt-leb}
use lib.ListN.{length}
use Rattle.header.specs.Lead.{table_of}
use Rattle.walk.specs.Walked.{next_step}
use Rattle.list_steps.specs.Listing.{most, turn, words_left}
use Rattle.list_steps.proofs.Turns.{ends, start-ahead, met-inside, met-stepped, turn-long}
use Rattle.list_steps.proofs.step.list_step_into.Goals as goal

pub returns-then-recording-gt-MOST-clause-stepped : goal.returns-then-recording-gt-MOST-clause-stepped
unfolding turn
returns-then-recording-gt-MOST-clause-stepped c =
    let a = c.args in rw (turn-long next_step (table_of a.sequences.now a.pictures.now) a.recording.now a.state a.scratch.now (omega arith)) (ends c.too_long.ensures _ _)

pub returns-then-recording-gt-MOST-clause-words : goal.returns-then-recording-gt-MOST-clause-words
unfolding words_left
returns-then-recording-gt-MOST-clause-words c = rw (lt-leb (length c.args.recording.now) most (omega arith)) refl

pub line_met-requires : goal.line_met-requires
line_met-requires c =
    let a = c.args in
    let h : length a.recording.now ≤ most = omega arith in
    met-inside next_step (table_of a.sequences.now a.pictures.now) a.recording.now a.state a.scratch.now h (start-ahead a.recording.now h) c.walk_lent-met.ensures.met

pub returns-clause-stepped : goal.returns-clause-stepped
unfolding turn
returns-clause-stepped c =
    let a = c.args in
    let h : length a.recording.now ≤ most = omega arith in
    met-stepped next_step (table_of a.sequences.now a.pictures.now) a.recording.now a.state a.scratch.now h (start-ahead a.recording.now h) c.walk_lent-met.ensures.met c.line_met.ensures

pub returns-clause-words : goal.returns-clause-words
unfolding words_left
returns-clause-words c =
    let h : length c.args.recording.now ≤ most = omega arith in
    rw (le-leb (length c.args.recording.now) most h) c.walk_lent-met.ensures.words
