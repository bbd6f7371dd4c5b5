use Rattle.exposures.specs.Compare.{differ}
use Rattle.exposures.proofs.compare.is_first.Goals as goal

pub returns-then-frames_differ : goal.returns-then-frames_differ
unfolding differ
returns-then-frames_differ c = rw (← c.frames_differ.ensures, c.if-frames_differ.true)

pub returns-then-fields_differ : goal.returns-then-fields_differ
unfolding differ
returns-then-fields_differ c = rw (← c.frames_differ.ensures, c.if-frames_differ.false, ← c.fields_differ.ensures, c.if-fields_differ.true)

pub returns-then-references_differ : goal.returns-then-references_differ
unfolding differ
returns-then-references_differ c = rw (← c.frames_differ.ensures, c.if-frames_differ.false, ← c.fields_differ.ensures, c.if-fields_differ.false, ← c.references_differ.ensures, c.if-references_differ.true)

pub returns-then-counts_0_differ : goal.returns-then-counts_0_differ
unfolding differ
returns-then-counts_0_differ c = rw (← c.frames_differ.ensures, c.if-frames_differ.false, ← c.fields_differ.ensures, c.if-fields_differ.false, ← c.references_differ.ensures, c.if-references_differ.false, ← c.counts_0_differ.ensures, c.if-counts_0_differ.true)

pub returns-then-counts_1_differ : goal.returns-then-counts_1_differ
unfolding differ
returns-then-counts_1_differ c = rw (← c.frames_differ.ensures, c.if-frames_differ.false, ← c.fields_differ.ensures, c.if-fields_differ.false, ← c.references_differ.ensures, c.if-references_differ.false, ← c.counts_0_differ.ensures, c.if-counts_0_differ.false, ← c.counts_1_differ.ensures, c.if-counts_1_differ.true)

pub returns : goal.returns
unfolding differ
returns c = rw (← c.frames_differ.ensures, c.if-frames_differ.false, ← c.fields_differ.ensures, c.if-fields_differ.false, ← c.references_differ.ensures, c.if-references_differ.false, ← c.counts_0_differ.ensures, c.if-counts_0_differ.false, ← c.counts_1_differ.ensures, c.if-counts_1_differ.false, c.idrs_differ.ensures)
