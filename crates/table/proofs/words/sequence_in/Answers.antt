use mathlib.Core.Path.{sym, ◌∙◌}
use Rattle.table.specs.Tables.{sequence_of}
use Rattle.table.proofs.Tests.{two}
use Rattle.table.proofs.Looking.{sequence-past, sequence-none, sequence-there}
use Rattle.table.proofs.words.sequence_in.Goals as goal

pub returns-then-id-gt31 : goal.returns-then-id-gt31
returns-then-id-gt31 c = sym (sequence-past _ _ c.if-id-gt31.true)

pub returns-then-both : goal.returns-then-both
unfolding sequence_of
returns-then-both c = sym (sequence-there _ _ c.if-id-gt31.false (two c.both.ensures c.within.ensures c.sequence_fits.ensures ∙ c.if-both.true))

pub returns-else-both : goal.returns-else-both
unfolding sequence_of
returns-else-both c = sym (sequence-none _ _ c.if-id-gt31.false (two c.both.ensures c.within.ensures c.sequence_fits.ensures ∙ c.if-both.false))
