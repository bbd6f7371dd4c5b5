use mathlib.Core.Path.{ap}
use mathlib.Core.Bool.{not}
use borrow.Author.Tests.{eq-eqb, ne_eqb}
use Rattle.fmt.proofs.Puts.{test-none}
use Rattle.writer.proofs.Stages.{no-bits, test-to}
use Rattle.writer.proofs.marks.put_colour_plane.Goals as goal

pub returns-then-v-ne3 : goal.returns-then-v-ne3
returns-then-v-ne3 c = test-to _ _ _ _ _ (ap not (ne_eqb _ _ c.if-v-ne3.true)) c.put_bits.ensures

pub returns-else-v-ne3 : goal.returns-else-v-ne3
returns-else-v-ne3 c = no-bits _ _ (test-none _ _ _ _ _ (ap not (eq-eqb _ _ c.if-v-ne3.false)))
