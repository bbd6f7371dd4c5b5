use borrow.Author.Tests.{eq-eqb, ne_eqb}
use Rattle.exposures.specs.Compare.{gap_after}
use Rattle.exposures.proofs.compare.is_gap.Goals as goal

pub returns-then-s : goal.returns-then-s
unfolding gap_after
returns-then-s c = rw c.if-s.true

pub returns-then-s-n : goal.returns-then-s-n
unfolding gap_after
returns-then-s-n c = rw (c.if-s.false, eq-eqb _ _ c.if-s-n.true)

pub returns : goal.returns
unfolding gap_after
returns c = rw (c.if-s.false, ne_eqb _ _ c.if-s-n.false, c.next_frame.ensures)
