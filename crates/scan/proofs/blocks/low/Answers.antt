use Rattle.scan.proofs.Clears.{low-zero}
use Rattle.scan.proofs.blocks.low.Goals as goal

pub returns-else-two-eq0 : goal.returns-else-two-eq0
returns-else-two-eq0 c = λ p. absurd (c.if-two-eq0.false (rw c.two.ensures (low-zero _ _ p.one p.two)))
