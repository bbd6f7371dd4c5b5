use Rattle.bits.proofs.read.last_bits.Goals as goal

pub returns-then-code : goal.returns-then-code
returns-then-code c = rw c.if-code.true c.last_code.ensures

pub returns-else-code : goal.returns-else-code
returns-else-code c = rw c.if-code.false c.last_fixed.ensures
