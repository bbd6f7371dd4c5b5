use native.Mathlib.Omega.{arith}
use Rattle.lines.proofs.Decimals.{decimal-64}
use Rattle.lines.proofs.Texts.{nothing}
use Rattle.lines.proofs.line.bit_words.Goals as goal

pub field-requires : goal.field-requires
field-requires c = omega (arith, decimal-64 c.args.bit c.ranges.bit.fits)

pub returns-then-has_bit : goal.returns-then-has_bit
returns-then-has_bit c = (
  rw c.if-has_bit.true c.field.ensures,
  omega (arith, c.field.ensures.end, decimal-64 c.args.bit c.ranges.bit.fits),
)

pub returns : goal.returns
returns c = (rw c.if-has_bit.false (nothing _ _), omega arith)
