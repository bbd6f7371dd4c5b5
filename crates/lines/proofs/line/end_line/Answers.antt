use native.Mathlib.Omega.{arith}
use Rattle.lines.specs.Lines.{end_line}
use Rattle.lines.proofs.Decimals.{decimal-64}
use Rattle.lines.proofs.Texts.{then, written}
use Rattle.lines.proofs.line.end_line.Goals as goal

pub field-a-requires : goal.field-a-requires
field-a-requires c = omega (arith, decimal-64 c.args.units c.ranges.units.fits)

pub field-b-requires : goal.field-b-requires
field-b-requires c = omega (arith, decimal-64 c.args.units c.ranges.units.fits, decimal-64 c.args.refused c.ranges.refused.fits)

pub words-requires : goal.words-requires
words-requires c = omega (arith, decimal-64 c.args.units c.ranges.units.fits, decimal-64 c.args.refused c.ranges.refused.fits)

pub returns : goal.returns
unfolding end_line
returns c = written (then (then c.field-a.ensures c.field-b.ensures) c.words.ensures) (omega (arith, decimal-64 c.args.units c.ranges.units.fits, decimal-64 c.args.refused c.ranges.refused.fits))
