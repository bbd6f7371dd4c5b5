use native.Mathlib.Omega.{arith}
use Rattle.lines.specs.Lines.{broken_line}
use Rattle.lines.proofs.Decimals.{decimal-64}
use Rattle.lines.proofs.Texts.{then, written}
use Rattle.lines.proofs.line.broken_line.Goals as goal

pub field-a-requires : goal.field-a-requires
field-a-requires c = omega (arith, decimal-64 c.args.place c.ranges.place.fits)

pub words-requires : goal.words-requires
words-requires c = omega (arith, decimal-64 c.args.place c.ranges.place.fits)

pub returns : goal.returns
unfolding broken_line
returns c = written (then c.field-a.ensures c.words.ensures) (omega (arith, decimal-64 c.args.place c.ranges.place.fits))
