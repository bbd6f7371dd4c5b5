use native.Mathlib.Omega.{arith}
use Rattle.lines.specs.Kinds.{head_line}
use Rattle.lines.proofs.Decimals.{decimal-64}
use Rattle.lines.proofs.Texts.{then, written}
use Rattle.lines.proofs.kinds.head_line.Goals as goal

pub field-a-requires : goal.field-a-requires
field-a-requires c = omega (arith, decimal-64 c.args.place c.ranges.place.fits)

pub field-b-requires : goal.field-b-requires
field-b-requires c = omega (arith, decimal-64 c.args.place c.ranges.place.fits, decimal-64 c.args.length c.ranges.length.fits)

pub head_words-c-requires : goal.head_words-c-requires
head_words-c-requires c = omega (arith, decimal-64 c.args.place c.ranges.place.fits, decimal-64 c.args.length c.ranges.length.fits)

pub returns : goal.returns
unfolding head_line
returns c = written (then (then (then c.field-a.ensures c.field-b.ensures) c.head_words-c.ensures.0) c.words.ensures) (omega arith)
