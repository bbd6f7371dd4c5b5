use Rattle.lines.specs.Lines.{too_long_line}
use native.Mathlib.Omega.{arith}
use Rattle.lines.proofs.Texts.{written}
use Rattle.lines.proofs.line.too_long_line.Goals as goal

pub returns : goal.returns
unfolding too_long_line
returns c = written c.words.ensures (omega arith)
