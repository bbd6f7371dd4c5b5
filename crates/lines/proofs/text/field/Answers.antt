use Rattle.lines.proofs.Texts.{then}
use Rattle.lines.proofs.text.field.Goals as goal

pub returns : goal.returns
returns c = then c.words-digits.ensures c.number.ensures
