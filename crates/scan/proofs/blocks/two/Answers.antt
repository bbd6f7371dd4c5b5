use mathlib.Core.Path.{refl}
use Rattle.scan.proofs.blocks.two.Goals as goal

pub returns : goal.returns
returns c = rw (c.wide.ensures, c.wide-2.ensures) refl
