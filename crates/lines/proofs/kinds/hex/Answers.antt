use mathlib.Core.Path.{refl}
use native.Mathlib.Numerals.{add-one}
use Rattle.lines.proofs.kinds.hex.Goals as goal

pub returns : goal.returns
returns c = rw (c.hex_digit-high.ensures, c.hex_digit-low.ensures, add-one) (record { end = refl; holds = refl })
