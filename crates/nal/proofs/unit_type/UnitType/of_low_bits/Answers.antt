use mathlib.Core.Path.{refl}
use Rattle.nal.specs.UnitType.{type_of}
use Rattle.nal.proofs.unit_type.UnitType.of_low_bits.Goals as goal

pub returns : goal.returns
unfolding type_of
returns c = refl
