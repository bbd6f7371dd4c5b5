use mathlib.Core.Path.{sym, ◌∙◌}
use Rattle.nal.proofs.FirstByte.{unit-type}
use Rattle.nal.proofs.header.NalHeader.nal_unit_type.Goals as goal

pub returns : goal.returns
returns c = c.of_low_bits.ensures ∙ sym (unit-type c.args.self)
