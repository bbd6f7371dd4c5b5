use Prim.Native.Nat.{◌%◌}
use mathlib.Core.Path.{sym, ap, ◌∙◌}
use native.Mathlib.Omega.{arith}
use Rattle.nal.specs.UnitType.{id_of}
use Rattle.nal.proofs.FirstByte.{unit-type}
use Rattle.nal.proofs.Types.{id-of-type}
use Rattle.nal.proofs.header.NalHeader.type_id.Goals as goal

pub returns : goal.returns
returns c =
    let h = c.args.self in
    sym (ap id_of (unit-type h) ∙ id-of-type (h.0 % 32) (omega arith))
