use native.Mathlib.Omega.{arith}
use Rattle.nal.proofs.ThreeBytes.{no-extension, with-extension}
use Rattle.unit.proofs.head.head_extended.Goals as goal

pub returns-then-unit-lt4 : goal.returns-then-unit-lt4
returns-then-unit-lt4 c = rw (c.refuse.ensures, no-extension c.args.unit.now (omega arith))

pub returns : goal.returns
returns c = rw (with-extension c.args.unit.now (omega arith), c.type_id.ensures, c.nal_ref_idc.ensures)
