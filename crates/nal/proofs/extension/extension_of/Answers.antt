use mathlib.Core.Path.{sym}
use native.Mathlib.Omega.{arith}
use Rattle.nal.proofs.ThreeBytes.{no-extension, with-extension}
use Rattle.nal.proofs.extension.extension_of.Goals as goal

pub returns-then-unit-lt4 : goal.returns-then-unit-lt4
returns-then-unit-lt4 c = rw c.refuse.ensures (sym (no-extension c.args.unit.now (omega arith)))

pub returns : goal.returns
returns c = rw c.from_bytes.ensures (sym (with-extension c.args.unit.now (omega arith)))
