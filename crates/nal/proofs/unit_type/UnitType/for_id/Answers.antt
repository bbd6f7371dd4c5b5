use mathlib.Core.Path.{sym}
use Prim.Native.Nat.{◌<◌}
use native.Mathlib.Omega.{arith}
use native.Mathlib.Nat.{mod-eq_of_lt}
use Rattle.nal.proofs.Types.{for-id-in, for-id-out}
use Rattle.nal.proofs.unit_type.UnitType.for_id.Goals as goal

pub returns-then-id-gt31 : goal.returns-then-id-gt31
returns-then-id-gt31 c = sym (for-id-out c.args.id (omega arith))

pub returns : goal.returns
returns c = let h : c.args.id < 32 = omega arith in rw (c.of_low_bits.ensures, mod-eq_of_lt h) (sym (for-id-in c.args.id h))
