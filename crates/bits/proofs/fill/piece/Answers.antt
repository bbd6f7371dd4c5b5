use native.Mathlib.Omega.{arith}
use lib.Pow.{pow_pos}
use Rattle.bits.proofs.Fills.{one_shl}
use Rattle.bits.proofs.fill.piece.Goals as goal

pub nonzero_rem-result : goal.nonzero_rem-result
nonzero_rem-result c = rw (one_shl c.args.take (omega arith)) (pow_pos c.args.take)

pub returns : goal.returns
returns c = rw (one_shl c.args.take (omega arith))
