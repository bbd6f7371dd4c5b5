use native.Mathlib.Omega.{arith}
use Rattle.bits.proofs.Fills.{one_shl}
use Rattle.bits.proofs.put.fits.Goals as goal

pub returns : goal.returns
returns c = rw (one_shl c.args.n (omega arith))
