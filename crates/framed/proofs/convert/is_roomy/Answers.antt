use borrow.Author.Tests.{leb-true}
use mathlib.Core.Bool.{false≢true}
use native.Mathlib.Omega.{arith}
use Rattle.framed.proofs.convert.is_roomy.Goals as goal

pub returns-then-room-most : goal.returns-then-room-most
returns-then-room-most c = λ e. absurd (false≢true e)

pub returns : goal.returns
returns c = λ e. (omega arith, leb-true _ _ e)
