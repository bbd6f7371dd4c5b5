use native.Mathlib.Nat.{add-zero}
use native.Mathlib.Omega.{arith}
use lib.ListN.{drop_of_length-le}
use Rattle.scan.proofs.scan.seek.Goals as goal

pub returns-then-s-from : goal.returns-then-s-from
returns-then-s-from c = let a = c.args in rw (drop_of_length-le a.s.now {i = a.from} (omega arith), add-zero)
