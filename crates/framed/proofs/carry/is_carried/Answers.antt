use native.Mathlib.Omega.{arith}
use Rattle.walk.proofs.Scans.{sought}
use Rattle.framed.proofs.Carried.{empty, zero-last, other_last, none_in}
use Rattle.framed.proofs.carry.is_carried.Goals as goal

pub returns-then-n-eq0 : goal.returns-then-n-eq0
returns-then-n-eq0 c = empty c.args.unit.now c.if-n-eq0.true

pub returns-then-unit-n-eq0 : goal.returns-then-unit-n-eq0
returns-then-unit-n-eq0 c = zero-last c.args.unit.now (omega arith) c.if-unit-n-eq0.true

pub returns-then-has_no_pair : goal.returns-then-has_no_pair
returns-then-has_no_pair c = none_in c.args.unit.now (omega arith) (c.has_no_pair.ensures c.if-has_no_pair.true) c.if-unit-n-eq0.false

pub returns : goal.returns
returns c = other_last c.args.unit.now (omega arith) c.seek.result c.if-unit-n-eq0.false (sought 0 c.args.unit.now 0 c.seek.result c.seek.ensures)
