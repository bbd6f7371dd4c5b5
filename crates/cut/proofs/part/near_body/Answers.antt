use Rattle.cut.proofs.Firsts.{near-short}
use Rattle.cut.proofs.part.near_body.Goals as goal

pub returns-then-n-lt-NEAR : goal.returns-then-n-lt-NEAR
returns-then-n-lt-NEAR c = rw (← near-short c.args.unit.now c.args.from c.if-n-lt-NEAR.true) c.first_bytes.ensures

pub returns : goal.returns
returns c = c.first_bytes-2.ensures
