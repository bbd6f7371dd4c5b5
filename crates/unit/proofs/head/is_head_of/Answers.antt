use Rattle.unit.proofs.head.is_head_of.Goals as goal

pub returns-in-Ok : goal.returns-in-Ok
returns-in-Ok c = rw (c.equal.ensures, ← c.head.ensures, c.in-Ok.is)

pub returns-in-Err : goal.returns-in-Err
returns-in-Err c = rw (← c.head.ensures, c.in-Err.is)
