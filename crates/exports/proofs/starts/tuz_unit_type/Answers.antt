use Rattle.exports.proofs.starts.tuz_unit_type.Goals as goal

pub returns-in-Ok : goal.returns-in-Ok
returns-in-Ok c = rw (c.kind.ensures, ← c.for_id.ensures, c.in-Ok.is)

pub returns-in-Err : goal.returns-in-Err
returns-in-Err c = rw (← c.for_id.ensures, c.in-Err.is)
