use Rattle.lines.specs.Lines.{is_svc}
use Rattle.lines.proofs.line.is_svc.Goals as goal

pub returns-in-Ok : goal.returns-in-Ok
unfolding is_svc
returns-in-Ok c = rw (← c.extension_of.ensures, c.in-Ok.is) c.is_svc.ensures

pub returns-in-Err : goal.returns-in-Err
unfolding is_svc
returns-in-Err c = rw (← c.extension_of.ensures, c.in-Err.is)
