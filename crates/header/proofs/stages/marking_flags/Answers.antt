use Rattle.header.specs.Stages.{marking_flags_at}
use Rattle.header.proofs.stages.marking_flags.Goals as goal

pub returns-in_default : goal.returns-in_default
unfolding marking_flags_at
returns-in_default c = rw (c.why.ensures, ← c.both-idr.ensures, ← c.flag_if-a1.ensures, c.in_default.is)

pub returns-in_default-a2 : goal.returns-in_default-a2
unfolding marking_flags_at
returns-in_default-a2 c = rw (c.why-in_default-a2.ensures, ← c.both-idr.ensures, ← c.flag_if-a1.ensures, c.in-Ok.is, ← c.flag_if-a2.ensures, c.in_default-a2.is)

pub returns-in_default-a3 : goal.returns-in_default-a3
unfolding marking_flags_at
returns-in_default-a3 c = rw (c.why-in_default-a3.ensures, ← c.both-idr.ensures, ← c.flag_if-a1.ensures, c.in-Ok.is, ← c.flag_if-a2.ensures, c.in-Ok-a2.is, ← c.both.ensures, ← c.flag_if-a3.ensures, c.in_default-a3.is)

pub returns : goal.returns
unfolding marking_flags_at
returns c = rw (← c.both-idr.ensures, ← c.flag_if-a1.ensures, c.in-Ok.is, ← c.flag_if-a2.ensures, c.in-Ok-a2.is, ← c.both.ensures, ← c.flag_if-a3.ensures, c.in-Ok-a3.is)
