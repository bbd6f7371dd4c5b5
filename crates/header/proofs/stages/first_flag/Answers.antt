use Rattle.bits.specs.Bits.{bits_of}
use Rattle.header.specs.Stages.{first_flag_at}
use Rattle.header.proofs.stages.first_flag.Goals as goal

pub returns-in_default : goal.returns-in_default
unfolding first_flag_at
returns-in_default c = rw (c.why.ensures, ← c.not_scalable-a1.ensures (bits_of c.args.s.now), c.in_default.is)

pub returns : goal.returns
unfolding first_flag_at
returns c = rw (← c.not_scalable-a1.ensures (bits_of c.args.s.now), c.in-Ok.is, ← c.has_l0.ensures) c.flag_if.ensures
