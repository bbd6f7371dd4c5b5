use mathlib.Core.Path.{refl}
use Rattle.header.specs.Stages.{front_at}
use Rattle.header.specs.Told.{FrontTold}
use Rattle.header.proofs.Parts.{front-laid}
use Rattle.header.proofs.stages.front.Goals as goal

pub returns-in_default : goal.returns-in_default
unfolding front_at FrontTold
returns-in_default c = rw (c.why.ensures, ← c.frame-a1.ensures, c.in_default.is)

pub returns-in_default-a2 : goal.returns-in_default-a2
unfolding front_at FrontTold
returns-in_default-a2 c = rw (c.why-in_default-a2.ensures, ← c.frame-a1.ensures, c.in-Ok.is, ← c.order_count-a2.ensures, c.in_default-a2.is)

pub returns-in_default-a3 : goal.returns-in_default-a3
unfolding front_at FrontTold
returns-in_default-a3 c = rw (c.why-in_default-a3.ensures, ← c.frame-a1.ensures, c.in-Ok.is, ← c.order_count-a2.ensures, c.in-Ok-a2.is, ← c.active_counts-a3.ensures, c.in_default-a3.is)

pub returns : goal.returns
unfolding front_at FrontTold
returns c =
    let o = c.lay_order.ensures in
    rw (← c.frame-a1.ensures, c.in-Ok.is, ← c.order_count-a2.ensures, c.in-Ok-a2.is, ← c.active_counts-a3.ensures, c.in-Ok-a3.is) (refl, (front-laid c.in-Ok.frame c.in-Ok-a2.order_count c.in-Ok-a3.active_counts c.args.numbers.now c.lay_frame.ensures o.numbers_after c.lay_counts.ensures, o.signed_after))
