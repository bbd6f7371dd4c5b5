use mathlib.Core.Path.{refl}
use Rattle.header.specs.Stages.{back_at}
use Rattle.header.specs.Told.{BackTold}
use Rattle.header.proofs.Parts.{back-laid, back-signed}
use Rattle.header.proofs.stages.back.Goals as goal

pub returns-in_default : goal.returns-in_default
unfolding back_at BackTold
returns-in_default c = rw (c.why.ensures, ← c.quantiser-a1.ensures, c.in_default.is)

pub returns-in_default-a2 : goal.returns-in_default-a2
unfolding back_at BackTold
returns-in_default-a2 c = rw (c.why-in_default-a2.ensures, ← c.quantiser-a1.ensures, c.in-Ok.is, ← c.filter-a2.ensures, c.in_default-a2.is)

pub returns : goal.returns
unfolding back_at BackTold
returns c =
    let q = c.lay_quantiser.ensures in
    let f = c.lay_filter.ensures in
    rw (← c.quantiser-a1.ensures, c.in-Ok.is, ← c.filter-a2.ensures, c.in-Ok-a2.is) (refl, (back-laid c.in-Ok.quantiser c.in-Ok-a2.filter c.args.numbers.now q.numbers_after f.numbers_after, back-signed c.in-Ok.quantiser c.in-Ok-a2.filter c.args.signed.now q.signed_after f.signed_after))
