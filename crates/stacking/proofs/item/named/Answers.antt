use borrow.Author.Rules.{rules}
use mir.Facts.{to_z-of_z}
use mir.Syntax.{w32}
use mir.Val.{SFits}
use Rattle.stacking.proofs.item.named.Goals as goal

pub returns-in-Some : goal.returns-in-Some
returns-in-Some c =
    let f : SFits w32 c.in-Some.p.pic_init_qp_minus26 = search rules in
    (rw (← c.picture_in.ensures, c.in-Some.is), rw (to_z-of_z f, ← c.picture_in.ensures, c.in-Some.is))

pub returns-in-None : goal.returns-in-None
returns-in-None c = (rw (← c.picture_in.ensures, c.in-None.is), rw (← c.picture_in.ensures, c.in-None.is))
