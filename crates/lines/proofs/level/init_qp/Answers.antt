use borrow.Author.Rules.{rules}
use mir.Facts.{to_z-of_z}
use mir.Syntax.{w32}
use mir.Val.{SFits}
use mathlib.Core.Path.{sym, ◌∙◌}
use Rattle.lines.proofs.Levels.{init-qp}
use Rattle.lines.proofs.level.init_qp.Goals as goal

pub returns-in-Some : goal.returns-in-Some
returns-in-Some c =
    let f : SFits w32 c.in-Some.p.pic_init_qp_minus26 = search rules in
    rw (to_z-of_z f) (init-qp _ _ _ (sym c.in-Some.is ∙ c.picture_in.ensures))

pub returns-in-None : goal.returns-in-None
returns-in-None c = init-qp _ _ _ (sym c.in-None.is ∙ c.picture_in.ensures)
