use mir.Facts.{to_z-of_z}
use mir.Syntax.{w32, w64}
use mir.Val.{SFits}
use Rattle.lines.specs.Level.{final_qs}
use Rattle.lines.proofs.level.final_qs.Goals as goal

pub returns : goal.returns
unfolding final_qs
returns c =
    let i : SFits w32 c.init_qs.result = record { sfits = c.init_qs.type_inv } in
    let l : SFits w64 c.level.result = record { sfits = c.level.type_inv } in
    rw (to_z-of_z l, c.level.ensures, to_z-of_z i, to_z-of_z c.ranges.delta, c.init_qs.ensures)
