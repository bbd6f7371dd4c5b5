use Rattle.std.proofs.Common.{to_z-of_z, w64, SFits}
use Rattle.exports.proofs.quants.tuz_final_qp.Goals as goal

pub returns : goal.returns
returns c =
    let f : SFits w64 c.final_qp.result = record { sfits = c.final_qp.type_inv } in
    rw (to_z-of_z f, c.final_qp.ensures, to_z-of_z c.ranges.delta)
