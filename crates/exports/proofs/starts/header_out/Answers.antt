use Rattle.std.proofs.Common.{to_z-of_z, w64, SFits, rules}
use Rattle.exports.specs.Starts.{header_out}
use Rattle.exports.proofs.starts.header_out.Goals as goal

pub returns-in-Ok : goal.returns-in-Ok
unfolding header_out
returns-in-Ok c = rw (c.has_extension.ensures, c.nal_ref_idc.ensures, c.type_id-t.ensures, c.in-Ok.is)

pub returns-in-Err : goal.returns-in-Err
unfolding header_out
returns-in-Err c =
    let f : SFits w64 c.in-Err.why.value = search rules in
    rw (to_z-of_z f, c.in-Err.is)
