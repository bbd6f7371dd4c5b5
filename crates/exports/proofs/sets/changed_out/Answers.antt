use Rattle.std.proofs.Common.{to_z-of_z, w64, SFits, rules}
use Rattle.exports.specs.Sets.{changed_out}
use Rattle.exports.proofs.sets.changed_out.Goals as goal

pub returns-in-Err : goal.returns-in-Err
unfolding changed_out
returns-in-Err c =
    let f : SFits w64 c.in-Err.why.value = search rules in
    rw (to_z-of_z f, c.in-Err.is)

pub returns-in-Ok : goal.returns-in-Ok
unfolding changed_out
returns-in-Ok c = rw c.in-Ok.is
