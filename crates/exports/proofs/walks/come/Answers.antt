use Rattle.std.proofs.Common.{to_z-of_z, w64, SFits, rules}
use Rattle.exports.specs.Walks.{came}
use Rattle.exports.proofs.walks.come.Goals as goal

pub returns-in-Unit : goal.returns-in-Unit
unfolding came
returns-in-Unit c = rw c.in-Unit.is

pub returns-in-End : goal.returns-in-End
unfolding came
returns-in-End c = rw c.in-End.is

pub returns-in-Refused : goal.returns-in-Refused
unfolding came
returns-in-Refused c =
    let f : SFits w64 c.in-Refused.why.value = search rules in
    rw (to_z-of_z f, c.in-Refused.is)
