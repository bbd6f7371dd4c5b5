use Rattle.std.proofs.Common.{to_z-of_z, w64, SFits, rules}
use Rattle.exports.specs.Walks.{walk_told}
use Rattle.exports.proofs.walks.walk_told.Goals as goal

pub returns : goal.returns
unfolding walk_told
returns c =
    let f : SFits w64 c.come-c.result.value = search rules in
    rw (to_z-of_z f, c.come-c.ensures, c.tell-read.ensures)
