use Rattle.std.proofs.Common.{ap, ◌∙◌}
use Rattle.exports.specs.Walks.{came}
use Rattle.exports.proofs.lengths.tuz_next_framed.Goals as goal

pub returns : goal.returns
returns c = c.come.ensures ∙ ap came c.next_framed.ensures
