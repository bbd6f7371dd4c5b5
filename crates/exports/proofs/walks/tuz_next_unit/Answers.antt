use Rattle.std.proofs.Common.{ap, ◌∙◌}
use Rattle.exports.specs.Walks.{came}
use Rattle.exports.proofs.walks.tuz_next_unit.Goals as goal

pub returns : goal.returns
returns c = c.come.ensures ∙ ap came c.next_step.ensures
