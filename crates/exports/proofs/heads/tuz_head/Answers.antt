use Rattle.std.proofs.Common.{ap, ◌∙◌}
use Rattle.exports.specs.Heads.{head_out}
use Rattle.exports.proofs.heads.tuz_head.Goals as goal

pub returns : goal.returns
returns c = c.head_out.ensures ∙ ap head_out c.head.ensures
