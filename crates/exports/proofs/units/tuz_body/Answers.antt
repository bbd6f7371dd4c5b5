use Rattle.std.proofs.Common.{ap, ◌∙◌}
use Rattle.exports.specs.Units.{told, unit_out}
use Rattle.exports.proofs.units.tuz_body.Goals as goal

pub returns-clause-value : goal.returns-clause-value
unfolding unit_out
returns-clause-value c = let g = c.read_body_into.ensures.read in (c.tell.ensures ∙ ap told g.answered, g.left)
