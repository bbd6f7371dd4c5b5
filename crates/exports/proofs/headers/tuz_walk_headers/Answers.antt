use Rattle.std.proofs.Common.{◌∙◌, ap₂}
use Rattle.exports.specs.Walks.{walk_told}
use Rattle.exports.proofs.headers.tuz_walk_headers.Goals as goal

pub returns-clause-value : goal.returns-clause-value
returns-clause-value c = let g = c.walk_headers_into-w.ensures.walked in c.walk_told.ensures ∙ ap₂ walk_told g.step g.answered
