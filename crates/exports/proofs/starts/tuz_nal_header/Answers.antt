use Rattle.std.proofs.Common.{ap, ◌∙◌}
use Rattle.exports.specs.Starts.{header_out}
use Rattle.exports.proofs.starts.tuz_nal_header.Goals as goal

pub returns : goal.returns
returns c = c.header_out.ensures ∙ ap header_out c.new.ensures
