use Rattle.exports.specs.Starts.{extension_out}
use Rattle.exports.proofs.starts.tuz_extension.Goals as goal

pub returns : goal.returns
unfolding extension_out
returns c = rw (c.svc_out-svc.ensures, c.mvc_out-mvc.ensures, c.is_svc.ensures, c.from_bytes.ensures)
