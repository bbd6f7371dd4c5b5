use Rattle.exports.specs.Starts.{mvc_out}
use Rattle.exports.proofs.starts.mvc_out.Goals as goal

pub returns : goal.returns
unfolding mvc_out
returns c = rw (c.non_idr_flag.ensures, c.priority_id.ensures, c.view_id.ensures, c.temporal_id.ensures, c.anchor_pic_flag.ensures, c.inter_view_flag.ensures)
