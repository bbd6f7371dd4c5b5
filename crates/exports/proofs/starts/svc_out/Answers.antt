use Rattle.exports.specs.Starts.{svc_out}
use Rattle.exports.proofs.starts.svc_out.Goals as goal

pub returns : goal.returns
unfolding svc_out
returns c = rw (c.idr_flag.ensures, c.priority_id.ensures, c.no_inter_layer_pred_flag.ensures, c.dependency_id.ensures, c.quality_id.ensures, c.temporal_id.ensures, c.use_ref_base_pic_flag.ensures, c.discardable_flag.ensures, c.output_flag.ensures)
