use Rattle.unit.specs.Begin.{prefix_kind}
use Rattle.unit.proofs.begin.prefix_kind.Goals as goal

pub returns-in-Mvc : goal.returns-in-Mvc
unfolding prefix_kind
returns-in-Mvc c = rw c.in-Mvc.is

pub returns-in-Svc : goal.returns-in-Svc
unfolding prefix_kind
returns-in-Svc c = rw (c.in-Svc.is, c.nal_ref_idc.ensures, c.use_ref_base_pic_flag.ensures, c.idr_flag.ensures)
