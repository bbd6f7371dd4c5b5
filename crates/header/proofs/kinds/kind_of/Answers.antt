use mathlib.Core.Bool.{and-true, and-false, or-false}
use Rattle.header.specs.Kinds.{kind_of}
use Rattle.header.proofs.kinds.kind_of.Goals as goal

pub returns-in-Mvc : goal.returns-in-Mvc
unfolding kind_of
returns-in-Mvc c = rw (c.in-Mvc.is, c.nal_ref_idc-reference.ensures, c.either.ensures, c.both.ensures, c.non_idr_flag.ensures, c.either-extended.ensures, c.type_id-t.ensures, and-true, and-false)

pub returns-in-Svc : goal.returns-in-Svc
unfolding kind_of
returns-in-Svc c = rw (c.in-Svc.is, c.nal_ref_idc-reference.ensures, c.either-extended.ensures, c.type_id-t.ensures, and-false, and-true, or-false)
