use Rattle.unit.specs.Head.{head_typed}
use Rattle.unit.proofs.head.head_typed.Goals as goal

pub returns-then-has_extension : goal.returns-then-has_extension
unfolding head_typed
returns-then-has_extension c = rw (c.head_extended.ensures, ← c.type_id.ensures, ← c.has_extension.ensures, c.if-has_extension.true)

pub returns : goal.returns
unfolding head_typed
returns c = rw (c.type_id-2.ensures, c.nal_ref_idc.ensures, ← c.type_id.ensures, ← c.has_extension.ensures, c.if-has_extension.false)
