use native.Mathlib.Omega.{arith}
use Rattle.parameter_sets.proofs.PictureParts.{ends-in, ends-out}
use Rattle.parameter_sets.proofs.groups.ids_end.Goals as goal

pub returns-then-size-left : goal.returns-then-size-left
returns-then-size-left c = ends-in c.args.g c.args.c.at c.args.end c.id_count.ensures.0 c.group_id_bits-w.ensures.0 c.bits_left-left.ensures c.if-size-left.true

pub returns-else-size-left : goal.returns-else-size-left
returns-else-size-left c = ends-out c.args.g c.args.c.at c.args.end c.id_count.ensures.0 c.group_id_bits-w.ensures.0 c.bits_left-left.ensures (omega arith) c.refuse_at.ensures
