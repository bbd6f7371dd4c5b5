-- A unit's head, as a plain struct, and what such a struct says to a line.
use Rattle.std.specs.Prelude.{pos, ◌==◌}
use Rattle.bits.specs.Refusals.{pick, refusal}
use Rattle.exports.specs.declared.heads.HeadOut.{HeadOut}
use Rattle.std.specs.Prelude.{Result, Ok, Err}
use Rattle.bits.specs.declared.refusals.Refusal.{Refusal}
use Rattle.unit.specs.declared.head.UnitHead.{UnitHead}

-- the head, or number and value of a refusal
unfoldable pub head_out : Result UnitHead Refusal → HeadOut
head_out (Ok h) = record { value = pos 0; number = 0; head = h }
head_out (Err r) =
    record { value = r.value; number = r.number; head = record { nal_unit_type = 0; nal_ref_idc = 0; b1 = 0; b2 = 0; b3 = 0 } }

-- number 0, a head; else refused. A head's refusal has no bit place
unfoldable pub head_heard : HeadOut → Result UnitHead Refusal
head_heard o = pick (o.number == 0) (Ok o.head) (Err (refusal o.number o.value))
