use Prim.Native.Nat.{◌<◌, ◌^◌}
use mathlib.Core.Path.{sym, ap, ◌∙◌}
use native.Mathlib.Omega.{arith}
use mir.Facts.{to_z_pos}
use mir.Syntax.{w64}
use Rattle.fmt.specs.Fmt.{seq}
use Rattle.fmt.specs.Leaves.{ue}
use Rattle.syntax.specs.SliceHeader.{lead, slice_type}
use Rattle.header.specs.Lead.{table_in}
use Rattle.header.proofs.Sets.{id-refused, no-picture, no-sequence, sets-there, picture-is, width_is, sequence-is}
use Rattle.header.proofs.lead.lead.Goals as goal
use Rattle.bits.specs.Answers.{as_read}

pub returns-in_default : goal.returns-in_default
unfolding lead seq ue
returns-in_default c =
    rw (c.why.ensures, ← c.ue-a1.ensures, c.in_default.is)

pub returns-in_default-a2 : goal.returns-in_default-a2
unfolding lead seq ue slice_type
returns-in_default-a2 c =
    rw (c.why-in_default-a2.ensures, ← c.ue-a1.ensures, c.in-Ok.is, ← c.tested-a2.ensures, c.in_default-a2.is)

pub returns-in_default-a3 : goal.returns-in_default-a3
unfolding lead seq ue slice_type
returns-in_default-a3 c =
    let x = table_in c.args.sets in
    let h = sym c.tested-a3.ensures ∙ ap as_read c.in_default-a3.is in
    rw (c.why-in_default-a3.ensures, ← c.ue-a1.ensures, c.in-Ok.is, ← c.tested-a2.ensures, c.in-Ok-a2.is, id-refused x _ _ h, c.in_default-a3.is)

pub returns-in_default-a4 : goal.returns-in_default-a4
unfolding lead seq ue slice_type
returns-in_default-a4 c =
    let n : c.in-Ok-a3.id < 2 ^ 63 = omega arith in
    let x = table_in c.args.sets in
    let h = sym c.tested-a3.ensures ∙ ap as_read c.in-Ok-a3.is in
    let k = sym c.picture_in-a4.ensures ∙ c.in_default-a4.is in
    rw (rw (to_z_pos w64 n) at c.refuse_at.ensures, ← c.ue-a1.ensures, c.in-Ok.is, ← c.tested-a2.ensures, c.in-Ok-a2.is, no-picture x _ _ h k)

pub returns-in_default-a5 : goal.returns-in_default-a5
unfolding lead seq ue slice_type
returns-in_default-a5 c =
    let n : c.in-Some.picture.seq_parameter_set_id < 2 ^ 63 = omega arith in
    let x = table_in c.args.sets in
    let h = sym c.tested-a3.ensures ∙ ap as_read c.in-Ok-a3.is in
    let k = sym c.picture_in-a4.ensures ∙ c.in-Some.is in
    let g = sym c.sequence_in-a5.ensures ∙ c.in_default-a5.is in
    rw (rw (to_z_pos w64 n) at c.refuse_at-in_default-a5.ensures, ← c.ue-a1.ensures, c.in-Ok.is, ← c.tested-a2.ensures, c.in-Ok-a2.is, no-sequence x _ _ h k g)

pub returns : goal.returns
unfolding lead seq ue slice_type
returns c =
    let x = table_in c.args.sets in
    let h = sym c.tested-a3.ensures ∙ ap as_read c.in-Ok-a3.is in
    let k = sym c.picture_in-a4.ensures ∙ c.in-Some.is in
    let g = sym c.sequence_in-a5.ensures ∙ c.in-Some-a5.is in
    rw (← c.ue-a1.ensures, c.in-Ok.is, ← c.tested-a2.ensures, c.in-Ok-a2.is, sets-there x _ _ h k g, picture-is x _ _ h k, sequence-is x _ _ h k g, width_is x _ _ h k)
