use Prim.Native.Nat.{◌<◌, ◌^◌}
use mathlib.Core.Path.{sym, ◌∙◌}
use native.Mathlib.Omega.{arith}
use mir.Facts.{to_z_pos}
use mir.Syntax.{w64}
use borrow.Author.Tests.{le-leb, lt-leb}
use Rattle.writer.specs.Write.{sets_for}
use Rattle.writer.proofs.sets.sets_for.Goals as goal

pub returns-then-id-gt255 : goal.returns-then-id-gt255
unfolding sets_for
returns-then-id-gt255 c =
    let n : c.args.id < 2 ^ 63 = omega arith in
    rw (rw (to_z_pos w64 n) at c.refuse.ensures, lt-leb _ _ c.if-id-gt255.true)

pub returns-in_default : goal.returns-in_default
unfolding sets_for
returns-in_default c =
    let n : c.args.id < 2 ^ 63 = omega arith in
    let k = sym c.picture_in-a1.ensures ∙ c.in_default.is in
    rw (rw (to_z_pos w64 n) at c.refuse-in_default.ensures, le-leb _ _ c.if-id-gt255.false, k)

pub returns-in_default-a2 : goal.returns-in_default-a2
unfolding sets_for
returns-in_default-a2 c =
    let n : c.in-Some.picture.seq_parameter_set_id < 2 ^ 63 = omega arith in
    let k = sym c.picture_in-a1.ensures ∙ c.in-Some.is in
    let g = sym c.sequence_in-a2.ensures ∙ c.in_default-a2.is in
    rw (rw (to_z_pos w64 n) at c.refuse-in_default-a2.ensures, le-leb _ _ c.if-id-gt255.false, k, g)

pub returns : goal.returns
unfolding sets_for
returns c =
    let k = sym c.picture_in-a1.ensures ∙ c.in-Some.is in
    let g = sym c.sequence_in-a2.ensures ∙ c.in-Some-a2.is in
    rw (le-leb _ _ c.if-id-gt255.false, k, g)
