use Prim.Native.Nat.{◌<◌, ◌^◌}
use mathlib.Core.Path.{◌≡◌}
use mathlib.Core.Bool.{true, false}
use native.Mathlib.Omega.{arith}
use borrow.Author.Tests.{not-true, not-false}
use mir.Facts.{to_z_pos}
use mir.Syntax.{w64}
use Rattle.writer.specs.Given.{typed}
use Rattle.writer.proofs.given.typed.Goals as goal

pub returns-then-either : goal.returns-then-either
unfolding typed
returns-then-either c = rw (c.kind_of.ensures, ← c.nal_unit_type.ensures, ← c.id-t.ensures, ← c.either.ensures, c.if-either.true)

pub returns-then-not-either : goal.returns-then-not-either
unfolding typed
returns-then-not-either c =
    let n : c.id-t.result < 2 ^ 63 = omega arith in
    rw (rw (to_z_pos w64 n) at c.refuse.ensures, ← c.nal_unit_type.ensures, ← c.id-t.ensures, ← c.either.ensures, c.if-either.false, ← c.either-2.ensures, c.if-not-either.true)

pub returns-then-not-x : goal.returns-then-not-x
unfolding typed
returns-then-not-x c =
    let e : c.args.x.there ≡ false = not-true _ c.if-not-x.true in
    rw (c.refuse-then-not-x.ensures, ← c.nal_unit_type.ensures, ← c.id-t.ensures, ← c.either.ensures, c.if-either.false, ← c.either-2.ensures, c.if-not-either.false, e)

pub returns : goal.returns
unfolding typed
returns c =
    let e : c.args.x.there ≡ true = not-false _ c.if-not-x.false in
    rw (c.with_extension.ensures, c.from_bytes.ensures, ← c.nal_unit_type.ensures, ← c.id-t.ensures, ← c.either.ensures, c.if-either.false, ← c.either-2.ensures, c.if-not-either.false, e)
