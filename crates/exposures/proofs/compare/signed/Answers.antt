use mathlib.Core.Bool.{true, false}
use mathlib.Core.Path.{◌≡◌}
use lib.Signed.{le_z}
use mir.Facts.{to_z-of_z}
use Rattle.exposures.proofs.compare.signed.Goals as goal

pub returns-then-a-b : goal.returns-then-a-b
returns-then-a-b c =
    let f = c.ranges in
    let t : le_z c.args.a c.args.b ≡ true = rw (to_z-of_z f.a, to_z-of_z f.b) at c.if-a-b.true in
    rw (to_z-of_z f.b, to_z-of_z f.a, t)

pub returns-else-a-b : goal.returns-else-a-b
returns-else-a-b c =
    let f = c.ranges in
    let t : le_z c.args.a c.args.b ≡ false = rw (to_z-of_z f.a, to_z-of_z f.b) at c.if-a-b.false in
    rw t
