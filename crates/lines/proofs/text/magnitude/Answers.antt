use borrow.Author.Rules.{rules}
use native.Mathlib.Omega.{arith}
use lib.IntN.{pos, nat_abs, ◌+ℤ◌}
use mir.Facts.{to_z-of_z}
use mir.Syntax.{w64}
use mir.Val.{SFits}
use Rattle.lines.proofs.Magnitudes.{Turns, negative, not_negative}
use Rattle.lines.proofs.text.magnitude.Goals as goal

-- the number is below zero
below : (c : goal.Then-z-lt0) → Turns (nat_abs c.args.z) (c.args.z +ℤ pos 1)
below c =
    let f : SFits w64 c.args.z = search rules in
    negative c.args.z f (rw (to_z-of_z f) at c.if-z-lt0.true)

pub overflow_add-result : goal.overflow_add-result
overflow_add-result c =
    let f : SFits w64 c.args.z = search rules in
    rw (to_z-of_z f) (below c).plus

pub overflow_sub-result : goal.overflow_sub-result
overflow_sub-result c =
    let f : SFits w64 c.args.z = search rules in
    rw (to_z-of_z f, to_z-of_z (below c).plus) (below c).minus

pub overflow_cast-result : goal.overflow_cast-result
overflow_cast-result c =
    let f : SFits w64 c.args.z = search rules in
    rw (to_z-of_z f, to_z-of_z (below c).plus, to_z-of_z (below c).minus) ((below c).sign, record { fits = omega (arith, (below c).small) })

pub overflow_add-result-then-z-lt0 : goal.overflow_add-result-then-z-lt0
overflow_add-result-then-z-lt0 c =
    let f : SFits w64 c.args.z = search rules in
    rw (to_z-of_z f, to_z-of_z (below c).plus, to_z-of_z (below c).minus) (record { fits = omega (arith, (below c).small) })

pub overflow_cast-result-else-z-lt0 : goal.overflow_cast-result-else-z-lt0
overflow_cast-result-else-z-lt0 c =
    let f : SFits w64 c.args.z = search rules in
    rw (to_z-of_z f) (not_negative c.args.z f (rw (to_z-of_z f) at c.if-z-lt0.false))

pub returns-then-z-lt0 : goal.returns-then-z-lt0
returns-then-z-lt0 c =
    let f : SFits w64 c.args.z = search rules in
    rw (to_z-of_z f, to_z-of_z (below c).plus, to_z-of_z (below c).minus) (below c).size

pub returns-else-z-lt0 : goal.returns-else-z-lt0
returns-else-z-lt0 c = let f : SFits w64 c.args.z = search rules in rw (to_z-of_z f)
