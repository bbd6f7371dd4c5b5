use mathlib.Core.Path.{◌≡◌, ap, sym}
use native.Mathlib.Omega.{arith}
use borrow.Author.Rules.{rules, sfits_of}
use lib.IntN.{pos, nat_abs, ◌+ℤ◌}
use mir.Facts.{to_z_pos, to_z-of_z}
use mir.Syntax.{w32}
use mir.Val.{SFits, to_z, of_z}
use Rattle.table.proofs.Signs.{Raised, raised}
use Rattle.table.proofs.words.raised.Goals as goal

up : (c : goal.Start) → Raised c.args.by c.args.z
up c = raised c.args.by c.args.z c.requires.0

-- the sum as the machine has it
sum : (c : goal.Start) → to_z w32 (of_z w32 c.args.z) +ℤ to_z w32 c.args.by ≡ pos (up c).word
sum c =
    let z : SFits w32 c.args.z = search rules in
    let by : to_z w32 c.args.by ≡ pos c.args.by = to_z_pos w32 (omega arith) in
    rw (to_z-of_z z, by) (up c).is

pub overflow_add-result : goal.overflow_add-result
overflow_add-result c = rw (sum c) (sfits_of (omega (arith, (up c).most)))

pub overflow_cast-result-2 : goal.overflow_cast-result-2
overflow_cast-result-2 c =
    let e : to_z w32 (up c).word ≡ pos (up c).word = to_z_pos w32 (omega (arith, (up c).most)) in
    rw (sum c, e) (tt, record { fits = omega (arith, (up c).most) })

pub returns : goal.returns
returns c =
    let e : to_z w32 (up c).word ≡ pos (up c).word = to_z_pos w32 (omega (arith, (up c).most)) in
    rw (sum c, e) (sym (ap nat_abs (up c).is))
