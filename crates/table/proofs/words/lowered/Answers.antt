use mathlib.Core.Path.{◌≡◌}
use native.Mathlib.Omega.{arith}
use borrow.Author.Rules.{sfits_of}
use lib.IntN.{pos, ◌-ℤ◌}
use mir.Facts.{to_z_pos, to_z-of_z}
use mir.Syntax.{w32}
use mir.Val.{SFits, to_z}
use Rattle.table.proofs.Signs.{lowered-mag}
use Rattle.table.proofs.words.lowered.Goals as goal

fits : (c : goal.Start) → SFits w32 (pos c.args.w -ℤ pos c.args.by)
fits c = sfits_of (omega (arith, lowered-mag c.args.w c.args.by))

pub overflow_sub-result : goal.overflow_sub-result
overflow_sub-result c =
    let w : to_z w32 c.args.w ≡ pos c.args.w = to_z_pos w32 (omega arith) in
    let by : to_z w32 c.args.by ≡ pos c.args.by = to_z_pos w32 (omega arith) in
    rw (w, by) (fits c)

pub returns : goal.returns
returns c =
    let w : to_z w32 c.args.w ≡ pos c.args.w = to_z_pos w32 (omega arith) in
    let by : to_z w32 c.args.by ≡ pos c.args.by = to_z_pos w32 (omega arith) in
    rw (w, by, to_z-of_z (fits c))
