use Prim.Native.Nat.{◌<◌}
use mir.Facts.{to_z_pos}
use mir.Syntax.{w64}
use native.Mathlib.Omega.{arith}
use Rattle.framed.proofs.Steps.{over, at-end, few, fewer, at_unit}
use Rattle.framed.proofs.step.next_framed.Goals as goal

pub returns-then-n-gt-LIMIT : goal.returns-then-n-gt-LIMIT
returns-then-n-gt-LIMIT c = rw c.refuse.ensures (over c.args.recording.now c.args.from c.if-n-gt-LIMIT.true)

pub returns-then-n-from : goal.returns-then-n-from
returns-then-n-from c = at-end c.args.recording.now c.args.from (omega arith) (omega arith)

pub returns-then-left-lt4 : goal.returns-then-left-lt4
returns-then-left-lt4 c =
    let a = c.args in
    let small : a.from < 9223372036854775808 = omega arith in
    rw (c.refuse-then-left-lt4.ensures, to_z_pos w64 small) (few a.recording.now a.from (omega arith) (omega arith) (omega arith))

pub returns-then-left-size : goal.returns-then-left-size
returns-then-left-size c =
    let a = c.args in
    let small : a.from < 9223372036854775808 = omega arith in
    rw (c.refuse-then-left-size.ensures, to_z_pos w64 small) (fewer a.recording.now a.from (omega arith) (omega arith) (omega (arith, c.length_at-size.ensures)))

pub returns : goal.returns
returns c = let a = c.args in rw c.length_at-size.ensures (at_unit a.recording.now a.from (omega arith) (omega arith) (omega (arith, c.length_at-size.ensures)))
