use mathlib.Core.Path.{◌≡◌, ap, ◌∙◌}
use Prim.Native.Nat.{◌+◌, ◌/◌, ◌%◌}
use native.Mathlib.Omega.{arith}
use lib.IntN.{pos}
use mir.Facts.{to_z_pos}
use mir.Syntax.{w64}
use Rattle.bits.proofs.put.bytes_for.Goals as goal

pub returns : goal.returns
returns c =
    let a = c.args in
    let e : a.at / 8 + (a.at % 8 + a.n + 7) / 8 ≡ (a.at + a.n + 7) / 8 = omega arith in
    to_z_pos w64 (omega arith) ∙ ap pos e
