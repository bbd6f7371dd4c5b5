use mathlib.Core.Path.{sym, ap}
use Prim.Native.Nat.{◌<◌}
use lib.ListN.{length}
use mir.Facts.{to_z_pos}
use mir.Syntax.{w64}
use native.Mathlib.Omega.{arith}
use Rattle.escape.proofs.Bodies.{answered, leaves, known-large, known-short, known-done}
use Rattle.escape.proofs.escape.unescape_known.Goals as goal

pub returns-then-n-gt-LIMIT : goal.returns-then-n-gt-LIMIT
returns-then-n-gt-LIMIT c =
    let a = c.args in
    let e = known-large a.unit.now a.from a.known a.scratch.now (omega arith) in
    record { value = rw c.refuse.ensures (sym (ap answered e)); scratch_after = sym (ap leaves e) }

pub returns-then-scratch-n : goal.returns-then-scratch-n
returns-then-scratch-n c =
    let a = c.args in
    let e = known-short a.unit.now a.from a.known a.scratch.now (omega arith) (omega arith) in
    let small : length a.unit.now < 9223372036854775808 = omega arith in
    record { value = rw (c.refuse-then-scratch-n.ensures, to_z_pos w64 small) (sym (ap answered e)); scratch_after = sym (ap leaves e) }

pub returns : goal.returns
returns c =
    let a = c.args in
    let k = c.copy_kept in
    let e = known-done a.unit.now a.from a.known a.scratch.now (omega arith) (omega arith) in
    record { value = rw k.ensures.value (sym (ap answered e)); scratch_after = rw (k.ensures.scratch_after, k.ensures.value) (sym (ap leaves e)) }
