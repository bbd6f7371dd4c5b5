use borrow.Author.Tests.{le-leb, lt-leb}
use mathlib.Core.Path.{refl}
use Prim.Native.Nat.{◌+◌, ◌≤◌, ◌<◌}
use native.Mathlib.Omega.{arith}
use lib.ListN.{length}
use Rattle.bits.specs.Copy.{copied}
use Rattle.bits.proofs.copy.copy_in.Goals as goal

pub returns-then-m-n : goal.returns-then-m-n
unfolding copied
returns-then-m-n c =
    let a = c.args in
    let full : length a.dst.now < a.at + length a.src.now = omega arith in
    rw (lt-leb _ _ full) record { value = refl; dst_after = refl }

pub returns : goal.returns
unfolding copied
returns c =
    let a = c.args in
    let room : a.at + length a.src.now ≤ length a.dst.now = omega arith in
    rw (le-leb _ _ room) record { value = c.copy_all.ensures.value; dst_after = c.copy_all.ensures.dst_after }
