use native.Mathlib.Omega.{arith}
use mathlib.Core.Path.{refl}
use mathlib.Core.List.{List}
use Prim.Native.Nat.{ℕ, ◌*◌}
use Rattle.bits.proofs.Windows.{or-first, or-next, or-last}
use Rattle.bits.proofs.window.eight.Goals as goal

pub returns : goal.returns
returns c =
    let p : ℕ = 8 * c.args.i in
    let s : List ℕ = c.args.s.now in
    let a1 = or-first s p 8 56 c.one.result (omega arith) c.one.ensures in
    let a2 = or-next s p _ 8 8 48 56 _ _ (omega arith) refl (omega arith) a1 c.one-2.ensures in
    let a3 = or-next s p _ 16 8 40 48 _ _ (omega arith) refl (omega arith) a2 c.one-3.ensures in
    let a4 = or-next s p _ 24 8 32 40 _ _ (omega arith) refl (omega arith) a3 c.one-4.ensures in
    let a5 = or-next s p _ 32 8 24 32 _ _ (omega arith) refl (omega arith) a4 c.one-5.ensures in
    let a6 = or-next s p _ 40 8 16 24 _ _ (omega arith) refl (omega arith) a5 c.one-6.ensures in
    let a7 = or-next s p _ 48 8 8 16 _ _ (omega arith) refl (omega arith) a6 c.one-7.ensures in
    or-last s p _ 56 8 _ _ (omega arith) a7 c.one-8.ensures
