use native.Mathlib.Omega.{arith}
use mathlib.Core.Path.{◌≡◌, refl}
use mathlib.Core.List.{List}
use Prim.Native.Nat.{ℕ, ◌*◌, ◌^◌, ◌%◌}
use lib.Bits.{bit_or}
use Rattle.bits.specs.Windows.{bits_at}
use Rattle.bits.proofs.Windows.{or-first, or-next, or-last, under}
use Rattle.bits.proofs.window.four.Goals as goal

-- the four bytes side by side
joined : (c : goal.After-one-4)
    → let a = c.args in
    bit_or (bit_or (bit_or ((c.one.result * 2 ^ 24) % 2 ^ 64) ((c.one-2.result * 2 ^ 16) % 2 ^ 64)) ((c.one-3.result * 2 ^ 8) % 2 ^ 64)) c.one-4.result
    ≡ bits_at a.s.now (8 * a.i) 32
joined c =
    let p : ℕ = 8 * c.args.i in
    let s : List ℕ = c.args.s.now in
    let a1 = or-first s p 8 24 c.one.result (omega arith) c.one.ensures in
    let a2 = or-next s p _ 8 8 16 24 _ _ (omega arith) refl (omega arith) a1 c.one-2.ensures in
    let a3 = or-next s p _ 16 8 8 16 _ _ (omega arith) refl (omega arith) a2 c.one-3.ensures in
    or-last s p _ 24 8 _ _ (omega arith) a3 c.one-4.ensures

pub overflow_cast-result : goal.overflow_cast-result
overflow_cast-result c = record { fits = under _ _ 32 _ (joined c) }

pub returns : goal.returns
returns c = joined c
