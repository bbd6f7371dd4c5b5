use native.Mathlib.Omega.{arith}
use mathlib.Core.Path.{◌≡◌}
use Prim.Native.Nat.{ℕ, zero, suc, ◌%◌, ◌^◌, ◌<◌}
use lib.Dec.{lit<}
use lib.IntN.{pos, neg_ℤ, ◌-ℤ◌, +ℤ_idl}
use mir.Syntax.{w32}
use mir.Val.{SFits, to_z}
use mir.Facts.{to_z_pos}
use Rattle.try_writer.proofs.words.signed_of.Goals as goal

-- the machine's 0 - n is -n, which fits
neg-fits : (n : ℕ) → n < 2 ^ 31 → SFits w32 (neg_ℤ (pos n))
neg-fits zero h = record { sfits = lit< tt }
neg-fits (suc n) h = record { sfits = omega arith }

negated : (n : ℕ) → n < 2 ^ 31 → pos 0 -ℤ to_z w32 n ≡ neg_ℤ (pos n)
negated n h = rw (to_z_pos w32 h) (+ℤ_idl (neg_ℤ (pos n)))

pub overflow_sub-result : goal.overflow_sub-result
overflow_sub-result c =
    let h : c.args.size % 2147483648 < 2 ^ 31 = omega arith in
    rw (negated (c.args.size % 2147483648) h) (neg-fits _ h)
