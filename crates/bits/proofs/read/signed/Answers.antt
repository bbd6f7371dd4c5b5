use native.Mathlib.Omega.{arith}
use mathlib.Core.Path.{◌≡◌, ◌∙◌}
use Prim.Native.Nat.{ℕ, zero, suc, ◌+◌, ◌/◌, ◌^◌, ◌<◌}
use borrow.Author.Tests.{eq-eqb, ne_eqb}
use lib.Dec.{lit<}
use lib.IntN.{pos, neg_ℤ, ◌-ℤ◌, +ℤ_idl}
use mir.Syntax.{w32}
use mir.Val.{SFits, to_z}
use mir.Facts.{to_z_pos, to_z-of_z}
use Rattle.bits.specs.Codes.{se_of}
use Rattle.bits.proofs.read.signed.Goals as goal

-- the machine's 0 - n is -n, which fits
neg-fits : (n : ℕ) → n < 2 ^ 31 → SFits w32 (neg_ℤ (pos n))
neg-fits zero h = record { sfits = lit< tt }
neg-fits (suc n) h = record { sfits = omega arith }

negated : (n : ℕ) → n < 2 ^ 31 → pos 0 -ℤ to_z w32 n ≡ neg_ℤ (pos n)
negated n h = rw (to_z_pos w32 h) (+ℤ_idl (neg_ℤ (pos n)))

pub overflow_sub-result : goal.overflow_sub-result
overflow_sub-result c = let h : c.args.k / 2 < 2 ^ 31 = omega arith in rw (negated (c.args.k / 2) h) (neg-fits _ h)

pub returns-then-k-eq1 : goal.returns-then-k-eq1
unfolding se_of
returns-then-k-eq1 c =
    let k = c.args.k in
    let h : k / 2 + 1 < 2 ^ 31 = omega arith in
    let e : k / 2 + 1 ≡ (k + 1) / 2 = omega arith in
    to_z_pos w32 h ∙ rw (e, eq-eqb _ _ c.if-k-eq1.true)

pub returns-else-k-eq1 : goal.returns-else-k-eq1
unfolding se_of
returns-else-k-eq1 c =
    let k = c.args.k in
    let h : k / 2 < 2 ^ 31 = omega arith in
    rw (negated (k / 2) h) (to_z-of_z (neg-fits _ h) ∙ rw (ne_eqb _ _ c.if-k-eq1.false))
