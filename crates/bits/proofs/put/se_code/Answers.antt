use mathlib.Core.Path.{◌≡◌, ◌∙◌, ap}
use Prim.Native.Nat.{ℕ, ◌<◌, ◌^◌, ◌-◌}
use native.Mathlib.Omega.{arith}
use borrow.Author.Rules.{rules}
use lib.IntN.{nat_abs, ◌-ℤ◌, pos}
use mir.Facts.{to_z-of_z}
use mir.Syntax.{w32}
use mir.Val.{to_z, of_z}
use Rattle.bits.specs.Codes.{se_code}
use Rattle.bits.proofs.SeCodes.{Above, above, Below, below, code-small}
use Rattle.bits.proofs.put.se_code.Goals as goal
use Rattle.bits.proofs.put.se_code.Goals.{Start, Then-v-gt0, Else-v-gt0}

-- the number read back from its bits, and its bound
back : (c : Start) → to_z w32 (of_z w32 c.args.v) ≡ c.args.v
back c = search rules

bound : (c : Start) → nat_abs (to_z w32 (of_z w32 c.args.v)) < 2 ^ 31
bound c = rw (back c) c.requires

up : (c : Then-v-gt0) → Above (to_z w32 (of_z w32 c.args.v))
up c = above _ c.if-v-gt0.true

down : (c : Else-v-gt0) → Below (to_z w32 (of_z w32 c.args.v))
down c = below _ c.if-v-gt0.false (bound c.before)

back-down : (c : Else-v-gt0) → let z = to_z w32 (of_z w32 c.args.v) in to_z w32 (of_z w32 (pos 0 -ℤ z)) ≡ pos 0 -ℤ z
back-down c = to_z-of_z (down c).fits

-- a code number is below 2^32 - 1
answer : (c : Start) (r : ℕ) → r ≡ se_code (to_z w32 (of_z w32 c.args.v)) → (r ≡ se_code c.args.v) × (r < 2 ^ 32 - 1)
answer c r e = let q : r ≡ se_code c.args.v = e ∙ ap se_code (back c) in (q, rw q (code-small c.args.v c.requires))

pub overflow_cast-result : goal.overflow_cast-result
overflow_cast-result c = ((up c).sign, omega (arith, bound c.before))

pub overflow_mul-result : goal.overflow_mul-result
overflow_mul-result c = omega (arith, bound c.before)

pub overflow_sub-result : goal.overflow_sub-result
overflow_sub-result c = omega (arith, (up c).some)

pub overflow_sub-result-else-v-gt0 : goal.overflow_sub-result-else-v-gt0
overflow_sub-result-else-v-gt0 c = (down c).fits

pub overflow_cast-result-else-v-gt0 : goal.overflow_cast-result-else-v-gt0
overflow_cast-result-else-v-gt0 c = rw (back-down c) ((down c).sign, omega (arith, (down c).small))

pub overflow_mul-result-else-v-gt0 : goal.overflow_mul-result-else-v-gt0
overflow_mul-result-else-v-gt0 c = rw (back-down c) (omega (arith, (down c).small))

pub returns-then-v-gt0 : goal.returns-then-v-gt0
returns-then-v-gt0 c = answer c.before _ (up c).number

pub returns-else-v-gt0 : goal.returns-else-v-gt0
returns-else-v-gt0 c = answer c.before _ (rw (back-down c) (down c).number)
