use Prim.Native.Nat.{suc, ◌+◌, ◌-◌}
use mathlib.Core.Path.{◌≡◌}
use native.Mathlib.Omega.{arith}
use borrow.Author.Rules.{rules}
use Rattle.fmt.specs.Leaves.{ue}
use Rattle.fmt.specs.Reads.{next, passes}
use Rattle.parameter_sets.proofs.codes.pass_codes.Goals as goal

pub loop-preserved : goal.loop-preserved
unfolding ue next passes
loop-preserved c = let k : c.args.n - c.loop.counter ≡ suc (c.args.n - (c.loop.counter + 1)) = omega (arith, c.loop-test.true) in search rules
