use borrow.Author.Rules.{rules}
use native.Mathlib.Omega.{arith}
use mathlib.Core.Path.{ap, ◌∙◌}
use native.Mathlib.Nat.{mod-lt}
use lib.ListN.{length}
use lib.Pow.{pow_pos}
use Rattle.bits.proofs.Fills.{fill_start, fill-turn, fill-all}
use Rattle.bits.proofs.Puts.{length-put}
use Rattle.bits.proofs.fill.fill.Goals as goal

pub loop-left-init : goal.loop-left-init
loop-left-init c = (search rules, omega arith, fill_start _ _ _ _)

pub fill_byte-requires : goal.fill_byte-requires
fill_byte-requires c = (omega (arith, simp length-put at (ap length c.loop-left.invariant.2)), search rules, search rules, rw c.piece.ensures (mod-lt _ (pow_pos _)))

pub loop-left-preserved : goal.loop-left-preserved
loop-left-preserved c =
    let inv = c.loop-left.invariant in
    let k = c.chunk-take.ensures in
    (omega arith, omega arith, fill-turn _ _ _ _ _ _ _ _ _ k.1 inv.0 inv.1 inv.2 (rw c.piece.ensures at c.fill_byte.ensures))

pub shape_of-d : goal.shape_of-d
shape_of-d c = ap length c.loop-left.invariant.2 ∙ length-put _ _ _

pub returns : goal.returns
returns c = fill-all _ _ _ _ _ _ (omega arith) c.loop-left.invariant.2
