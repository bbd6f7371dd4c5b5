use native.Mathlib.Omega.{arith}
use Rattle.weights.proofs.AtMost.{at-most-32}
use Rattle.weights.specs.WeightsLent.{emptied_weights}
use Rattle.lists.proofs.Emptied.{emptying-none, emptying-more, emptied}
use Rattle.weights.proofs.weight_words.empty_weights.Goals as goal

pub loop-k-init : goal.loop-k-init
loop-k-init c = emptying-none _ _ _ _ (omega (arith, c.at_most_32.ensures, at-most-32 c.args.count))

pub loop-k-preserved : goal.loop-k-preserved
loop-k-preserved c = emptying-more _ _ _ _ c.loop-k.invariant

pub returns : goal.returns
unfolding emptied_weights
returns c = rw (← c.at_most_32.ensures) (emptied _ _ _ _ c.loop-k.invariant (omega arith))
