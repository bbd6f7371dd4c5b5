use native.Mathlib.Omega.{arith}
use Rattle.lists.specs.ListsLent.{emptied_list}
use Rattle.lists.proofs.Emptied.{emptying-none, emptying-more, emptied, at-most-66}
use Rattle.lists.proofs.list_words.empty_list.Goals as goal

pub loop-k-init : goal.loop-k-init
loop-k-init c = emptying-none _ _ _ _ (omega (arith, c.at_most_66.ensures, at-most-66 c.args.count))

pub loop-k-preserved : goal.loop-k-preserved
loop-k-preserved c = emptying-more _ _ _ _ c.loop-k.invariant

pub returns : goal.returns
unfolding emptied_list
returns c = rw (← c.at_most_66.ensures) (emptied _ _ _ _ c.loop-k.invariant (omega arith))
