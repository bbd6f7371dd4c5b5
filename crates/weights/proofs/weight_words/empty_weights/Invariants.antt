use lib.IntN.{pos}
use Rattle.lists.proofs.Emptied.{Emptying}
use Rattle.weights.proofs.weight_words.empty_weights.Given as goal

abbrev pub invariant-loop-k : goal.invariant-loop-k
invariant-loop-k l = Emptying (pos 0) 256 l.initial.words l.end l.words l.k
