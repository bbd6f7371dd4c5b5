use Rattle.lists.proofs.Emptied.{Emptying}
use Rattle.lists.proofs.list_words.empty_list.Given as goal

abbrev pub invariant-loop-k : goal.invariant-loop-k
invariant-loop-k l = Emptying 0 198 l.initial.words l.end l.words l.k
