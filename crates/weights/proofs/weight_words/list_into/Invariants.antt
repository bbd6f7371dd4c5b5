use Rattle.bits.specs.Bits.{bits_of}
use Rattle.weights.proofs.Stored.{Stored}
use Rattle.weights.proofs.weight_words.list_into.Given as goal

abbrev pub invariant-loop-i : goal.invariant-loop-i
invariant-loop-i l = Stored l.chroma l.count (bits_of l.s) l.initial.at.at l.initial.words l.words l.i l.at.at
