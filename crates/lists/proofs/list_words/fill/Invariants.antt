use Prim.Native.Nat.{◌-◌}
use Rattle.bits.specs.Bits.{bits_of}
use Rattle.lists.proofs.Reading.{Reading}
use Rattle.lists.proofs.list_words.fill.Given as goal

abbrev pub invariant-loop-code : goal.invariant-loop-code
invariant-loop-code l = Reading l.kind (bits_of l.s) l.initial.at.at l.initial.words l.words l.count l.at.at

abbrev pub decreases-loop-code : goal.decreases-loop-code
decreases-loop-code l = 67 - l.count
