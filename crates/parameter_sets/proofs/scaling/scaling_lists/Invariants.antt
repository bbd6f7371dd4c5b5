use Prim.Native.Nat.{◌-◌}
use mathlib.Core.Path.{◌≡◌}
use Rattle.bits.specs.Bits.{bits_of}
use Rattle.parameter_sets.specs.SequenceSet.{scaling_lists}
use Rattle.parameter_sets.proofs.scaling.scaling_lists.Given as goal

abbrev pub invariant-loop-i : goal.invariant-loop-i
invariant-loop-i l = scaling_lists (l.n - l.i) l.i (bits_of l.s) l.at.at ≡ scaling_lists l.n 0 (bits_of l.s) l.initial.at.at
