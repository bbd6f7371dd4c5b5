use Prim.Native.Nat.{◌-◌, ◌≤◌}
use mathlib.Core.Path.{◌≡◌}
use Rattle.bits.specs.Bits.{bits_of}
use Rattle.parameter_sets.specs.SequenceSet.{scaling_list}
use Rattle.parameter_sets.proofs.scaling.scaling_list.Given as goal

abbrev pub invariant-loop : goal.invariant-loop
invariant-loop l = (l.last ≤ 255) × (scaling_list (l.n - l.counter) l.last l.scale (bits_of l.s) l.at.at ≡ scaling_list l.n 8 8 (bits_of l.s) l.initial.at.at)
