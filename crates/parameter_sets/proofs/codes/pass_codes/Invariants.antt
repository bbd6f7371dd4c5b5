use Prim.Native.Nat.{◌-◌}
use mathlib.Core.Path.{◌≡◌}
use Rattle.bits.specs.Bits.{bits_of}
use Rattle.fmt.specs.Leaves.{ue}
use Rattle.fmt.specs.Reads.{passes}
use Rattle.parameter_sets.proofs.codes.pass_codes.Given as goal

abbrev pub invariant-loop : goal.invariant-loop
invariant-loop l = passes (l.n - l.counter) ue.read (bits_of l.s) l.at.at ≡ passes l.n ue.read (bits_of l.s) l.initial.at.at
