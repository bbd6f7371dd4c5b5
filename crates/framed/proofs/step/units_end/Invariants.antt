use mathlib.Core.Path.{◌≡◌}
use Prim.Native.Nat.{◌-◌}
use lib.ListN.{length, drop}
use Rattle.framed.specs.Framed.{framed_at, end_of}
use Rattle.framed.proofs.step.units_end.Given as goal

abbrev pub invariant-loop-next : goal.invariant-loop-next
invariant-loop-next l = end_of l.from (framed_at 0 l.from (drop l.from l.recording)) ≡ end_of l.i (framed_at 0 l.i (drop l.i l.recording))

abbrev pub decreases-loop-next : goal.decreases-loop-next
decreases-loop-next l = length l.recording - l.i
