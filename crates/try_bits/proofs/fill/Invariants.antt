use mathlib.Core.Path.{◌≡◌}
use Prim.Native.Nat.{◌≤◌, ◌-◌}
use lib.ListN.{length}
use Rattle.try_bits.proofs.fill.Given as goal

abbrev pub invariant-loop-done : goal.invariant-loop-done
invariant-loop-done o l = (length l.d ≡ length l.initial.d) × (l.done ≤ length l.d)

abbrev pub decreases-loop-done : goal.decreases-loop-done
decreases-loop-done o l = length l.d - l.done
