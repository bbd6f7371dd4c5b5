use mathlib.Core.Path.{◌≡◌}
use Prim.Native.Nat.{◌≤◌, ◌-◌}
use lib.ListN.{length}
use Rattle.listing.proofs.print.Given as goal

abbrev pub invariant-loop-state : goal.invariant-loop-state
invariant-loop-state o l =
    (length l.scratch ≡ length l.initial.scratch) × (length l.line ≡ 128) × (l.state.from ≤ length l.recording)

abbrev pub decreases-loop-state : goal.decreases-loop-state
decreases-loop-state o l = length l.recording - l.state.from
