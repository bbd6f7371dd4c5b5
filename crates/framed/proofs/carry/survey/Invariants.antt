use mathlib.Core.Path.{◌≡◌}
use Prim.Native.Nat.{◌≤◌, ◌-◌}
use lib.ListN.{length, drop}
use Rattle.framed.specs.Framed.{framed_at, framed_units, end_of}
use Rattle.framed.specs.Convert.{first_uncarried}
use Rattle.framed.proofs.carry.survey.Given as goal

abbrev pub invariant-loop-place : goal.invariant-loop-place
invariant-loop-place l =
    (l.i ≤ length l.recording) × (end_of 0 (framed_units l.recording) ≡ end_of l.i (framed_at 0 l.i (drop l.i l.recording)))
    × (first_uncarried (framed_units l.recording) ≡ first_uncarried (framed_at 0 l.i (drop l.i l.recording)))

abbrev pub decreases-loop-place : goal.decreases-loop-place
decreases-loop-place l = length l.recording - l.i
