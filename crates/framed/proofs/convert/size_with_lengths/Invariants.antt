use mathlib.Core.Path.{◌≡◌}
use Prim.Native.Nat.{◌≤◌, ◌-◌, ◌+◌, ◌*◌}
use lib.ListN.{length, drop}
use Rattle.walk.specs.Units.{units_at, units}
use Rattle.framed.specs.Convert.{length_bytes, joined, bytes_of}
use Rattle.framed.proofs.convert.size_with_lengths.Given as goal

abbrev pub invariant-loop-u : goal.invariant-loop-u
invariant-loop-u l =
    (l.i ≤ length l.recording) × (l.o ≤ 2 * l.i) × (l.o + length (joined length_bytes (bytes_of (units_at l.i (drop l.i l.recording)))) ≡ length (joined length_bytes (bytes_of (units l.recording))))

abbrev pub decreases-loop-u : goal.decreases-loop-u
decreases-loop-u l = length l.recording - l.i
