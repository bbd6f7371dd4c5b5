use Prim.Native.Nat.{◌≤◌, ◌-◌}
use lib.ListN.{length, drop}
use Rattle.framed.specs.Framed.{framed_at, framed_units}
use Rattle.framed.specs.Convert.{start_code, joined, bytes_of}
use Rattle.framed.proofs.Fills.{Filled}
use Rattle.framed.proofs.convert.put_codes.Given as goal

abbrev pub invariant-loop-place : goal.invariant-loop-place
invariant-loop-place l = (l.i ≤ length l.recording) × Filled (joined start_code (bytes_of (framed_units l.recording))) l.initial.out l.out l.o (joined start_code (bytes_of (framed_at 0 l.i (drop l.i l.recording))))

abbrev pub decreases-loop-place : goal.decreases-loop-place
decreases-loop-place l = length l.recording - l.i
