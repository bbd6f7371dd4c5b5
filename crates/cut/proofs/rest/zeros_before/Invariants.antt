use Prim.Native.Nat.{◌≤◌}
use mathlib.Core.Path.{◌≡◌}
use lib.ListN.{take, drop}
use Rattle.cut.specs.Seam.{zeros_over}
use Rattle.cut.proofs.rest.zeros_before.Given as goal

abbrev pub invariant-loop-i : goal.invariant-loop-i
invariant-loop-i l = (zeros_over 0 (drop l.from (take l.to l.unit)) ≡ zeros_over l.z (drop l.i (take l.to l.unit))) × (l.z ≤ l.i) × (l.z ≤ l.to)
