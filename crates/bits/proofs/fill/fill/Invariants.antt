use mathlib.Core.Path.{◌≡◌}
use Prim.Native.Nat.{◌+◌, ◌-◌, ◌/◌, ◌^◌, ◌≤◌}
use Rattle.bits.specs.Bits.{digits}
use Rattle.bits.specs.Put.{put_bits}
use Rattle.bits.proofs.fill.fill.Given as goal

abbrev pub invariant-loop-left : goal.invariant-loop-left
invariant-loop-left l = (l.left ≤ l.n) × (l.p ≡ l.at + (l.n - l.left)) × (l.d ≡ put_bits l.initial.d l.at (digits (l.n - l.left) (l.v / 2 ^ l.left)))

abbrev pub decreases-loop-left : goal.decreases-loop-left
decreases-loop-left l = l.left
