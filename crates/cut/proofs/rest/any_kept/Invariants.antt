use Prim.Native.Nat.{◌≤◌}
use mathlib.Core.Path.{◌≡◌}
use lib.ListN.{drop}
use Rattle.bits.specs.Bits.{bytes_bits}
use Rattle.escape.specs.Body.{body}
use Rattle.syntax.specs.SliceHeader.{any_set}
use Rattle.cut.proofs.rest.any_kept.Given as goal

abbrev pub invariant-loop-i : goal.invariant-loop-i
invariant-loop-i l = (any_set (bytes_bits (body l.z (drop l.from l.unit))) ≡ any_set (bytes_bits (body l.zeros (drop l.i l.unit)))) × (l.zeros ≤ l.i)
