use mathlib.Core.Path.{◌≡◌}
use lib.ListN.{drop}
use Rattle.bits.specs.Bits.{bytes_bits}
use Rattle.syntax.specs.SliceHeader.{any_set}
use Rattle.header.proofs.follows.any_from.Given as goal

abbrev pub invariant-loop-i : goal.invariant-loop-i
invariant-loop-i l = any_set (bytes_bits (drop l.from l.s)) ≡ any_set (bytes_bits (drop l.i l.s))
