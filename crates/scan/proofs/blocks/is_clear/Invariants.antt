use Prim.Native.Nat.{◌+◌, ◌<◌}
use Rattle.scan.specs.Clear.{Clear}
use Rattle.scan.proofs.blocks.is_clear.Given as goal

abbrev pub invariant-loop-k : goal.invariant-loop-k
invariant-loop-k l = 0 < l.m → Clear l.mask l.flip l.s l.i (l.i + l.k)
