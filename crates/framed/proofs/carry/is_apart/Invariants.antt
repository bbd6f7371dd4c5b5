use Prim.Native.Nat.{◌+◌, ◌<◌}
use Rattle.scan.specs.Clear.{Clear}
use Rattle.framed.proofs.carry.is_apart.Given as goal

abbrev pub invariant-loop-k : goal.invariant-loop-k
invariant-loop-k l = 0 < l.m → Clear 0 0 l.unit l.from (l.from + l.k)
