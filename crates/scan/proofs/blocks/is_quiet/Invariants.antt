use mathlib.Core.Path.{◌≡◌}
use Rattle.scan.specs.Clear.{Quiet}
use Rattle.scan.proofs.blocks.is_quiet.Given as goal

abbrev pub invariant-loop-k : goal.invariant-loop-k
invariant-loop-k l = l.m ≡ 0 → Quiet l.s l.i l.k
