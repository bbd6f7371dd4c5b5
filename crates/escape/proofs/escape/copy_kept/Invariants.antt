use Prim.Native.Nat.{◌-◌}
use lib.ListN.{length}
use Rattle.escape.specs.Known.{known_body}
use Rattle.escape.proofs.Runs.{Copied}
use Rattle.escape.proofs.escape.copy_kept.Given as goal

abbrev pub invariant-loop-scratch : goal.invariant-loop-scratch
invariant-loop-scratch l = Copied l.unit (known_body l.unit l.from l.known) l.from l.initial.scratch l.scratch l.i l.o l.seen

abbrev pub decreases-loop-scratch : goal.decreases-loop-scratch
decreases-loop-scratch l = length l.unit - l.i
