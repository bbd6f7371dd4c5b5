use mathlib.Core.Path.{◌≡◌}
use lib.ListN.{length}
use Rattle.writer.proofs.OperationLoop.{Listing}
use Rattle.writer.proofs.operations.put_operations.Given as goal

abbrev pub invariant-loop-i : goal.invariant-loop-i
invariant-loop-i l = (length l.d ≡ length l.initial.d) × Listing l.kind l.count l.words l.initial.d l.initial.at.at l.i l.d l.at.at
