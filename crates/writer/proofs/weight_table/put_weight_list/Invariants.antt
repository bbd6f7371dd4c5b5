use mathlib.Core.Path.{◌≡◌}
use lib.ListN.{length}
use Rattle.writer.proofs.WeightLoop.{Weighing}
use Rattle.writer.proofs.weight_table.put_weight_list.Given as goal

abbrev pub invariant-loop-i : goal.invariant-loop-i
invariant-loop-i l = (length l.d ≡ length l.initial.d) × ((l.count ≡ l.n) × Weighing l.chroma l.count l.words l.initial.d l.initial.at.at l.i l.d l.at.at)
