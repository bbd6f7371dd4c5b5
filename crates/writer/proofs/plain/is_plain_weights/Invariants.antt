use Rattle.writer.proofs.PlainLoop.{Plain}
use Rattle.writer.proofs.plain.is_plain_weights.Given as goal

abbrev pub invariant-loop-i : goal.invariant-loop-i
invariant-loop-i l = Plain l.count l.words l.i
