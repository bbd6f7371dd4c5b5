use borrow.Author.Tests.{eq-eqb, ne_eqb}
use borrow.Author.Rules.{rules}
use Rattle.cut.proofs.rest.zeros_after.Goals as goal

pub returns-then-a-eq0 : goal.returns-then-a-eq0
returns-then-a-eq0 c = rw (eq-eqb c.args.a 0 c.if-a-eq0.true) (search rules)

pub returns-else-a-eq0 : goal.returns-else-a-eq0
returns-else-a-eq0 c = rw (ne_eqb c.args.a 0 c.if-a-eq0.false)
