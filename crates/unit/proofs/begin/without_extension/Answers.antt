use borrow.Author.Tests.{eq-eqb, ne_eqb}
use Rattle.unit.proofs.begin.without_extension.Goals as goal

pub returns-then-t-eq7 : goal.returns-then-t-eq7
returns-then-t-eq7 c = rw (eq-eqb _ _ c.if-t-eq7.true)

pub returns-then-t-eq8 : goal.returns-then-t-eq8
returns-then-t-eq8 c = rw (ne_eqb _ _ c.if-t-eq7.false, eq-eqb _ _ c.if-t-eq8.true)

pub returns : goal.returns
returns c = rw (ne_eqb _ _ c.if-t-eq7.false, ne_eqb _ _ c.if-t-eq8.false)
