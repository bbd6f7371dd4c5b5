use borrow.Author.Tests.{eq-eqb, ne_eqb}
use Rattle.unit.specs.Begin.{extended}
use Rattle.unit.proofs.begin.extended.Goals as goal

pub returns-then-type_id-eq14 : goal.returns-then-type_id-eq14
unfolding extended
returns-then-type_id-eq14 c = rw (c.prefix_kind.ensures, ← c.type_id.ensures, eq-eqb _ _ c.if-type_id-eq14.true)

pub returns : goal.returns
unfolding extended
returns c = rw (c.kind_of.ensures, ← c.type_id.ensures, ne_eqb _ _ c.if-type_id-eq14.false)
