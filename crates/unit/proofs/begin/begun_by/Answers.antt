use Rattle.unit.specs.Begin.{begun_by}
use Rattle.unit.proofs.begin.begun_by.Goals as goal

pub returns-then-either : goal.returns-then-either
unfolding begun_by
returns-then-either c = rw (c.kind_of.ensures, c.absent_extension.ensures, ← c.type_id-t.ensures, ← c.either.ensures, c.if-either.true)

pub returns-then-not-has_extension : goal.returns-then-not-has_extension
unfolding begun_by
returns-then-not-has_extension c = rw (c.without_extension.ensures, ← c.type_id-t.ensures, ← c.either.ensures, c.if-either.false, ← c.has_extension.ensures, c.if-not-has_extension.true)

pub returns : goal.returns
unfolding begun_by
returns c = rw (c.extended.ensures, c.from_bytes.ensures, ← c.type_id-t.ensures, ← c.either.ensures, c.if-either.false, ← c.has_extension.ensures, c.if-not-has_extension.false)
