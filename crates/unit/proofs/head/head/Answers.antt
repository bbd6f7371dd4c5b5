use borrow.Author.Tests.{le-leb, lt-leb}
use Rattle.unit.specs.Head.{head_of}
use Rattle.unit.proofs.head.head.Goals as goal

pub returns-then-unit-gt-LIMIT : goal.returns-then-unit-gt-LIMIT
unfolding head_of
returns-then-unit-gt-LIMIT c = rw (c.refuse.ensures, lt-leb _ _ c.if-unit-gt-LIMIT.true)

pub returns-in-Ok : goal.returns-in-Ok
unfolding head_of
returns-in-Ok c = rw (c.head_typed.ensures, le-leb _ _ c.if-unit-gt-LIMIT.false, ← c.header_of.ensures, c.in-Ok.is)

pub returns-in-Err : goal.returns-in-Err
unfolding head_of
returns-in-Err c = rw (le-leb _ _ c.if-unit-gt-LIMIT.false, ← c.header_of.ensures, c.in-Err.is)
