use Rattle.record.specs.Record.{header_from}
use Rattle.stacking.specs.Item.{header_item}
use Rattle.stacking.proofs.item.header_item.Goals as goal

pub returns-then-not-is_plain : goal.returns-then-not-is_plain
unfolding header_item
returns-then-not-is_plain c = rw (← c.is_plain.ensures, c.if-not-is_plain.true)

pub returns-then-is_redundant : goal.returns-then-is_redundant
unfolding header_item header_from
returns-then-is_redundant c = rw (← c.is_plain.ensures, c.if-not-is_plain.false, ← c.order_count_of-o.ensures, ← c.is_redundant.ensures, c.if-is_redundant.true)

pub returns : goal.returns
unfolding header_item header_from
returns c = rw (c.slice_of.ensures, ← c.is_plain.ensures, c.if-not-is_plain.false, ← c.order_count_of-o.ensures, ← c.is_redundant.ensures, c.if-is_redundant.false)
