use Rattle.stacking.proofs.item.is_redundant.Goals as goal

pub returns-then-m : goal.returns-then-m
returns-then-m c = rw c.if-m.true
