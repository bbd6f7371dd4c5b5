use Rattle.exposures.proofs.counts.count.Goals as goal

pub returns-in-Slice : goal.returns-in-Slice
returns-in-Slice c = rw (c.in-Slice.is, c.one_more.ensures)

pub returns-in-Unit : goal.returns-in-Unit
returns-in-Unit c = rw (c.in-Unit.is, c.count_unit.ensures)
