use Rattle.table.proofs.words.cycle_width.Goals as goal

pub returns-in-Some : goal.returns-in-Some
returns-in-Some c = rw (c.in-Some.is, c.change_cycle_width.ensures)
