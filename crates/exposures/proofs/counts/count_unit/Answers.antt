use Rattle.exposures.proofs.counts.count_unit.Goals as goal

pub returns-in-Redundant : goal.returns-in-Redundant
returns-in-Redundant c = rw (c.in-Redundant.is, c.one_more.ensures)

pub returns-in-Refused : goal.returns-in-Refused
returns-in-Refused c = rw (c.in-Refused.is, c.one_more-in-Refused.ensures)

pub returns-in-Prefix : goal.returns-in-Prefix
returns-in-Prefix c = rw (c.in-Prefix.is, c.one_more-in-Prefix.ensures)

pub returns-in-View : goal.returns-in-View
returns-in-View c = rw (c.in-View.is, c.one_more-in-View.ensures)

pub returns-in-Other : goal.returns-in-Other
returns-in-Other c = rw (c.in-Other.is, c.one_more-in-Other.ensures)
