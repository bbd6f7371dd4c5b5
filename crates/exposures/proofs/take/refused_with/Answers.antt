use Rattle.exposures.proofs.take.refused_with.Goals as goal

pub returns-in-Redundant : goal.returns-in-Redundant
returns-in-Redundant c = rw c.in-Redundant.is

pub returns-in-Refused : goal.returns-in-Refused
returns-in-Refused c = rw (c.in-Refused.is, c.one_more.ensures)

pub returns-in-Prefix : goal.returns-in-Prefix
returns-in-Prefix c = rw c.in-Prefix.is

pub returns-in-View : goal.returns-in-View
returns-in-View c = rw c.in-View.is

pub returns-in-Other : goal.returns-in-Other
returns-in-Other c = rw c.in-Other.is
