use Rattle.stacking.proofs.item.item_of.Goals as goal

pub returns-in-Slice : goal.returns-in-Slice
returns-in-Slice c = rw (c.header_item.ensures, c.in-Slice.is)

pub returns-in-Prefix : goal.returns-in-Prefix
returns-in-Prefix c = rw c.in-Prefix.is

pub returns-in-Sequence : goal.returns-in-Sequence
returns-in-Sequence c = rw c.in-Sequence.is

pub returns-in-Picture : goal.returns-in-Picture
returns-in-Picture c = rw c.in-Picture.is

pub returns-in-Other : goal.returns-in-Other
returns-in-Other c = rw c.in-Other.is

pub returns-in-Refused : goal.returns-in-Refused
returns-in-Refused c = rw c.in-Refused.is
