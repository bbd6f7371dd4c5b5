use mathlib.Core.Path.{ap₂}
use Rattle.header.specs.Lead.{table_of}
use Rattle.walk.proofs.turn.keep_set.Goals as goal

pub returns-in-Sequence : goal.returns-in-Sequence
returns-in-Sequence c = rw c.in-Sequence.is (ap₂ table_of c.put_sequence_in.ensures.1.0 c.put_sequence_in.ensures.1.1)

pub returns-in-Picture : goal.returns-in-Picture
returns-in-Picture c = rw (c.in-Picture.is, c.put_picture_in.ensures.1)

pub returns-in-Slice : goal.returns-in-Slice
returns-in-Slice c = rw c.in-Slice.is

pub returns-in-Prefix : goal.returns-in-Prefix
returns-in-Prefix c = rw c.in-Prefix.is

pub returns-in-Other : goal.returns-in-Other
returns-in-Other c = rw c.in-Other.is

pub returns-in-Refused : goal.returns-in-Refused
returns-in-Refused c = rw c.in-Refused.is
