use Rattle.std.proofs.Common.{to_z-of_z, w64, SFits, rules}
use Rattle.exports.specs.Units.{told}
use Rattle.exports.proofs.units.tell.Goals as goal

pub returns-in-Slice : goal.returns-in-Slice
unfolding told
returns-in-Slice c = rw (c.nothing-none.ensures, c.in-Slice.is)

pub returns-in-Prefix : goal.returns-in-Prefix
unfolding told
returns-in-Prefix c = rw (c.prefix_out.ensures, c.nothing-none.ensures, c.in-Prefix.is)

pub returns-in-Sequence : goal.returns-in-Sequence
unfolding told
returns-in-Sequence c = rw (c.nothing-none.ensures, c.in-Sequence.is)

pub returns-in-Picture : goal.returns-in-Picture
unfolding told
returns-in-Picture c = rw (c.nothing-none.ensures, c.in-Picture.is)

pub returns-in-Other : goal.returns-in-Other
unfolding told
returns-in-Other c = rw (c.nothing-none.ensures, c.in-Other.is)

pub returns-in-Refused : goal.returns-in-Refused
unfolding told
returns-in-Refused c =
    let f : SFits w64 c.in-Refused.why.value = search rules in
    rw (to_z-of_z f, c.nothing-none.ensures, c.in-Refused.is)
