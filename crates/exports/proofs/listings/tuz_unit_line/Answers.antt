use Rattle.std.proofs.Common.{to_z-of_z}
use Rattle.exports.proofs.listings.tuz_unit_line.Goals as goal

pub returns : goal.returns
returns c = rw (c.hear-a.ensures, to_z-of_z c.ranges.value) at c.unit_line.ensures
