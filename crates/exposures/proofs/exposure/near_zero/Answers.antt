use mir.Facts.{to_z-of_z}
use Rattle.exposures.specs.Exposure.{near}
use Rattle.exposures.proofs.exposure.near_zero.Goals as goal

pub returns-then-z : goal.returns-then-z
unfolding near
returns-then-z c = rw (rw (to_z-of_z c.ranges.z) at c.if-z.true)

pub returns-then-z-ge-FAR : goal.returns-then-z-ge-FAR
unfolding near
returns-then-z-ge-FAR c = rw (rw (to_z-of_z c.ranges.z) at c.if-z.false, rw (to_z-of_z c.ranges.z) at c.if-z-ge-FAR.true)

pub returns-else-z-ge-FAR : goal.returns-else-z-ge-FAR
unfolding near
returns-else-z-ge-FAR c = rw (rw (to_z-of_z c.ranges.z) at c.if-z.false, rw (to_z-of_z c.ranges.z) at c.if-z-ge-FAR.false, to_z-of_z c.ranges.z)
