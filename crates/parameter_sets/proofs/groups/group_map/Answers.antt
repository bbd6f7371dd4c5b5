use borrow.Author.Tests.{eq-eqb, ne_eqb}
use Rattle.fmt.specs.Reads.{found, next}
use Rattle.parameter_sets.specs.PictureSet.{group_map}
use Rattle.parameter_sets.proofs.Pairs.{pairs}
use Rattle.parameter_sets.proofs.groups.group_map.Goals as goal

pub returns-then-slice_group_map_type-eq2 : goal.returns-then-slice_group_map_type-eq2
unfolding group_map next found
returns-then-slice_group_map_type-eq2 c = rw (c.no_rate-then-slice_group_map_type-eq2.ensures, c.pass_codes-then-slice_group_map_type-eq2.ensures, ne_eqb _ _ c.if-slice_group_map_type-eq0.false, eq-eqb _ _ c.if-slice_group_map_type-eq2.true, pairs)
