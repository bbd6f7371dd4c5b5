use mathlib.Core.Path.{sym}
use borrow.Author.Tests.{ne_eqb}
use Rattle.parameter_sets.proofs.Passing.{up-passed}
use Rattle.parameter_sets.proofs.groups.groups_start.Goals as goal

pub group_map-requires : goal.group_map-requires
group_map-requires c = (up-passed _ _ _ (sym c.in_ok-num_slice_groups_minus1.ensures), ne_eqb _ _ c.if-slice_group_map_type-eq6.false)
