use mathlib.Core.Bool.{and-true}
use Rattle.table.specs.Sets.{between, all, sequence_fits}
use Rattle.table.proofs.sets.sequence_fits.Goals as goal

pub returns : goal.returns
unfolding sequence_fits all
returns c =
    rw (
      c.both-6.ensures,
      c.both-5.ensures,
      c.both-4.ensures,
      c.both-3.ensures,
      c.both-2.ensures,
      c.both.ensures,
      c.within.ensures,
      c.planes_fit.ensures,
      c.within-2.ensures,
      c.within-3.ensures,
      c.within-4.ensures,
      c.within-5.ensures,
      c.within-6.ensures,
      and-true (between 1 16777216 c.args.s.pic_size_in_map_units),
    )
