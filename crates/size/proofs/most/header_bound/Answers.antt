use mathlib.Core.Path.{sym}
use Rattle.size.proofs.InWords.{bound-places}
use Rattle.size.proofs.most.header_bound.Goals as goal

pub returns : goal.returns
returns c =
    rw (
      c.most_bits.ensures,
      c.own_or-2.ensures,
      c.own_or.ensures,
      c.at_most_66-3.ensures,
      c.at_most_66-2.ensures,
      c.at_most_66.ensures,
      c.active_counts_of-a.ensures,
      c.default_counts-p.ensures.0,
      c.default_counts-p.ensures.1,
    )
    (sym (bound-places _ _))
