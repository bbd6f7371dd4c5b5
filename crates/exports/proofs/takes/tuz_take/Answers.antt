use Rattle.std.proofs.Common.{ap, ◌∙◌}
use Rattle.exports.specs.Takes.{closed_out, taken_out}
use Rattle.exports.proofs.takes.tuz_take.Goals as goal

pub returns : goal.returns
unfolding taken_out
returns c = (rw (c.item_of-item.ensures, c.hear-a.ensures) at (c.closed_out.ensures ∙ ap closed_out c.take.ensures.0), rw (c.item_of-item.ensures, c.hear-a.ensures) at c.take.ensures.1)
