use Rattle.exports.proofs.listings.tuz_head_line.Goals as goal

pub returns : goal.returns
returns c = rw c.hear_head.ensures at c.head_line.ensures
