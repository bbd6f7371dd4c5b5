use Rattle.exports.proofs.takes.tuz_finish.Goals as goal

pub returns : goal.returns
returns c = rw (c.closed_out.ensures, c.finish.ensures)
