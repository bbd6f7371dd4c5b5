use Rattle.exports.proofs.sets.put_sequence_out.Goals as goal

pub returns : goal.returns
returns c = (rw (c.changed_out.ensures, c.put_sequence_in.ensures.0), c.put_sequence_in.ensures.1)
