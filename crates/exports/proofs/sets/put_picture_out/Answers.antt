use Rattle.exports.proofs.sets.put_picture_out.Goals as goal

pub returns : goal.returns
returns c = (rw (c.changed_out.ensures, c.put_picture_in.ensures.0), c.put_picture_in.ensures.1)
