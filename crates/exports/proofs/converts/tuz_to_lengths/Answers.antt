use Rattle.exports.proofs.converts.tuz_to_lengths.Goals as goal

pub returns : goal.returns
returns c = (rw (c.converted_out.ensures, c.to_lengths.ensures.value), c.to_lengths.ensures.out_after)
