use Rattle.exports.proofs.writes.tuz_write_header.Goals as goal

pub returns : goal.returns
returns c = (rw (c.wrote_out.ensures, c.write_words_in.ensures.0), c.write_words_in.ensures.1)
