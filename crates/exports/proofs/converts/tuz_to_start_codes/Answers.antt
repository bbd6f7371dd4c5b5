use Rattle.exports.proofs.converts.tuz_to_start_codes.Goals as goal

pub returns : goal.returns
returns c = (rw (c.converted_out.ensures, c.to_start_codes.ensures.value), c.to_start_codes.ensures.out_after)
