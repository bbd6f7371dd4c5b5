use Rattle.parameter_sets.proofs.PictureParts.{ends-passed}
use Rattle.parameter_sets.proofs.groups.pass_ids.Goals as goal

pub returns : goal.returns
returns c = rw (c.ids_end.ensures, c.bit_length.ensures) (ends-passed _ _ _)
