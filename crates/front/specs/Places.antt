-- For private contracts alone: the bit place in an answer of reading a picture set.
use Rattle.std.specs.Prelude.{ℕ}
use Rattle.std.specs.Prelude.{Ok, Err}
use Rattle.bits.specs.Answers.{Read}
use Rattle.parameter_sets.specs.declared.picture.PictureSet.{PictureSet}

abbrev pub place_in : Read PictureSet → ℕ
place_in (Ok (v, c)) = c.at
place_in (Err r) = r.bit
