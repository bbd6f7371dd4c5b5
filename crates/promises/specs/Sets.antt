-- The changes of the table that reports of a walk tell of (M-100).
use Rattle.std.specs.Prelude.{List, [], ◌∷◌, ◌++◌}
use Rattle.table.specs.Made.{Change, sequence_set, picture_set}
use Rattle.unit.specs.declared.answer.UnitAnswer.{UnitAnswer}
use Rattle.unit.specs.declared.answer.UnitRead.{UnitRead}
use Rattle.walk.specs.Units.{Report}

abbrev pub change_of : UnitAnswer → List Change
change_of (UnitAnswer.Slice n) = []
change_of UnitAnswer.«Prefix» = []
change_of (UnitAnswer.Sequence v) = sequence_set v.seq_parameter_set_id v.sequence ∷ []
change_of (UnitAnswer.Picture v) = picture_set v.pic_parameter_set_id v.picture ∷ []
change_of (UnitAnswer.Other id) = []
change_of (UnitAnswer.Refused r) = []

abbrev pub changes_in : List (Report UnitRead) → List Change
changes_in [] = []
changes_in (u ∷ us) = change_of u.read.answer ++ changes_in us
