-- A step of the walk, as a plain struct.
use Rattle.std.specs.Prelude.{pos}
use Rattle.walk.specs.declared.walk.Step.{Step}
use Rattle.walk.specs.Walked.{Walked}
use Rattle.unit.specs.declared.into.ShortAnswer.{ShortAnswer}
use Rattle.unit.specs.Into.{short_answer}
use Rattle.exports.specs.declared.walks.WalkOut.{WalkOut}
use Rattle.exports.specs.declared.walks.StepOut.{StepOut}
use Rattle.exports.specs.Units.{told}

-- 0, the end; 1, a unit, with its place, its length and the place to go on from; 2, refused, with number and value
unfoldable pub came : Step → StepOut
came (Step.Unit p l n) = record { step = 1; number = 0; value = pos 0; place = p; length = l; next = n }
came Step.End = record { step = 0; number = 0; value = pos 0; place = 0; length = 0; next = 0 }
came (Step.Refused w) = record { step = 2; number = w.number; value = w.value; place = 0; length = 0; next = 0 }

-- the step so, beside what reading the unit answers
unfoldable pub walk_told : Step → ShortAnswer → WalkOut
walk_told s a =
    let c = came s in
    record { step = c.step; number = c.number; value = c.value; place = c.place; length = c.length; next = c.next; read = told a }

abbrev pub walk_out : Walked → WalkOut
walk_out w = walk_told w.step (short_answer w.read)
