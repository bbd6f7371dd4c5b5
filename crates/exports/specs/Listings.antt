-- What a unit's ReadOut says to a line.
use Rattle.std.specs.Prelude.{ℕ, Bool, ℤ, ◌==◌}
use Rattle.bits.specs.Refusals.{pick}
use Rattle.syntax.specs.Absent.{no_prefix}
use Rattle.syntax.specs.Context.{no_sequence, no_picture}
use Rattle.lists.specs.ListsLent.{prefix_short}
use Rattle.unit.specs.declared.into.ShortAnswer.{ShortAnswer}

-- by its answer, number, value and bit place: 0, another type; 1, a slice; 2, a prefix unit; 4 and 5, a sequence and a picture set, whose id is the number; else refused. A line speaks neither of a header's length nor of a prefix's or a set's fields
unfoldable pub heard : ℕ → ℕ → ℤ → Bool → ℕ → ShortAnswer
heard answer number value has-bit bit =
    pick (answer == 0) (ShortAnswer.Other number)
    (pick (answer == 1) (ShortAnswer.Slice 0)
    (pick (answer == 2) (ShortAnswer.«Prefix» (prefix_short no_prefix))
    (pick (answer == 4) (ShortAnswer.Sequence (record { seq_parameter_set_id = number; sequence = no_sequence }))
    (pick (answer == 5) (ShortAnswer.Picture (record { pic_parameter_set_id = number; picture = no_picture }))
    (ShortAnswer.Refused (record { number = number; value = value; has_bit = has-bit; bit = bit }))))))
