-- Exposures, as plain structs.
use Rattle.std.specs.Prelude.{ℕ, true, false, List, ℤ, pos}
use Rattle.table.specs.declared.table.Table.{Table}
use Rattle.unit.specs.Into.{long_answer}
use Rattle.exposures.specs.declared.exposure.Exposure.{Exposure}
use Rattle.exposures.specs.declared.slice.Item.{Item}
use Rattle.exposures.specs.Take.{Taken, take_of}
use Rattle.exposures.specs.Words.{Words, state_in, words_of}
use Rattle.stacking.specs.Item.{item_of, held_in}
use Rattle.exports.specs.declared.takes.ClosedOut.{ClosedOut}
use Rattle.exports.specs.Listings.{heard}
use Rattle.std.specs.Prelude.{Option, Some, None}

abbrev pub no_exposure : Exposure
no_exposure =
    record {
      place = 0;
      slices = 0;
      qp_least = pos 0;
      qp_greatest = pos 0;
      qp_sum = pos 0;
      frame_num = 0;
      gap = false;
      refused_before = 0;
    }

-- zeros where there is none
unfoldable pub closed_out : Option Exposure → ClosedOut
closed_out None = record { there = false; exposure = no_exposure }
closed_out (Some e) = record { there = true; exposure = e }

-- a unit's item, by the `answer` of its ReadOut and the words of a slice's fields
abbrev pub told_item : Table → ℕ → ℕ → ℕ → ℕ → List ℕ → List ℤ → Item
told_item t place type ref answer numbers signed = item_of t place type ref (long_answer (heard answer 0 (pos 0) false 0)) (held_in numbers signed)

-- what it closes, and the words that it leaves of the state's
pub record TakenOut : Type 0 where
  pub closed : ClosedOut
  pub left : Words

unfoldable pub taken_out : Words → Table → ℕ → ℕ → ℕ → ℕ → List ℕ → List ℤ → TakenOut
taken_out w t place type ref answer numbers signed =
    let r : Taken = take_of (state_in w) (told_item t place type ref answer numbers signed) in
    record { closed = closed_out r.closed; left = words_of r.state }
