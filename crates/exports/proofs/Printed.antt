-- What a host prints of what reading a unit answered and left in lent words is the listing's line of that unit.
use Rattle.std.proofs.Common.{◌≡◌, ℕ, List, length, ℤ, refl, ◌∙◌}
use Rattle.unit.specs.declared.answer.UnitRead.{UnitRead}
use Rattle.unit.specs.declared.into.ShortAnswer.{ShortAnswer}
use Rattle.unit.specs.Into.{short_answer, Lent, words_after}
use Rattle.lines.specs.Lines.{unit_line, lent_line}
use Rattle.lines.proofs.Lent.{lent-line}
use Rattle.exports.specs.declared.units.ReadOut.{ReadOut}
use Rattle.exports.specs.Units.{told, unit_out}
use Rattle.exports.specs.Listings.{heard}

-- what a ReadOut says to a line
abbrev pub heard_of : ReadOut → ShortAnswer
heard_of r = heard r.answer r.number r.value r.has_bit r.bit

-- a line keeps nothing of an answer but what its ReadOut tells
told_line : (pictures : List ℕ) (place size : ℕ) (unit numbers : List ℕ) (signed : List ℤ) (a : ShortAnswer)
    → lent_line pictures place size unit (heard_of (told a)) numbers signed ≡ lent_line pictures place size unit a numbers signed
unfolding lent_line told heard
told_line pictures place size unit numbers signed (ShortAnswer.Slice n) = refl
told_line pictures place size unit numbers signed (ShortAnswer.«Prefix» p) = refl
told_line pictures place size unit numbers signed (ShortAnswer.Sequence v) = refl
told_line pictures place size unit numbers signed (ShortAnswer.Picture v) = refl
told_line pictures place size unit numbers signed (ShortAnswer.Other t) = refl
told_line pictures place size unit numbers signed (ShortAnswer.Refused r) = refl

pub printed : (pictures unit : List ℕ) (place : ℕ) (u : UnitRead) (b : Lent)
    → lent_line pictures place (length unit) unit (heard_of (unit_out u)) (words_after u b).header.numbers (words_after u b).header.signed ≡ unit_line pictures place unit u
unfolding unit_out
printed pictures unit place u b =
    told_line pictures place (length unit) unit (words_after u b).header.numbers (words_after u b).header.signed (short_answer u) ∙ lent-line pictures unit u b place
