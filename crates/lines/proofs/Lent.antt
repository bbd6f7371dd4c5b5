-- The line of a unit that was read into lent words is that of its record.
use mathlib.Core.Path.{◌≡◌, refl}
use mathlib.Core.List.{List}
use Prim.Native.Nat.{ℕ}
use lib.ListN.{length}
use Rattle.header.specs.Short.{numbers_of, signed_of}
use Rattle.unit.specs.declared.answer.UnitAnswer.{UnitAnswer}
use Rattle.unit.specs.declared.answer.UnitRead.{UnitRead}
use Rattle.unit.specs.Into.{short, short_answer, Lent, after, words_after}
use Rattle.lines.specs.Lines.{text_of, lent_text, unit_line, lent_line}

module _ (pictures unit : List ℕ) (u : UnitRead) (b : Lent) where
  -- a slice's numbers stand in the words; of the other answers no word is looked at
  same_text : (a : UnitAnswer) → lent_text pictures unit (after a u b).header.numbers (after a u b).header.signed (short a u) ≡ text_of pictures unit u.header a
  unfolding numbers_of signed_of
  same_text (UnitAnswer.Slice bits) = refl
  same_text UnitAnswer.«Prefix» = refl
  same_text (UnitAnswer.Sequence v) = refl
  same_text (UnitAnswer.Picture v) = refl
  same_text (UnitAnswer.Other id) = refl
  same_text (UnitAnswer.Refused r) = refl

  -- whatever the words were before
  pub lent-line : (place : ℕ) → lent_line pictures place (length unit) unit (short_answer u) (words_after u b).header.numbers (words_after u b).header.signed ≡ unit_line pictures place unit u
  unfolding unit_line lent_line short_answer words_after
  lent-line place = rw (same_text u.answer)
