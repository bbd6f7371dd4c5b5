-- The item of what reading left in lent words is that of what was read.
use mathlib.Core.Path.{◌≡◌, refl}
use mathlib.Core.Bool.{Bool, true, false, not}
use Prim.Native.Nat.{ℕ}
use lib.Dec.{eqb}
use Rattle.table.specs.declared.table.Table.{Table}
use Rattle.syntax.specs.declared.record.SliceHeader.{SliceHeader}
use Rattle.header.specs.Short.{bit, numbers_of, signed_of}
use Rattle.record.specs.Fields.{frame_from, order_count_from, quantiser_from}
use Rattle.record.specs.Record.{header_from}
use Rattle.unit.specs.declared.answer.UnitAnswer.{UnitAnswer}
use Rattle.unit.specs.declared.answer.UnitRead.{UnitRead}
use Rattle.unit.specs.Into.{short, short_answer, long_answer, Lent, after, words_after}
use Rattle.stacking.specs.Item.{slice_of, header_item, item_of, held_in}

-- a flag's word says the flag
flag-back : (b : Bool) → not (eqb (bit b) 0) ≡ b
flag-back true = refl
flag-back false = refl

module _ (t : Table) (place type ref : ℕ) where
  -- of a header, what is looked at stands in the words
  pub header-item-back : (h : SliceHeader) → header_item t place type ref (held_in (numbers_of h) (signed_of h)) ≡ header_item t place type ref h
  unfolding header_item slice_of header_from frame_from order_count_from quantiser_from numbers_of signed_of
  header-item-back h = rw (flag-back h.frame.field_pic_flag.value, flag-back h.frame.bottom_field_flag.value, flag-back h.order_count.redundant_pic_cnt.there)

  module _ (u : UnitRead) (b : Lent) where
    item_back : (a : UnitAnswer) → item_of t place type ref (long_answer (short a u)) (held_in (after a u b).header.numbers (after a u b).header.signed) ≡ item_of t place type ref a u.header
    item_back (UnitAnswer.Slice bits) = header-item-back u.header
    item_back UnitAnswer.«Prefix» = refl
    item_back (UnitAnswer.Sequence v) = refl
    item_back (UnitAnswer.Picture v) = refl
    item_back (UnitAnswer.Other id) = refl
    item_back (UnitAnswer.Refused r) = refl

    -- whatever the words were before
    pub read-item : item_of t place type ref (long_answer (short_answer u)) (held_in (words_after u b).header.numbers (words_after u b).header.signed) ≡ item_of t place type ref u.answer u.header
    unfolding short_answer words_after
    read-item = item_back u.answer
