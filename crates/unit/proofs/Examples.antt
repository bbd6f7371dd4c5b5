-- Worked examples, by computing, for any table: the refusals before the body, in their order, and what is left in scratch.
use mathlib.Core.Path.{◌≡◌, refl}
use mathlib.Core.List.{[], ◌∷◌}
use lib.IntN.{pos}
use Rattle.bits.specs.Refusals.{refusal}
use Rattle.bits.specs.Bits.{digits, number_of}
use Rattle.nal.specs.UnitType.{type_of}
use Rattle.nal.specs.Header.{forbidden_zero_bit_of, nal_unit_type, header_from, header_of}
use Rattle.nal.specs.Extension.{extension_of}
use Rattle.table.specs.declared.table.Table.{Table}
use Rattle.unit.specs.declared.answer.UnitAnswer.{UnitAnswer}
use Rattle.unit.specs.Begin.{typed, begun}
use Rattle.unit.specs.Unit.{untouched, in_body, unit_read}

module _ (t : Table) where
  -- the top bit wins over the missing extension, and over the short scratch
  pub top_bit : unit_read t (148 ∷ []) [] ≡ untouched (UnitAnswer.Refused (refusal 2 (pos 0))) []
  unfolding unit_read begun header_of header_from forbidden_zero_bit_of digits number_of
  top_bit = refl

  -- 09 F0: type 9, for which scratch is not looked at
  pub other : unit_read t (9 ∷ 240 ∷ []) [] ≡ untouched (UnitAnswer.Other 9) []
  unfolding unit_read begun header_of header_from forbidden_zero_bit_of typed nal_unit_type type_of digits number_of
  other = refl

  -- type 20 with two bytes of extension, and no scratch: 4 wins over 26
  pub two_bytes : unit_read t (116 ∷ 0 ∷ 0 ∷ []) [] ≡ untouched (UnitAnswer.Refused (refusal 4 (pos 0))) []
  unfolding unit_read begun header_of header_from forbidden_zero_bit_of typed nal_unit_type type_of digits number_of extension_of
  two_bytes = refl

  -- 65 88 84 A0 with three bytes of scratch: 26, and four are needed
  pub three-of-four : unit_read t (101 ∷ 136 ∷ 132 ∷ 160 ∷ []) (7 ∷ 8 ∷ 9 ∷ []) ≡ untouched (UnitAnswer.Refused (refusal 26 (pos 4))) (7 ∷ 8 ∷ 9 ∷ [])
  unfolding unit_read begun header_of header_from forbidden_zero_bit_of typed nal_unit_type type_of digits number_of in_body
  three-of-four = refl

  -- 67 42: a sequence set and no scratch: 26, and two bytes are needed
  pub set-without-scratch : unit_read t (103 ∷ 66 ∷ []) [] ≡ untouched (UnitAnswer.Refused (refusal 26 (pos 2))) []
  unfolding unit_read begun header_of header_from forbidden_zero_bit_of typed nal_unit_type type_of digits number_of in_body
  set-without-scratch = refl

  -- 68 CE: a picture set's body is left in front of scratch
  pub set-in-front : (unit_read t (104 ∷ 206 ∷ []) (7 ∷ 7 ∷ [])).left ≡ 206 ∷ 7 ∷ []
  unfolding unit_read begun header_of header_from forbidden_zero_bit_of typed nal_unit_type type_of digits number_of in_body
  set-in-front = refl

  -- a slice's body is left in front of scratch, whatever its header says
  pub body-in-front : (unit_read t (101 ∷ 0 ∷ 0 ∷ 3 ∷ 1 ∷ []) (7 ∷ 7 ∷ 7 ∷ 7 ∷ 7 ∷ 7 ∷ [])).left ≡ 0 ∷ 0 ∷ 1 ∷ 7 ∷ 7 ∷ 7 ∷ []
  unfolding unit_read begun header_of header_from forbidden_zero_bit_of typed nal_unit_type type_of digits number_of in_body
  body-in-front = refl
