-- The first byte of a NAL unit (H.264, 7.3.1): forbidden_zero_bit f(1), nal_ref_idc u(2), nal_unit_type u(5).
use Rattle.std.specs.Prelude.{ℕ, List, [], ◌∷◌, eqb, pos}
use Rattle.bits.specs.Refusals.{pick, refusal, no_byte, forbidden_zero_bit}
use Rattle.bits.specs.Bits.{digits, field}
use Rattle.nal.specs.declared.unit_type.UnitType.{UnitType}
use Rattle.nal.specs.declared.header.NalHeader.{NalHeader}
use Rattle.nal.specs.UnitType.{type_of}
use Rattle.std.specs.Prelude.{Result, Ok, Err}
use Rattle.bits.specs.declared.refusals.Refusal.{Refusal}

unfoldable pub forbidden_zero_bit_of : ℕ → ℕ
forbidden_zero_bit_of b = field 0 1 (digits 8 b)

unfoldable pub nal_ref_idc : NalHeader → ℕ
nal_ref_idc h = field 1 2 (digits 8 h.0)

unfoldable pub nal_unit_type : NalHeader → UnitType
nal_unit_type h = type_of (field 3 5 (digits 8 h.0))

-- a first byte, or refusal 2
unfoldable pub header_from : ℕ → Result NalHeader Refusal
header_from b =
    pick (eqb (forbidden_zero_bit_of b) 0) (Ok (record { 0 = b })) (Err (refusal forbidden_zero_bit (pos 0)))

-- a unit's first byte; refusal 1 where it has none
unfoldable pub header_of : List ℕ → Result NalHeader Refusal
header_of [] = Err (refusal no_byte (pos 0))
header_of (b ∷ s) = header_from b
