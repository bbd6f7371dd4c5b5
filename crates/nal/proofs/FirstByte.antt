-- The first byte's fields as the code computes them, and the cases of reading one.
use mathlib.Core.Path.{◌≡◌, refl, ap, ◌∙◌}
use mathlib.Core.List.{List, [], ◌∷◌}
use Prim.Native.Nat.{ℕ, ◌/◌, ◌%◌, ◌<◌}
use native.Mathlib.Omega.{arith}
use borrow.Author.Tests.{eq-eqb, ne_eqb}
use lib.Dec.{lit≤}
use lib.IntN.{pos}
use lib.ListN.{length, get_or}
use Rattle.bits.specs.Refusals.{refusal, no_byte, forbidden_zero_bit}
use Rattle.bits.proofs.Fields.{field-digits}
use Rattle.nal.specs.declared.header.NalHeader.{NalHeader}
use Rattle.nal.specs.UnitType.{type_of}
use Rattle.nal.specs.Header.{forbidden_zero_bit_of, nal_ref_idc, nal_unit_type, header_from, header_of}
use Rattle.std.specs.Prelude.{Ok, Err}

-- forbidden_zero_bit
pub top_bit : (b : ℕ) → forbidden_zero_bit_of b ≡ b / 128 % 2
unfolding forbidden_zero_bit_of
top_bit b = field-digits 0 1 8 b (lit≤ tt)

pub ref-idc : (h : NalHeader) → nal_ref_idc h ≡ h.0 / 32 % 4
unfolding nal_ref_idc
ref-idc h = field-digits 1 2 8 h.0 (lit≤ tt)

pub unit-type : (h : NalHeader) → nal_unit_type h ≡ type_of (h.0 % 32)
unfolding nal_unit_type
unit-type h = ap type_of (field-digits 3 5 8 h.0 (lit≤ tt) ∙ omega arith)

-- a byte with its top bit set, and one with it clear
pub top_set : (b : ℕ) → 127 < b → b < 256 → header_from b ≡ Err (refusal forbidden_zero_bit (pos 0))
unfolding header_from
top_set b h l = rw (ne_eqb (forbidden_zero_bit_of b) 0 (λ e. omega (arith, top_bit b)))

pub top-clear : (b : ℕ) → b < 128 → header_from b ≡ Ok (record { 0 = b })
unfolding header_from
top-clear b h = rw (eq-eqb (forbidden_zero_bit_of b) 0 (omega (arith, top_bit b)))

pub no_byte_lem : (s : List ℕ) → length s ≡ 0 → header_of s ≡ Err (refusal no_byte (pos 0))
unfolding header_of
no_byte_lem [] e = refl
no_byte_lem (b ∷ s) e = absurd (omega arith)

pub first_byte : (s : List ℕ) → 0 < length s → header_of s ≡ header_from (get_or s 0 0)
unfolding header_of
first_byte [] h = absurd (omega arith)
first_byte (b ∷ s) h = refl
