-- The three extension bytes of a NAL unit, as 24 bits: each field by its first bit and its width, in the order of the syntax tables.
use Rattle.std.specs.Prelude.{ℕ, List, [], ◌∷◌, Bool, true, false, leb, pos, length, get_or}
use Rattle.bits.specs.Refusals.{pick, refusal, no_extension}
use Rattle.bits.specs.Bits.{Bits, field, bytes_bits}
use Rattle.bits.specs.Codes.{is_set}
use Rattle.nal.specs.declared.extension.NalHeaderMvcExtension.{NalHeaderMvcExtension}
use Rattle.nal.specs.declared.extension.NalHeaderSvcExtension.{NalHeaderSvcExtension}
use Rattle.nal.specs.declared.extension.NalHeaderExtension.{NalHeaderExtension}
use Rattle.std.specs.Prelude.{Result, Ok, Err}
use Rattle.bits.specs.declared.refusals.Refusal.{Refusal}

abbrev pub three_bytes : ℕ → ℕ → ℕ → Bits
three_bytes b1 b2 b3 = bytes_bits (b1 ∷ b2 ∷ b3 ∷ [])

-- ---- nal_unit( ): the bit before nal_unit_header_svc_extension( ) or nal_unit_header_mvc_extension( )

abbrev pub svc_extension_flag : Bits → Bool
svc_extension_flag s = is_set (field 0 1 s)

unfoldable pub extension_from : ℕ → ℕ → ℕ → NalHeaderExtension
extension_from b1 b2 b3 =
    pick (svc_extension_flag (three_bytes b1 b2 b3))
    (NalHeaderExtension.Svc (record { b1 = b1; b2 = b2; b3 = b3 }))
    (NalHeaderExtension.Mvc (record { b1 = b1; b2 = b2; b3 = b3 }))

abbrev pub is_svc : NalHeaderExtension → Bool
is_svc (NalHeaderExtension.Svc e) = true
is_svc (NalHeaderExtension.Mvc e) = false

-- bytes 1, 2 and 3 of the unit, or refusal 4
unfoldable pub extension_of : List ℕ → Result NalHeaderExtension Refusal
extension_of unit =
    pick (leb 4 (length unit))
    (Ok (extension_from (get_or unit 1 0) (get_or unit 2 0) (get_or unit 3 0)))
    (Err (refusal no_extension (pos 0)))

-- ---- nal_unit_header_mvc_extension( ), H.7.3.1.1 (G.7.3.1.1 in newer editions); bit 23 is reserved_one_bit

unfoldable pub mvc_bits : NalHeaderMvcExtension → Bits
mvc_bits e = three_bytes e.b1 e.b2 e.b3

unfoldable pub non_idr_flag : NalHeaderMvcExtension → Bool
non_idr_flag e = is_set (field 1 1 (mvc_bits e))

unfoldable pub mvc_priority_id : NalHeaderMvcExtension → ℕ
mvc_priority_id e = field 2 6 (mvc_bits e)

unfoldable pub view_id : NalHeaderMvcExtension → ℕ
view_id e = field 8 10 (mvc_bits e)

unfoldable pub mvc_temporal_id : NalHeaderMvcExtension → ℕ
mvc_temporal_id e = field 18 3 (mvc_bits e)

unfoldable pub anchor_pic_flag : NalHeaderMvcExtension → Bool
anchor_pic_flag e = is_set (field 21 1 (mvc_bits e))

unfoldable pub inter_view_flag : NalHeaderMvcExtension → Bool
inter_view_flag e = is_set (field 22 1 (mvc_bits e))

-- ---- nal_unit_header_svc_extension( ), G.7.3.1.1 (F.7.3.1.1 in newer editions); bits 22 and 23 are reserved_three_2bits

unfoldable pub svc_bits : NalHeaderSvcExtension → Bits
svc_bits e = three_bytes e.b1 e.b2 e.b3

unfoldable pub idr_flag : NalHeaderSvcExtension → Bool
idr_flag e = is_set (field 1 1 (svc_bits e))

unfoldable pub svc_priority_id : NalHeaderSvcExtension → ℕ
svc_priority_id e = field 2 6 (svc_bits e)

unfoldable pub no_inter_layer_pred_flag : NalHeaderSvcExtension → Bool
no_inter_layer_pred_flag e = is_set (field 8 1 (svc_bits e))

unfoldable pub dependency_id : NalHeaderSvcExtension → ℕ
dependency_id e = field 9 3 (svc_bits e)

unfoldable pub quality_id : NalHeaderSvcExtension → ℕ
quality_id e = field 12 4 (svc_bits e)

unfoldable pub svc_temporal_id : NalHeaderSvcExtension → ℕ
svc_temporal_id e = field 16 3 (svc_bits e)

unfoldable pub use_ref_base_pic_flag : NalHeaderSvcExtension → Bool
use_ref_base_pic_flag e = is_set (field 19 1 (svc_bits e))

unfoldable pub discardable_flag : NalHeaderSvcExtension → Bool
discardable_flag e = is_set (field 20 1 (svc_bits e))

unfoldable pub output_flag : NalHeaderSvcExtension → Bool
output_flag e = is_set (field 21 1 (svc_bits e))
