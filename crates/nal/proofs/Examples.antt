-- Worked examples, by computing: a first byte, and an extension.
use mathlib.Core.Path.{◌≡◌, refl}
use Rattle.bits.specs.Bits.{digits, number_of, bytes_bits}
use Rattle.nal.specs.declared.unit_type.UnitType.{UnitType}
use Rattle.nal.specs.declared.header.NalHeader.{NalHeader}
use Rattle.nal.specs.declared.extension.NalHeaderExtension.{NalHeaderExtension}
use Rattle.nal.specs.declared.extension.NalHeaderMvcExtension.{NalHeaderMvcExtension}
use Rattle.nal.specs.UnitType.{type_of}
use Rattle.nal.specs.Header.{nal_ref_idc, nal_unit_type}
use Rattle.nal.specs.Extension.{extension_from, mvc_bits, view_id, mvc_temporal_id}

-- the first byte 65
abbrev idr : NalHeader
idr = record { 0 = 101 }

pub idr-slice : (nal_ref_idc idr ≡ 3) × (nal_unit_type idr ≡ UnitType.SliceLayerWithoutPartitioningIdr)
unfolding nal_ref_idc nal_unit_type digits number_of type_of
idr-slice = (refl, refl)

-- the extension 40 00 57
abbrev mvc : NalHeaderMvcExtension
mvc = record { b1 = 64; b2 = 0; b3 = 87 }

pub second-view : (extension_from 64 0 87 ≡ NalHeaderExtension.Mvc mvc) × (view_id mvc ≡ 1) × (mvc_temporal_id mvc ≡ 2)
unfolding extension_from view_id mvc_temporal_id mvc_bits bytes_bits digits number_of
second-view = (refl, refl, refl)
