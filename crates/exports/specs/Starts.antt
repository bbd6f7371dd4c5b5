-- What a unit starts with, as plain structs.
use Rattle.std.specs.Prelude.{ℕ, false, pos}
use Rattle.nal.specs.declared.unit_type.UnitType.{UnitType}
use Rattle.nal.specs.declared.unit_type.UnitTypeError.{UnitTypeError}
use Rattle.nal.specs.declared.extension.NalHeaderSvcExtension.{NalHeaderSvcExtension}
use Rattle.nal.specs.declared.extension.NalHeaderMvcExtension.{NalHeaderMvcExtension}
use Rattle.nal.specs.Header.{nal_ref_idc}
use Rattle.nal.specs.Extension.{extension_from, is_svc}
use Rattle.nal.specs.Extension.{non_idr_flag, mvc_priority_id, view_id, mvc_temporal_id, anchor_pic_flag, inter_view_flag}
use Rattle.nal.specs.Extension.{idr_flag, svc_priority_id, no_inter_layer_pred_flag, dependency_id, quality_id, svc_temporal_id, use_ref_base_pic_flag, discardable_flag, output_flag}
use Rattle.unit.specs.Begin.{type_in, has_extension}
use Rattle.exports.specs.declared.starts.NalHeaderOut.{NalHeaderOut}
use Rattle.exports.specs.declared.starts.SvcExtensionOut.{SvcExtensionOut}
use Rattle.exports.specs.declared.starts.MvcExtensionOut.{MvcExtensionOut}
use Rattle.exports.specs.declared.starts.ExtensionOut.{ExtensionOut}
use Rattle.std.specs.Prelude.{Result, Ok, Err}
use Rattle.bits.specs.declared.refusals.Refusal.{Refusal}
use Rattle.nal.specs.declared.header.NalHeader.{NalHeader}

-- a first byte's fields, or its refusal
unfoldable pub header_out : Result NalHeader Refusal → NalHeaderOut
header_out (Ok h) =
    record { number = 0; nal_ref_idc = nal_ref_idc h; nal_unit_type = type_in h; has_extension = has_extension (type_in h); value = pos 0 }
header_out (Err r) = record { number = r.number; nal_ref_idc = 0; nal_unit_type = 0; has_extension = false; value = r.value }

-- 1, a type that has a name; 2, unspecified; 3, reserved
abbrev pub kind_of : UnitType → ℕ
kind_of (UnitType.Unspecified id) = 2
kind_of UnitType.SliceLayerWithoutPartitioningNonIdr = 1
kind_of UnitType.SliceDataPartitionALayer = 1
kind_of UnitType.SliceDataPartitionBLayer = 1
kind_of UnitType.SliceDataPartitionCLayer = 1
kind_of UnitType.SliceLayerWithoutPartitioningIdr = 1
kind_of UnitType.SEI = 1
kind_of UnitType.SeqParameterSet = 1
kind_of UnitType.PicParameterSet = 1
kind_of UnitType.AccessUnitDelimiter = 1
kind_of UnitType.EndOfSeq = 1
kind_of UnitType.EndOfStream = 1
kind_of UnitType.FillerData = 1
kind_of UnitType.SeqParameterSetExtension = 1
kind_of UnitType.PrefixNALUnit = 1
kind_of UnitType.SubsetSeqParameterSet = 1
kind_of UnitType.DepthParameterSet = 1
kind_of UnitType.SliceLayerWithoutPartitioningAux = 1
kind_of UnitType.SliceExtension = 1
kind_of UnitType.SliceExtensionViewComponent = 1
kind_of (UnitType.Reserved id) = 3

-- 0, no type
abbrev pub kind_for : Result UnitType UnitTypeError → ℕ
kind_for (Ok t) = kind_of t
kind_for (Err e) = 0

unfoldable pub svc_out : NalHeaderSvcExtension → SvcExtensionOut
svc_out e =
    record {
      idr_flag = idr_flag e;
      priority_id = svc_priority_id e;
      no_inter_layer_pred_flag = no_inter_layer_pred_flag e;
      dependency_id = dependency_id e;
      quality_id = quality_id e;
      temporal_id = svc_temporal_id e;
      use_ref_base_pic_flag = use_ref_base_pic_flag e;
      discardable_flag = discardable_flag e;
      output_flag = output_flag e;
    }

unfoldable pub mvc_out : NalHeaderMvcExtension → MvcExtensionOut
mvc_out e =
    record {
      non_idr_flag = non_idr_flag e;
      priority_id = mvc_priority_id e;
      view_id = view_id e;
      temporal_id = mvc_temporal_id e;
      anchor_pic_flag = anchor_pic_flag e;
      inter_view_flag = inter_view_flag e;
    }

-- which of the two the bytes are, and the fields of both
unfoldable pub extension_out : ℕ → ℕ → ℕ → ExtensionOut
extension_out b1 b2 b3 =
    record {
      is_svc = is_svc (extension_from b1 b2 b3);
      svc = svc_out (record { b1 = b1; b2 = b2; b3 = b3 });
      mvc = mvc_out (record { b1 = b1; b2 = b2; b3 = b3 });
    }
