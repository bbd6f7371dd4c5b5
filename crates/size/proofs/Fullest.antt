-- Sets, contexts and values that make each part of a header as long as it gets: every field there, every number the longest that the rules allow.
use Prim.Native.Nat.{ℕ}
use mathlib.Core.Bool.{Bool, true, false}
use mathlib.Core.List.{List}
use lib.IntN.{ℤ, pos, negsuc}
use Rattle.table.specs.declared.sets.Picture.{Picture}
use Rattle.table.specs.declared.sets.Sequence.{Sequence}
use Rattle.table.specs.declared.table.Table.{Table}
use Rattle.table.specs.Tables.{empty_table, sequence_put, picture_put}
use Rattle.syntax.specs.declared.context.UnitKind.{UnitKind}
use Rattle.syntax.specs.declared.context.Context.{Context}
use Rattle.syntax.specs.declared.record.Weight.{Weight}
use Rattle.syntax.specs.Lists.{Operation}

-- the greatest numbers that ue(v) and se(v) write
abbrev pub most : ℕ
most = 4294967294

abbrev pub most_z : ℤ
most_z = pos 2147483647

-- ---- sets. Separate planes have colour_plane_id, and no weights for chroma: so there are two

abbrev pub full_sequence : Bool → Sequence
full_sequence planes =
    record {
      chroma_format_idc = 3;
      separate_colour_plane_flag = planes;
      bit_depth_luma_minus8 = 6;
      log2_max_frame_num = 16;
      pic_order_cnt_type = 1;
      log2_max_pic_order_cnt_lsb_minus4 = 12;
      delta_pic_order_always_zero_flag = false;
      frame_mbs_only_flag = false;
      pic_size_in_map_units = 16777216;
    }

abbrev pub full_picture : Picture
full_picture =
    record {
      seq_parameter_set_id = 0;
      entropy_coding_mode_flag = true;
      bottom_field_pic_order_in_frame_present_flag = true;
      num_ref_idx_l0_default_active_minus1 = 31;
      num_ref_idx_l1_default_active_minus1 = 31;
      weighted_pred_flag = true;
      weighted_bipred_idc = 1;
      pic_init_qp_minus26 = negsuc 61;
      pic_init_qs_minus26 = negsuc 25;
      deblocking_filter_control_present_flag = true;
      redundant_pic_cnt_present_flag = true;
      slice_group_change_rate = 1;
    }

abbrev full_sequences : Bool → List ℕ
full_sequences planes = (sequence_put empty_table.sequences 0 (full_sequence planes)).left

-- what two puts make of an empty table, which has no width to set anew
unfoldable pub full_table : Bool → Table
full_table planes = record { sequences = full_sequences planes; pictures = (picture_put (full_sequences planes) empty_table.pictures 255 full_picture).left }

-- a view's slice, in a picture that others refer to
abbrev pub full_kind : Bool → UnitKind
full_kind idr = record { reference = true; idr = idr; mvc = true; svc = false }

-- what the table's sets, under picture set 255, are to the header
abbrev pub full : Bool → Bool → Context
full idr planes = record { kind = full_kind idr; picture = full_picture; sequence = full_sequence planes; cycle_width = 25 }

-- ---- entries of lists

abbrev pub full_modification : Operation
full_modification = (5, (most, 0))

abbrev pub full_marking : Operation
full_marking = (3, (most, most))

abbrev pub full_weight : Weight
full_weight =
    record {
      luma_weight_flag = true;
      luma_weight = most_z;
      luma_offset = most_z;
      chroma_weight_flag = true;
      cb_weight = most_z;
      cb_offset = most_z;
      cr_weight = most_z;
      cr_offset = most_z;
    }
