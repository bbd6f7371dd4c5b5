-- The rules' sample sets, both id 0, in a table of their own; and the record of its sample unit, `65 88 84 A0`.
use Rattle.std.specs.Prelude.{true, false, pos}
use Rattle.table.specs.declared.sets.Picture.{Picture}
use Rattle.table.specs.declared.sets.Sequence.{Sequence}
use Rattle.table.specs.declared.table.Table.{Table}
use Rattle.table.specs.Tables.{empty_table, put_sequence, put_picture}
use Rattle.syntax.specs.declared.context.UnitKind.{UnitKind}
use Rattle.syntax.specs.declared.record.SliceHeader.{SliceHeader}
use Rattle.syntax.specs.Lists.{no_operations}
use Rattle.syntax.specs.Absent.{no_number, no_flag, no_order_count, no_active_counts, no_modifications, no_table, no_quantiser, no_filter}

-- 8 bit 4:2:0, frames only, order type 2
abbrev pub sample_sequence : Sequence
sample_sequence =
    record {
      chroma_format_idc = 1;
      separate_colour_plane_flag = false;
      bit_depth_luma_minus8 = 0;
      log2_max_frame_num = 4;
      pic_order_cnt_type = 2;
      log2_max_pic_order_cnt_lsb_minus4 = 0;
      delta_pic_order_always_zero_flag = false;
      frame_mbs_only_flag = true;
      pic_size_in_map_units = 99;
    }

-- all flags off, all numbers 0, no change rate
abbrev pub sample_picture : Picture
sample_picture =
    record {
      seq_parameter_set_id = 0;
      entropy_coding_mode_flag = false;
      bottom_field_pic_order_in_frame_present_flag = false;
      num_ref_idx_l0_default_active_minus1 = 0;
      num_ref_idx_l1_default_active_minus1 = 0;
      weighted_pred_flag = false;
      weighted_bipred_idc = 0;
      pic_init_qp_minus26 = pos 0;
      pic_init_qs_minus26 = pos 0;
      deblocking_filter_control_present_flag = false;
      redundant_pic_cnt_present_flag = false;
      slice_group_change_rate = 0;
    }

unfoldable pub sample_table : Table
sample_table = (put_picture (put_sequence empty_table 0 sample_sequence).table 0 sample_picture).table

-- the first byte 65: nal_ref_idc 3, type 5
abbrev pub sample_kind : UnitKind
sample_kind = record { reference = true; idr = true; mvc = false; svc = false }

-- ---- the record

abbrev pub sample_header : SliceHeader
sample_header =
    record {
      first_mb_in_slice = 0;
      slice_type = 7;
      pic_parameter_set_id = 0;
      seq_parameter_set_id = 0;
      frame = record {
        colour_plane_id = no_number;
        frame_num = 0;
        field_pic_flag = no_flag;
        bottom_field_flag = no_flag;
        idr_pic_id = record { there = true; value = 0 };
      };
      order_count = no_order_count;
      active_counts = no_active_counts;
      modifications = no_modifications;
      pred_weight_table = no_table;
      dec_ref_pic_marking = record {
        no_output_of_prior_pics_flag = record { there = true; value = false };
        long_term_reference_flag = record { there = true; value = false };
        adaptive_ref_pic_marking_mode_flag = no_flag;
        operations = no_operations;
      };
      quantiser = no_quantiser;
      filter = no_filter;
    }
