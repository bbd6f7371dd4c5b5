-- What is absent is zero, with its mark clear, and a list that is absent is empty.
use Rattle.std.specs.Prelude.{false, pos, replicate}
use Rattle.syntax.specs.declared.record.OrderCount.{OrderCount}
use Rattle.syntax.specs.declared.record.ActiveCounts.{ActiveCounts}
use Rattle.syntax.specs.declared.record.Modification.{Modification}
use Rattle.syntax.specs.declared.record.Modifications.{Modifications}
use Rattle.syntax.specs.declared.record.WeightList.{WeightList}
use Rattle.syntax.specs.declared.record.PredWeightTable.{PredWeightTable}
use Rattle.syntax.specs.declared.record.Quantiser.{Quantiser}
use Rattle.syntax.specs.declared.record.Filter.{Filter}
use Rattle.syntax.specs.declared.record.SliceHeader.{SliceHeader}
use Rattle.syntax.specs.declared.record.Prefix.{Prefix}
use Rattle.syntax.specs.Lists.{no_operations}
use Rattle.syntax.specs.SliceHeader.{no_weight}
use Rattle.syntax.specs.declared.marks.Marked.{Marked}
use Rattle.std.specs.Prelude.{ℕ, ℤ, Bool}

abbrev pub no_number : (Marked ℕ)
no_number = record { there = false; value = 0 }

abbrev pub no_signed : (Marked ℤ)
no_signed = record { there = false; value = pos 0 }

abbrev pub no_flag : (Marked Bool)
no_flag = record { there = false; value = false }

-- ---- parts of a header

abbrev pub no_order_count : OrderCount
no_order_count =
    record {
      pic_order_cnt_lsb = no_number;
      delta_pic_order_cnt_bottom = no_signed;
      delta_pic_order_cnt = record { there = false; first = pos 0; second = pos 0 };
      redundant_pic_cnt = no_number;
    }

abbrev pub no_active_counts : ActiveCounts
no_active_counts =
    record {
      direct_spatial_mv_pred_flag = no_flag;
      num_ref_idx_active_override_flag = no_flag;
      num_ref_idx_l0_active_minus1 = no_number;
      num_ref_idx_l1_active_minus1 = no_number;
    }

abbrev pub no_modification : Modification
no_modification = record { flag = no_flag; operations = no_operations }

abbrev pub no_modifications : Modifications
no_modifications = record { l0 = no_modification; l1 = no_modification }

abbrev pub no_weights : WeightList
no_weights = record { count = 0; entries = replicate 32 no_weight }

abbrev pub no_table : PredWeightTable
no_table =
    record { there = false; luma_log2_weight_denom = 0; chroma_log2_weight_denom = no_number; l0 = no_weights; l1 = no_weights }

abbrev pub no_quantiser : Quantiser
no_quantiser = record { cabac_init_idc = no_number; slice_qp_delta = pos 0; sp_for_switch_flag = no_flag; slice_qs_delta = no_signed }

abbrev pub no_filter : Filter
no_filter =
    record {
      disable_deblocking_filter_idc = no_number;
      slice_alpha_c0_offset_div2 = no_signed;
      slice_beta_offset_div2 = no_signed;
      slice_group_change_cycle = no_number;
    }

-- ---- a header and a prefix

unfoldable pub no_header : SliceHeader
no_header =
    record {
      first_mb_in_slice = 0;
      slice_type = 0;
      pic_parameter_set_id = 0;
      seq_parameter_set_id = 0;
      frame = record {
        colour_plane_id = no_number;
        frame_num = 0;
        field_pic_flag = no_flag;
        bottom_field_flag = no_flag;
        idr_pic_id = no_number;
      };
      order_count = no_order_count;
      active_counts = no_active_counts;
      modifications = no_modifications;
      pred_weight_table = no_table;
      dec_ref_pic_marking = record {
        no_output_of_prior_pics_flag = no_flag;
        long_term_reference_flag = no_flag;
        adaptive_ref_pic_marking_mode_flag = no_flag;
        operations = no_operations;
      };
      quantiser = no_quantiser;
      filter = no_filter;
    }

abbrev pub no_prefix : Prefix
no_prefix =
    record {
      store_ref_base_pic_flag = no_flag;
      adaptive_ref_base_pic_marking_mode_flag = no_flag;
      base_marking = no_operations;
      additional_prefix_nal_unit_extension_flag = no_flag;
    }
