-- A header's fields out of its words: `n` are the numbers, flags and marks, `z` the signed numbers. Words and fields stand in one order (short/specs/Short, `numbers_of`).
use Rattle.std.specs.Prelude.{ℕ, ◌+◌, Bool, not, List, eqb, ℤ, pos, get_or}
use Rattle.syntax.specs.declared.record.Frame.{Frame}
use Rattle.syntax.specs.declared.record.OrderCount.{OrderCount}
use Rattle.syntax.specs.declared.record.ActiveCounts.{ActiveCounts}
use Rattle.syntax.specs.declared.record.Quantiser.{Quantiser}
use Rattle.syntax.specs.declared.record.Filter.{Filter}
use Rattle.syntax.specs.declared.marks.Marked.{Marked}

abbrev pub number_in : List ℕ → ℕ → ℕ
number_in n k = get_or n k 0

abbrev pub signed_in : List ℤ → ℕ → ℤ
signed_in z k = get_or z k (pos 0)

-- a mark or a flag is set where its word is not 0
abbrev pub set_in : List ℕ → ℕ → Bool
set_in n k = not (eqb (number_in n k) 0)

-- what may be absent: its mark, then its value

abbrev pub marked_number : List ℕ → ℕ → (Marked ℕ)
marked_number n k = record { there = set_in n k; value = number_in n (k + 1) }

abbrev pub marked_flag : List ℕ → ℕ → (Marked Bool)
marked_flag n k = record { there = set_in n k; value = set_in n (k + 1) }

-- a signed one's value stands among the signed numbers, at j
abbrev pub marked_signed : List ℕ → List ℤ → ℕ → ℕ → (Marked ℤ)
marked_signed n z k j = record { there = set_in n k; value = signed_in z j }

-- ---- the parts without lists

unfoldable pub frame_from : List ℕ → Frame
frame_from n =
    record {
      colour_plane_id = marked_number n 4;
      frame_num = number_in n 6;
      field_pic_flag = marked_flag n 7;
      bottom_field_flag = marked_flag n 9;
      idr_pic_id = marked_number n 11;
    }

unfoldable pub order_count_from : List ℕ → List ℤ → OrderCount
order_count_from n z =
    record {
      pic_order_cnt_lsb = marked_number n 13;
      delta_pic_order_cnt_bottom = marked_signed n z 15 0;
      delta_pic_order_cnt = record { there = set_in n 16; first = signed_in z 1; second = signed_in z 2 };
      redundant_pic_cnt = marked_number n 17;
    }

unfoldable pub active_counts_from : List ℕ → ActiveCounts
active_counts_from n =
    record {
      direct_spatial_mv_pred_flag = marked_flag n 19;
      num_ref_idx_active_override_flag = marked_flag n 21;
      num_ref_idx_l0_active_minus1 = marked_number n 23;
      num_ref_idx_l1_active_minus1 = marked_number n 25;
    }

unfoldable pub quantiser_from : List ℕ → List ℤ → Quantiser
quantiser_from n z =
    record {
      cabac_init_idc = marked_number n 46;
      slice_qp_delta = signed_in z 3;
      sp_for_switch_flag = marked_flag n 48;
      slice_qs_delta = marked_signed n z 50 4;
    }

unfoldable pub filter_from : List ℕ → List ℤ → Filter
filter_from n z =
    record {
      disable_deblocking_filter_idc = marked_number n 51;
      slice_alpha_c0_offset_div2 = marked_signed n z 53 5;
      slice_beta_offset_div2 = marked_signed n z 54 6;
      slice_group_change_cycle = marked_number n 55;
    }
