-- pic_parameter_set_rbsp( ), H.264, 7.3.2.2, as far as the table's fields need: to redundant_pic_cnt_present_flag, before the 8x8 transform part. Elements stand in
-- the table's order under their names.
use Rattle.std.specs.Prelude.{ℕ, ◌+◌, ◌&&◌, eqb, leb, ltb, pos, negsuc}
use Rattle.bits.specs.Refusals.{pick}
use Rattle.fmt.specs.Fmt.{seq, test}
use Rattle.fmt.specs.Leaves.{flag, u, ue, se}
use Rattle.fmt.specs.Reads.{Reads, found, next, read_if, passes}
use Rattle.parameter_sets.specs.declared.picture.PictureSet.{PictureSet}
use Rattle.parameter_sets.specs.declared.picture.PictureLead.{PictureLead}
use Rattle.parameter_sets.specs.declared.picture.References.{References}
use Rattle.parameter_sets.specs.declared.picture.Levels.{Levels}
use Rattle.parameter_sets.specs.SequenceSet.{set_field, up_to, within}

-- ---- pic_parameter_set_id to bottom_field_pic_order_in_frame_present_flag

unfoldable pub picture_lead : Reads PictureLead
picture_lead =
    next (up_to 255) (λ pic-parameter-set-id.
    next (up_to 31) (λ seq-parameter-set-id.
    next flag.read (λ entropy-coding-mode-flag.
    next flag.read (λ bottom-field-pic-order-in-frame-present-flag.
    found
    (record {
      pic_parameter_set_id = pic-parameter-set-id;
      seq_parameter_set_id = seq-parameter-set-id;
      entropy_coding_mode_flag = entropy-coding-mode-flag;
      bottom_field_pic_order_in_frame_present_flag = bottom-field-pic-order-in-frame-present-flag;
    })))))

-- ---- num_slice_groups_minus1 to slice_group_id: slice_group_change_rate, 0 where it is absent; n is num_slice_groups_minus1

-- types 3 to 5
unfoldable pub change_rate : Reads ℕ
change_rate =
    next flag.read (λ slice-group-change-direction-flag.
    next (up_to 16777215) (λ slice-group-change-rate-minus1.
    found (slice-group-change-rate-minus1 + 1)))

-- slice_group_id is of Ceil( Log2( n + 1 ) ) bits, where n + 1 is 2 to 8
abbrev pub group_id_bits : ℕ → ℕ
group_id_bits n = pick (leb n 1) 1 (pick (leb n 3) 2 3)

-- type 6
unfoldable pub group_ids : ℕ → Reads (Unit {0})
group_ids n = next ue.read (λ pic-size-in-map-units-minus1. passes (pic-size-in-map-units-minus1 + 1) (u (group_id_bits n)).read)

-- by slice_group_map_type: run_length_minus1 of each group; top_left and bottom_right of each but the last; the change rate; slice_group_id. Type 1 has nothing
unfoldable pub group_map : (n slice-group-map-type : ℕ) → Reads ℕ
group_map n slice-group-map-type =
    pick (eqb slice-group-map-type 0) (next (passes (n + 1) ue.read) (λ passed. found 0))
    (pick (eqb slice-group-map-type 2) (next (passes n (seq ue (λ top_left. ue)).read) (λ passed. found 0))
    (pick (leb 3 slice-group-map-type && leb slice-group-map-type 5) change_rate
    (pick (eqb slice-group-map-type 6) (next (group_ids n) (λ passed. found 0)) (found 0))))

unfoldable pub slice_groups : Reads ℕ
slice_groups =
    next (up_to 7) (λ num-slice-groups-minus1.
    read_if (ltb 0 num-slice-groups-minus1) 0 (next (up_to 6) (λ slice-group-map-type. group_map num-slice-groups-minus1 slice-group-map-type)))

-- ---- num_ref_idx_l0_default_active_minus1 to weighted_bipred_idc

unfoldable pub references : Reads References
references =
    next (up_to 31) (λ num-ref-idx-l0-default-active-minus1.
    next (up_to 31) (λ num-ref-idx-l1-default-active-minus1.
    next flag.read (λ weighted-pred-flag.
    next (test (λ v. leb v 2) set_field (λ v. pos 0) (u 2)).read (λ weighted-bipred-idc.
    found
    (record {
      num_ref_idx_l0_default_active_minus1 = num-ref-idx-l0-default-active-minus1;
      num_ref_idx_l1_default_active_minus1 = num-ref-idx-l1-default-active-minus1;
      weighted_pred_flag = weighted-pred-flag;
      weighted_bipred_idc = weighted-bipred-idc;
    })))))

-- ---- pic_init_qp_minus26 to redundant_pic_cnt_present_flag

unfoldable pub levels : Reads Levels
levels =
    next (within (negsuc 61) (pos 25)) (λ pic-init-qp-minus26.
    next (within (negsuc 25) (pos 25)) (λ pic-init-qs-minus26.
    next se.read (λ chroma-qp-index-offset.
    next flag.read (λ deblocking-filter-control-present-flag.
    next flag.read (λ constrained-intra-pred-flag.
    next flag.read (λ redundant-pic-cnt-present-flag.
    found
    (record {
      pic_init_qp_minus26 = pic-init-qp-minus26;
      pic_init_qs_minus26 = pic-init-qs-minus26;
      deblocking_filter_control_present_flag = deblocking-filter-control-present-flag;
      redundant_pic_cnt_present_flag = redundant-pic-cnt-present-flag;
    })))))))

-- ---- the set

unfoldable pub picture_set : Reads PictureSet
picture_set =
    next picture_lead (λ l.
    next slice_groups (λ rate.
    next references (λ r.
    next levels (λ v.
    found
    (record {
      pic_parameter_set_id = l.pic_parameter_set_id;
      picture = record {
        seq_parameter_set_id = l.seq_parameter_set_id;
        entropy_coding_mode_flag = l.entropy_coding_mode_flag;
        bottom_field_pic_order_in_frame_present_flag = l.bottom_field_pic_order_in_frame_present_flag;
        num_ref_idx_l0_default_active_minus1 = r.num_ref_idx_l0_default_active_minus1;
        num_ref_idx_l1_default_active_minus1 = r.num_ref_idx_l1_default_active_minus1;
        weighted_pred_flag = r.weighted_pred_flag;
        weighted_bipred_idc = r.weighted_bipred_idc;
        pic_init_qp_minus26 = v.pic_init_qp_minus26;
        pic_init_qs_minus26 = v.pic_init_qs_minus26;
        deblocking_filter_control_present_flag = v.deblocking_filter_control_present_flag;
        redundant_pic_cnt_present_flag = v.redundant_pic_cnt_present_flag;
        slice_group_change_rate = rate;
      };
    })))))
