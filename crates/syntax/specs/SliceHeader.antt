-- slice_header( ): its syntax, once (H.264, 7.3.3, 7.3.3.1 to 7.3.3.3; H.7.3.3.1.1 for the view indices), with the rules' refusals. Reading, writing and sizes
-- come from these formats. Elements stand in the tables' order under their names; each condition is the table's.
use Rattle.std.specs.Prelude.{ℕ, ◌+◌, [], ◌∷◌, Bool, true, false, not, ◌&&◌, ◌||◌, eqb, leb, ℤ, pos, negsuc, length, take, drop}
use Rattle.bits.specs.Refusals.{Res, got, no, bind, pick, refusal_at}
use Rattle.bits.specs.Bits.{Bits}
use Rattle.fmt.specs.Fmt.{Fmt, nothing, seq, shaped, test, when, times}
use Rattle.fmt.specs.Leaves.{flag, u, ue, se}
use Rattle.fmt.specs.Arrays.{pad, padded}
use Rattle.table.specs.declared.table.Table.{Table}
use Rattle.table.specs.Tables.{picture_at, sequence_at}
use Rattle.table.specs.Sets.{between_z}
use Rattle.syntax.specs.Marks.{is_zero, is_zero_z, number_if, signed_if, flag_if, given}
use Rattle.syntax.specs.Lists.{Kind, operations_if}
use Rattle.syntax.specs.Context.{is_b, is_sp, is_si, has_l0, is_there, is_there_too, sequence_id_for, context_for, has_chroma, order_type, has_cabac, is_weighted, qp_fits, qs_fits, is_changing}
use Rattle.syntax.specs.declared.context.UnitKind.{UnitKind}
use Rattle.syntax.specs.declared.context.Context.{Context}
use Rattle.syntax.specs.declared.record.Frame.{Frame}
use Rattle.syntax.specs.declared.record.Deltas.{Deltas}
use Rattle.syntax.specs.declared.record.OrderCount.{OrderCount}
use Rattle.syntax.specs.declared.record.ActiveCounts.{ActiveCounts}
use Rattle.syntax.specs.declared.record.Modification.{Modification}
use Rattle.syntax.specs.declared.record.Modifications.{Modifications}
use Rattle.syntax.specs.declared.record.Weight.{Weight}
use Rattle.syntax.specs.declared.record.WeightList.{WeightList}
use Rattle.syntax.specs.declared.record.PredWeightTable.{PredWeightTable}
use Rattle.syntax.specs.declared.record.DecRefPicMarking.{DecRefPicMarking}
use Rattle.syntax.specs.declared.record.Quantiser.{Quantiser}
use Rattle.syntax.specs.declared.record.Filter.{Filter}
use Rattle.syntax.specs.declared.record.SliceHeader.{SliceHeader}
use Rattle.syntax.specs.declared.marks.Marked.{Marked}

-- ---- first_mb_in_slice, slice_type, pic_parameter_set_id

unfoldable pub slice_type : Fmt ℕ
slice_type = test (λ k. leb k 9) 7 pos ue

unfoldable pub picture_set_id : Table → Fmt ℕ
picture_set_id t =
    test (λ id. is_there_too (sequence_at t (sequence_id_for t id))) 10 (λ id. pos (sequence_id_for t id))
    (test (λ id. is_there (picture_at t id)) 9 pos
    (test (λ id. leb id 255) 8 pos ue))

unfoldable pub lead : Table → Fmt (ℕ × (ℕ × ℕ))
lead t = seq ue (λ first-mb-in-slice. seq slice_type (λ k. picture_set_id t))

-- ---- colour_plane_id to idr_pic_id

unfoldable pub frame : Context → Fmt Frame
frame x =
    shaped
    (λ v. record { colour_plane_id = v.0; frame_num = v.1.0; field_pic_flag = v.1.1.0; bottom_field_flag = v.1.1.1.0; idr_pic_id = v.1.1.1.1 })
    (λ f. (f.colour_plane_id, (f.frame_num, (f.field_pic_flag, (f.bottom_field_flag, f.idr_pic_id)))))
    (λ f. true)
    (seq (number_if x.sequence.separate_colour_plane_flag (test (λ c. not (eqb c 3)) 11 pos (u 2))) (λ colour-plane-id.
    seq (u x.sequence.log2_max_frame_num) (λ frame-num.
    seq (flag_if (not x.sequence.frame_mbs_only_flag)) (λ field-pic-flag.
    seq (flag_if field-pic-flag.value) (λ bottom-field-flag.
    number_if x.kind.idr ue)))))

-- ---- pic_order_cnt_lsb to redundant_pic_cnt; `field` is field_pic_flag

-- delta_pic_order_cnt[0] and [1]
unfoldable pub deltas : Context → Bool → Fmt Deltas
deltas x field =
    shaped
    (λ v. record { there = order_type x 1; first = v.0; second = v.1 })
    (λ d. (d.first, d.second))
    (λ d. pick (order_type x 1) d.there (not d.there))
    (seq (given (order_type x 1 && not x.sequence.delta_pic_order_always_zero_flag) (pos 0) is_zero_z se) (λ first.
    given ((order_type x 1 && not x.sequence.delta_pic_order_always_zero_flag) && (x.picture.bottom_field_pic_order_in_frame_present_flag && not field)) (pos 0) is_zero_z se))

unfoldable pub order_count : Context → Bool → Fmt OrderCount
order_count x field =
    shaped
    (λ v. record { pic_order_cnt_lsb = v.0; delta_pic_order_cnt_bottom = v.1.0; delta_pic_order_cnt = v.1.1.0; redundant_pic_cnt = v.1.1.1 })
    (λ o. (o.pic_order_cnt_lsb, (o.delta_pic_order_cnt_bottom, (o.delta_pic_order_cnt, o.redundant_pic_cnt))))
    (λ o. true)
    (seq (number_if (order_type x 0) (u (x.sequence.log2_max_pic_order_cnt_lsb_minus4 + 4))) (λ pic-order-cnt-lsb.
    seq (signed_if (order_type x 0 && (x.picture.bottom_field_pic_order_in_frame_present_flag && not field)) se) (λ delta-pic-order-cnt-bottom.
    seq (deltas x field) (λ delta-pic-order-cnt.
    number_if x.picture.redundant_pic_cnt_present_flag ue))))

-- ---- direct_spatial_mv_pred_flag to num_ref_idx_l1_active_minus1; k is slice_type

unfoldable pub active_minus1 : Fmt ℕ
active_minus1 = test (λ n. leb n 31) 21 pos ue

unfoldable pub active_counts : ℕ → Fmt ActiveCounts
active_counts k =
    shaped
    (λ v. record { direct_spatial_mv_pred_flag = v.0; num_ref_idx_active_override_flag = v.1.0; num_ref_idx_l0_active_minus1 = v.1.1.0; num_ref_idx_l1_active_minus1 = v.1.1.1 })
    (λ a. (a.direct_spatial_mv_pred_flag, (a.num_ref_idx_active_override_flag, (a.num_ref_idx_l0_active_minus1, a.num_ref_idx_l1_active_minus1))))
    (λ a. true)
    (seq (flag_if (is_b k)) (λ direct-spatial-mv-pred-flag.
    seq (flag_if (has_l0 k)) (λ override.
    seq (number_if override.value active_minus1) (λ l0.
    number_if (override.value && is_b k) active_minus1))))

-- how many references a list has: the override's count, or else the picture set's
abbrev pub active_of : (Marked ℕ) → ℕ → ℕ
active_of m default = pick m.there m.value default + 1

abbrev pub active_l0 : Context → ActiveCounts → ℕ
active_l0 x a = active_of a.num_ref_idx_l0_active_minus1 x.picture.num_ref_idx_l0_default_active_minus1

abbrev pub active_l1 : Context → ActiveCounts → ℕ
active_l1 x a = active_of a.num_ref_idx_l1_active_minus1 x.picture.num_ref_idx_l1_default_active_minus1

-- ---- ref_pic_list_modification( ), and ref_pic_list_mvc_modification( ) for views

abbrev pub modification_kind : Bool → Kind
modification_kind mvc = record { closing = 3; greatest = pick mvc 5 3; number = 12; has_first = λ c. true; has_second = λ c. false }

unfoldable pub modification : Bool → Bool → Fmt Modification
modification mvc there =
    shaped (λ v. record { flag = v.0; operations = v.1 }) (λ m. (m.flag, m.operations)) (λ m. true)
    (seq (flag_if there) (λ ref-pic-list-modification-flag. operations_if ref-pic-list-modification-flag.value (modification_kind mvc)))

-- a scalable slice's header goes no further
unfoldable pub not_scalable : Context → Fmt (Unit {0})
not_scalable x = test (λ v. not x.kind.svc) 13 (λ v. pos 0) nothing

unfoldable pub modifications : Context → ℕ → Fmt Modifications
modifications x k =
    shaped (λ v. record { l0 = v.1.0; l1 = v.1.1 }) (λ m. (tt, (m.l0, m.l1))) (λ m. true)
    (seq (not_scalable x) (λ v.
    seq (modification x.kind.mvc (has_l0 k)) (λ l0.
    modification x.kind.mvc (is_b k))))

-- ---- pred_weight_table( )

unfoldable pub weight : Bool → Fmt Weight
weight chroma =
    shaped
    (λ v. record {
      luma_weight_flag = v.0;
      luma_weight = v.1.0;
      luma_offset = v.1.1.0;
      chroma_weight_flag = v.1.1.1.0;
      cb_weight = v.1.1.1.1.0;
      cb_offset = v.1.1.1.1.1.0;
      cr_weight = v.1.1.1.1.1.1.0;
      cr_offset = v.1.1.1.1.1.1.1;
    })
    (λ w. (w.luma_weight_flag, (w.luma_weight, (w.luma_offset, (w.chroma_weight_flag, (w.cb_weight, (w.cb_offset, (w.cr_weight, w.cr_offset))))))))
    (λ w. true)
    (seq flag (λ luma.
    seq (given luma (pos 0) is_zero_z se) (λ luma-weight.
    seq (given luma (pos 0) is_zero_z se) (λ luma-offset.
    seq (given chroma false not flag) (λ c.
    seq (given c (pos 0) is_zero_z se) (λ cb-weight.
    seq (given c (pos 0) is_zero_z se) (λ cb-offset.
    seq (given c (pos 0) is_zero_z se) (λ cr-weight.
    given c (pos 0) is_zero_z se))))))))

abbrev pub no_weight : Weight
no_weight =
    record {
      luma_weight_flag = false;
      luma_weight = pos 0;
      luma_offset = pos 0;
      chroma_weight_flag = false;
      cb_weight = pos 0;
      cb_offset = pos 0;
      cr_weight = pos 0;
      cr_offset = pos 0;
    }

abbrev pub is_no_weight : Weight → Bool
is_no_weight w =
    not w.luma_weight_flag
    && (is_zero_z w.luma_weight
    && (is_zero_z w.luma_offset
    && (not w.chroma_weight_flag
    && (is_zero_z w.cb_weight && (is_zero_z w.cb_offset && (is_zero_z w.cr_weight && is_zero_z w.cr_offset))))))

-- n entries in an array of 32
unfoldable pub weight_list : Bool → ℕ → Fmt WeightList
weight_list chroma n =
    shaped (λ l. record { count = length l; entries = pad no_weight 32 l }) (λ w. take w.count w.entries) (λ w. padded is_no_weight 32 w.count w.entries)
    (times n (weight chroma))

-- n0 and n1 are the lists' counts of references
unfoldable pub pred_weight_table : Context → ℕ → ℕ → ℕ → Fmt PredWeightTable
pred_weight_table x k n0 n1 =
    shaped
    (λ v. record {
      there = v.0.there;
      luma_log2_weight_denom = v.0.value;
      chroma_log2_weight_denom = v.1.0;
      l0 = v.1.1.0;
      l1 = v.1.1.1;
    })
    (λ w. (record { there = w.there; value = w.luma_log2_weight_denom }, (w.chroma_log2_weight_denom, (w.l0, w.l1))))
    (λ w. true)
    (seq (when (is_weighted x k) 0 is_zero ue) (λ luma-log2-weight-denom.
    seq (number_if (is_weighted x k && has_chroma x) ue) (λ chroma-log2-weight-denom.
    seq (weight_list (has_chroma x) (pick (is_weighted x k) n0 0)) (λ l0.
    weight_list (has_chroma x) (pick (is_weighted x k && is_b k) n1 0)))))

-- ---- dec_ref_pic_marking( )

abbrev pub marking_kind : Kind
marking_kind = record { closing = 0; greatest = 6; number = 15; has_first = λ c. not (eqb c 5); has_second = λ c. eqb c 3 }

unfoldable pub dec_ref_pic_marking : Context → Fmt DecRefPicMarking
dec_ref_pic_marking x =
    shaped
    (λ v. record {
      no_output_of_prior_pics_flag = v.0;
      long_term_reference_flag = v.1.0;
      adaptive_ref_pic_marking_mode_flag = v.1.1.0;
      operations = v.1.1.1;
    })
    (λ d. (d.no_output_of_prior_pics_flag, (d.long_term_reference_flag, (d.adaptive_ref_pic_marking_mode_flag, d.operations))))
    (λ d. true)
    (seq (flag_if (x.kind.reference && x.kind.idr)) (λ no-output-of-prior-pics-flag.
    seq (flag_if (x.kind.reference && x.kind.idr)) (λ long-term-reference-flag.
    seq (flag_if (x.kind.reference && not x.kind.idr)) (λ adaptive.
    operations_if adaptive.value marking_kind))))

-- ---- cabac_init_idc to slice_qs_delta

unfoldable pub quantiser : Context → ℕ → Fmt Quantiser
quantiser x k =
    shaped
    (λ v. record { cabac_init_idc = v.0; slice_qp_delta = v.1.0; sp_for_switch_flag = v.1.1.0; slice_qs_delta = v.1.1.1 })
    (λ q. (q.cabac_init_idc, (q.slice_qp_delta, (q.sp_for_switch_flag, q.slice_qs_delta))))
    (λ q. true)
    (seq (number_if (has_cabac x k) ue) (λ cabac-init-idc.
    seq (test (qp_fits x) 16 (λ d. d) se) (λ slice-qp-delta.
    seq (flag_if (is_sp k)) (λ sp-for-switch-flag.
    signed_if (is_sp k || is_si k) (test (qs_fits x) 17 (λ d. d) se)))))

-- ---- disable_deblocking_filter_idc to slice_group_change_cycle

abbrev pub offset_fits : ℤ → Bool
offset_fits = between_z (negsuc 5) (pos 6)

unfoldable pub filter : Context → Fmt Filter
filter x =
    shaped
    (λ v. record {
      disable_deblocking_filter_idc = v.0;
      slice_alpha_c0_offset_div2 = v.1.0;
      slice_beta_offset_div2 = v.1.1.0;
      slice_group_change_cycle = v.1.1.1;
    })
    (λ f. (f.disable_deblocking_filter_idc, (f.slice_alpha_c0_offset_div2, (f.slice_beta_offset_div2, f.slice_group_change_cycle))))
    (λ f. true)
    (seq (number_if x.picture.deblocking_filter_control_present_flag (test (λ n. leb n 6) 18 pos ue)) (λ idc.
    seq (signed_if (idc.there && not (eqb idc.value 1)) (test offset_fits 19 (λ d. d) se)) (λ alpha.
    seq (signed_if (idc.there && not (eqb idc.value 1)) (test offset_fits 20 (λ d. d) se)) (λ beta.
    number_if (is_changing x) (u x.cycle_width)))))

-- ---- slice_header( ), whole

-- the parts after pic_parameter_set_id
abbrev pub Parts : Type 0
Parts = Frame × (OrderCount × (ActiveCounts × (Modifications × (PredWeightTable × (DecRefPicMarking × (Quantiser × Filter))))))

unfoldable pub parts : Context → ℕ → Fmt Parts
parts x k =
    seq (frame x) (λ f.
    seq (order_count x f.field_pic_flag.value) (λ o.
    seq (active_counts k) (λ a.
    seq (modifications x k) (λ m.
    seq (pred_weight_table x k (active_l0 x a) (active_l1 x a)) (λ w.
    seq (dec_ref_pic_marking x) (λ d.
    seq (quantiser x k) (λ q.
    filter x)))))))

abbrev pub to_header : Table → (ℕ × (ℕ × ℕ)) × Parts → SliceHeader
to_header t v =
    record {
      first_mb_in_slice = v.0.0;
      slice_type = v.0.1.0;
      pic_parameter_set_id = v.0.1.1;
      seq_parameter_set_id = sequence_id_for t v.0.1.1;
      frame = v.1.0;
      order_count = v.1.1.0;
      active_counts = v.1.1.1.0;
      modifications = v.1.1.1.1.0;
      pred_weight_table = v.1.1.1.1.1.0;
      dec_ref_pic_marking = v.1.1.1.1.1.1.0;
      quantiser = v.1.1.1.1.1.1.1.0;
      filter = v.1.1.1.1.1.1.1.1;
    }

abbrev pub of_header : SliceHeader → (ℕ × (ℕ × ℕ)) × Parts
of_header h = (
  (h.first_mb_in_slice, (h.slice_type, h.pic_parameter_set_id)),
  (h.frame, (h.order_count, (h.active_counts, (h.modifications, (h.pred_weight_table, (h.dec_ref_pic_marking, (h.quantiser, h.filter))))))),
)

unfoldable pub header : Table → UnitKind → Fmt SliceHeader
header t n =
    shaped (to_header t) of_header (λ h. eqb h.seq_parameter_set_id (sequence_id_for t h.pic_parameter_set_id))
    (seq (lead t) (λ l. parts (context_for t n l.1.1) l.1.0))

-- ---- and what must follow it

abbrev pub any_set : Bits → Bool
any_set [] = false
any_set (b ∷ l) = b || any_set l

-- a set bit strictly after the bit that follows the header: else 22, at the place reached
unfoldable pub read_header : Table → UnitKind → Bits → Res SliceHeader
read_header t n s = bind ((header t n).read s 0) (λ h e. pick (any_set (drop (e + 1) s)) (got h e) (no (refusal_at 22 (pos 0) e)))
