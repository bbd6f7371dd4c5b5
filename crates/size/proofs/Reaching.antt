-- Each part of a header can be as long as specs/Size says.
use Prim.Native.Nat.{ℕ, ◌+◌, ◌≤◌}
use mathlib.Core.Path.{◌≡◌, refl}
use mathlib.Core.Bool.{Bool, true, false}
use native.Mathlib.Omega.{arith}
use lib.Count.{count_leading_zeros}
use lib.IntN.{pos, negsuc}
use Rattle.bits.specs.Bits.{digits, number_of}
use Rattle.bits.specs.Codes.{ue_zeros, ue_bits, se_code}
use Rattle.bits.specs.Width.{least_from, change_cycle_width}
use Rattle.fmt.specs.Fmt.{Fmt, nothing, seq, shaped, test, when}
use Rattle.fmt.specs.Leaves.{flag, u, ue, se}
use Rattle.table.specs.declared.table.Table.{Table}
use Rattle.table.specs.Sets.{all, sequence_fits, picture_fits}
use Rattle.table.specs.Tables.{sequence_put, picture_put, sequence_in, picture_in, sequence_entry, picture_entry, sequence_of, picture_of, sequence_marks, sequence_words, picture_marks, picture_words}
use Rattle.syntax.specs.declared.context.Context.{Context}
use Rattle.syntax.specs.declared.record.Operations.{Operations}
use Rattle.syntax.specs.Marks.{is_zero, number_if, signed_if, flag_if, given}
use Rattle.syntax.specs.Lists.{Kind, code, operands, operations, operations_if}
use Rattle.syntax.specs.Context.{picture_for, width_for, sequence_id_for, sequence_for, context_for}
use Rattle.syntax.specs.SliceHeader.{slice_type, picture_set_id, lead, frame, deltas, order_count, active_minus1, active_counts, modification_kind, modification, not_scalable, modifications, weight, pred_weight_table, marking_kind, dec_ref_pic_marking, quantiser, filter}
use Rattle.size.specs.Size.{lead_most, frame_most, order_most, counts_most, modification_most, weights_most, marking_most, quantiser_most, filter_most, Reached, EachReached}
use Rattle.size.proofs.Fullest.{most, most_z, full_table, full_kind, full, full_modification, full_marking, full_weight}
use Rattle.size.proofs.Has.{Has, has-is, seq-has, shaped-has, again, again-count, again-has, weighed, weighed-has}

-- the sets are put, and found
full-found : (idr planes : Bool) → context_for (full_table planes) (full_kind idr) 255 ≡ full idr planes
unfolding context_for picture_for width_for sequence_id_for sequence_for full_table least_from change_cycle_width all sequence_fits picture_fits sequence_put picture_put sequence_in picture_in sequence_entry picture_entry sequence_of picture_of sequence_marks sequence_words picture_marks picture_words number_of digits
full-found true true = refl
full-found true false = refl
full-found false true = refl
full-found false false = refl

reached : {A : Type 0} (part : Context → Fmt A) (such : A → Type 0) (idr planes : Bool) (v : A) {n : ℕ} → Has (part (full idr planes)) v n → such v → Reached (λ (t : Table) (x : Context). part x) such n
reached part such idr planes v H s =
    let e = full-found idr planes in
    record {
      table = full_table planes;
      kind = full_kind idr;
      id = 255;
      value = v;
      is-good = rw e H.is-good;
      size = rw e H.size;
      is-such = s;
    }

-- ---- the parts without lists, by computing

lead-has : Has (lead (full_table false)) (most, (9, 255)) lead_most
unfolding lead slice_type picture_set_id seq test ue ue_bits ue_zeros count_leading_zeros digits sequence_id_for picture_for full_table least_from change_cycle_width all sequence_fits picture_fits sequence_put picture_put sequence_in picture_in sequence_entry picture_entry sequence_of picture_of sequence_marks sequence_words picture_marks picture_words number_of
lead-has = record { is-good = tt; size = refl }

frame_has : Has (frame (full true true))
    (record {
      colour_plane_id = record { there = true; value = 2 };
      frame_num = 65535;
      field_pic_flag = record { there = true; value = true };
      bottom_field_flag = record { there = true; value = true };
      idr_pic_id = record { there = true; value = most };
    }) frame_most
unfolding frame seq shaped test when number_if flag_if flag u ue ue_bits ue_zeros count_leading_zeros digits
frame_has = record { is-good = tt; size = refl }

order-has : Has (order_count (full false false) false)
    (record {
      pic_order_cnt_lsb = record { there = false; value = 0 };
      delta_pic_order_cnt_bottom = record { there = false; value = pos 0 };
      delta_pic_order_cnt = record { there = true; first = most_z; second = most_z };
      redundant_pic_cnt = record { there = true; value = most };
    }) order_most
unfolding order_count deltas seq shaped when number_if signed_if given u ue se se_code ue_bits ue_zeros count_leading_zeros digits
order-has = record { is-good = tt; size = refl }

counts-has : Has (active_counts 1)
    (record {
      direct_spatial_mv_pred_flag = record { there = true; value = true };
      num_ref_idx_active_override_flag = record { there = true; value = true };
      num_ref_idx_l0_active_minus1 = record { there = true; value = 31 };
      num_ref_idx_l1_active_minus1 = record { there = true; value = 31 };
    }) counts_most
unfolding active_counts active_minus1 seq shaped test when number_if flag_if flag ue ue_bits ue_zeros count_leading_zeros digits
counts-has = record { is-good = tt; size = refl }

quantiser-has : Has (quantiser (full false false) 3)
    (record {
      cabac_init_idc = record { there = true; value = most };
      slice_qp_delta = pos 87;
      sp_for_switch_flag = record { there = true; value = true };
      slice_qs_delta = record { there = true; value = pos 51 };
    }) quantiser_most
unfolding quantiser seq shaped test when number_if signed_if flag_if flag ue se se_code ue_bits ue_zeros count_leading_zeros digits
quantiser-has = record { is-good = tt; size = refl }

filter-has : Has (filter (full false false))
    (record {
      disable_deblocking_filter_idc = record { there = true; value = 6 };
      slice_alpha_c0_offset_div2 = record { there = true; value = pos 6 };
      slice_beta_offset_div2 = record { there = true; value = negsuc 5 };
      slice_group_change_cycle = record { there = true; value = 33554431 };
    }) filter_most
unfolding filter seq shaped test when number_if signed_if u ue se se_code ue_bits ue_zeros count_leading_zeros digits
filter-has = record { is-good = tt; size = refl }

-- ---- lists of modifications

flag-has : Has (flag_if true) (record { there = true; value = true }) 1
unfolding flag_if shaped when flag digits
flag-has = record { is-good = tt; size = refl }

closing-has : Has (code (modification_kind true)) 3 5
unfolding code test ue ue_bits ue_zeros count_leading_zeros digits
closing-has = record { is-good = tt; size = refl }

code-has : Has (code (modification_kind true)) 5 5
unfolding code test ue ue_bits ue_zeros count_leading_zeros digits
code-has = record { is-good = tt; size = refl }

operand-has : Has (operands (modification_kind true) 5) (most, 0) 63
unfolding operands seq given shaped when ue ue_bits ue_zeros count_leading_zeros digits
operand-has = record { is-good = tt; size = refl }

-- a list that is there
there : (k : Kind) {o : Operations} {n : ℕ} → Has (operations k) o n → Has (operations_if true k) o n
unfolding operations_if given shaped when
there k H = record { is-good = H.is-good; size = H.size }

modification-has : (m : ℕ) → m ≤ 66 → Has (modification true true) (record { flag = record { there = true; value = true }; operations = again m full_modification }) (modification_most m)
unfolding modification
modification-has m h =
    has-is
    (shaped-has _ _ _ _ tt (seq-has _ _ flag-has (there (modification_kind true) (again-has (modification_kind true) full_modification tt closing-has code-has operand-has m h))))
    (omega arith)

scalable-has : Has (not_scalable (full false false)) tt 0
unfolding not_scalable test nothing
scalable-has = record { is-good = tt; size = refl }

modifications-has : (m0 m1 : ℕ) → m0 ≤ 66 → m1 ≤ 66
    → Has (modifications (full false false) 1)
    (record {
      l0 = record { flag = record { there = true; value = true }; operations = again m0 full_modification };
      l1 = record { flag = record { there = true; value = true }; operations = again m1 full_modification };
    }) (modification_most m0 + modification_most m1)
unfolding modifications
modifications-has m0 m1 h0 h1 =
    has-is (shaped-has _ _ _ _ tt (seq-has _ _ scalable-has (seq-has _ _ (modification-has m0 h0) (modification-has m1 h1)))) (omega arith)

-- ---- weights

weight-has : Has (weight true) full_weight 380
unfolding weight seq shaped when given flag se se_code ue_bits ue_zeros count_leading_zeros digits
weight-has = record { is-good = tt; size = refl }

luma-has : Has (when true 0 is_zero ue) (record { there = true; value = most }) 63
unfolding when ue ue_bits ue_zeros count_leading_zeros digits
luma-has = record { is-good = tt; size = refl }

chroma-has : Has (number_if true ue) (record { there = true; value = most }) 63
unfolding number_if shaped when ue ue_bits ue_zeros count_leading_zeros digits
chroma-has = record { is-good = tt; size = refl }

weights-has : (n0 n1 : ℕ) → n0 ≤ 32 → n1 ≤ 32
    → Has (pred_weight_table (full false false) 1 n0 n1)
    (record {
      there = true;
      luma_log2_weight_denom = most;
      chroma_log2_weight_denom = record { there = true; value = most };
      l0 = weighed n0 full_weight;
      l1 = weighed n1 full_weight;
    }) (weights_most (n0 + n1))
unfolding pred_weight_table
weights-has n0 n1 h0 h1 =
    has-is
    (shaped-has _ _ _ _ tt (seq-has _ _ luma-has (seq-has _ _ chroma-has (seq-has _ _ (weighed-has true full_weight weight-has n0 h0) (weighed-has true full_weight weight-has n1 h1)))))
    (omega arith)

-- ---- marking

absent-has : Has (flag_if false) (record { there = false; value = false }) 0
unfolding flag_if shaped when
absent-has = record { is-good = tt; size = refl }

end-has : Has (code marking_kind) 0 1
unfolding code test ue ue_bits ue_zeros count_leading_zeros digits
end-has = record { is-good = tt; size = refl }

mark-has : Has (code marking_kind) 3 5
unfolding code test ue ue_bits ue_zeros count_leading_zeros digits
mark-has = record { is-good = tt; size = refl }

operands-has : Has (operands marking_kind 3) (most, most) 126
unfolding operands seq given shaped when ue ue_bits ue_zeros count_leading_zeros digits
operands-has = record { is-good = tt; size = refl }

marking-has : (d : ℕ) → d ≤ 66
    → Has (dec_ref_pic_marking (full false false))
    (record {
      no_output_of_prior_pics_flag = record { there = false; value = false };
      long_term_reference_flag = record { there = false; value = false };
      adaptive_ref_pic_marking_mode_flag = record { there = true; value = true };
      operations = again d full_marking;
    }) (marking_most d)
unfolding dec_ref_pic_marking
marking-has d h =
    has-is
    (shaped-has _ _ _ _ tt (seq-has _ _ absent-has (seq-has _ _ absent-has (seq-has _ _ flag-has (there marking_kind (again-has marking_kind full_marking tt end-has mark-has operands-has d h))))))
    (omega arith)

-- ---- all

pub each-reached : EachReached
each-reached =
    record {
      lead-met = record { table = full_table false; kind = full_kind false; id = 255; value = (most, (9, 255)); is-good = lead-has.is-good; size = lead-has.size; is-such = tt };
      frame-met = reached frame _ true true _ frame_has tt;
      order-met = reached (λ x. order_count x false) _ false false _ order-has tt;
      counts-met = reached (λ x. active_counts 1) _ false false _ counts-has tt;
      modifications-met = λ m0 m1 h0 h1. reached (λ x. modifications x 1) _ false false _ (modifications-has m0 m1 h0 h1) (again-count m0 full_modification, again-count m1 full_modification);
      weights-met = λ n0 n1 h0 h1. reached (λ x. pred_weight_table x 1 n0 n1) _ false false _ (weights-has n0 n1 h0 h1) tt;
      marking-met = λ d h. reached dec_ref_pic_marking _ false false _ (marking-has d h) (again-count d full_marking);
      quantiser-met = reached (λ x. quantiser x 3) _ false false _ quantiser-has tt;
      filter-met = reached filter _ false false _ filter-has tt;
    }
