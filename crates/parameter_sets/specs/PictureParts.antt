-- A picture set in parts, for whoever does not hold its bits in one piece: what stands before slice_group_id, the ids, and what stands behind them
-- (`picture-parts` in proofs/PictureParts.antt: in turn they are the set).
use Rattle.std.specs.Prelude.{ℕ, ◌+◌, ◌-◌, ◌*◌, ◌/◌, true, false, eqb, leb, ltb, pos}
use Rattle.bits.specs.declared.refusals.Refusal.{Refusal}
use Rattle.bits.specs.Refusals.{Res, got, no, pick, refusal_at, ran_out}
use Rattle.fmt.specs.Leaves.{ue}
use Rattle.fmt.specs.Reads.{Reads, found, next, read_if}
use Rattle.parameter_sets.specs.declared.groups.Groups.{Groups}
use Rattle.parameter_sets.specs.declared.picture.PictureSet.{PictureSet}
use Rattle.parameter_sets.specs.declared.picture.PictureStart.{PictureStart}
use Rattle.parameter_sets.specs.SequenceSet.{up_to}
use Rattle.parameter_sets.specs.PictureSet.{group_id_bits, group_map, picture_lead, references, levels}
use Rattle.std.specs.Prelude.{Result, Ok, Err}
use Rattle.bits.specs.declared.read.Cursor.{Cursor}

-- ---- before the ids

-- a change rate, and no ids
abbrev pub no_ids : ℕ → Groups
no_ids rate = record { slice_group_change_rate = rate; ids = false; pic_size_in_map_units_minus1 = 0; num_slice_groups_minus1 = 0 }

-- type 6; n is num_slice_groups_minus1
unfoldable pub ids_start : ℕ → Reads Groups
ids_start n =
    next ue.read (λ pic-size-in-map-units-minus1.
    found (record { slice_group_change_rate = 0; ids = true; pic_size_in_map_units_minus1 = pic-size-in-map-units-minus1; num_slice_groups_minus1 = n }))

unfoldable pub groups_start : Reads Groups
groups_start =
    next (up_to 7) (λ num-slice-groups-minus1.
    read_if (ltb 0 num-slice-groups-minus1) (no_ids 0)
    (next (up_to 6) (λ slice-group-map-type.
    pick (eqb slice-group-map-type 6) (ids_start num-slice-groups-minus1)
    (next (group_map num-slice-groups-minus1 slice-group-map-type) (λ rate. found (no_ids rate))))))

unfoldable pub picture_start : Reads PictureStart
picture_start = next picture_lead (λ l. next groups_start (λ g. found (record { lead = l; groups = g })))

-- ---- the ids

-- how many there are, and of how many bits
abbrev pub id_count : Groups → ℕ
id_count g = pick g.ids (g.pic_size_in_map_units_minus1 + 1) 0

abbrev pub id_bits : Groups → ℕ
id_bits g = group_id_bits g.num_slice_groups_minus1

-- where they end that begin at a place of a body of so many bits: 5 at the first that lacks bits
unfoldable pub ids_end : Groups → (at end : ℕ) → Result Cursor Refusal
ids_end g at end =
    pick (leb (id_count g * id_bits g) (end - at)) (Ok (record { at = at + id_count g * id_bits g }))
    (Err (refusal_at ran_out (pos 0) (at + (end - at) / id_bits g * id_bits g)))

-- ---- behind the ids

unfoldable pub picture_rest : PictureStart → Reads PictureSet
picture_rest start =
    next references (λ r.
    next levels (λ v.
    let l = start.lead in
    found
    (record {
      pic_parameter_set_id = l.pic_parameter_set_id;
      picture = record {
        seq_parameter_set_id = l.seq_parameter_set_id;
        entropy_coding_mode_flag = l.entropy_coding_mode_flag;
        bottom_field_pic_order_in_frame_present_flag = l.bottom_field_pic_order_in_frame_present_flag;
        num_ref_idx_l0_default_active_minus1 = r.num_ref_idx_l0_default_active_minus1;
        num_ref_idx_l1_default_active_minus1 = r.num_ref_idx_l1_default_active_minus1;
        weighted_pred_flag = r.weighted_pred_flag;
        weighted_bipred_idc = r.weighted_bipred_idc;
        pic_init_qp_minus26 = v.pic_init_qp_minus26;
        pic_init_qs_minus26 = v.pic_init_qs_minus26;
        deblocking_filter_control_present_flag = v.deblocking_filter_control_present_flag;
        redundant_pic_cnt_present_flag = v.redundant_pic_cnt_present_flag;
        slice_group_change_rate = start.groups.slice_group_change_rate;
      };
    })))

-- an answer with its places k bits further on, where the bits that were read stand behind k others
abbrev pub moved_refusal : ℕ → Refusal → Refusal
moved_refusal k r = record { number = r.number; value = r.value; has_bit = r.has_bit; bit = k + r.bit }

abbrev pub moved : {A : Type 0} → ℕ → Res A → Res A
moved k (got a e) = got a (k + e)
moved k (no r) = no (moved_refusal k r)
