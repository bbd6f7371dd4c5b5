-- seq_parameter_set_data( ), H.264, 7.3.2.1.1, as far as the table's fields need: to frame_mbs_only_flag. Elements stand in the table's order under their names.
use Rattle.std.specs.Prelude.{ℕ, zero, suc, ◌+◌, ◌*◌, ◌%◌, List, [], ◌∷◌, Bool, false, ◌||◌, eqb, leb, ltb, ℤ, pos, negsuc, nat_abs, ◌+ℤ◌}
use Rattle.bits.specs.Refusals.{pick}
use Rattle.fmt.specs.Fmt.{test}
use Rattle.fmt.specs.Leaves.{flag, u, ue, se}
use Rattle.fmt.specs.Reads.{Reads, found, next, read_if, passes}
use Rattle.table.specs.Sets.{between_z}
use Rattle.parameter_sets.specs.declared.sequence.SequenceSet.{SequenceSet}
use Rattle.parameter_sets.specs.declared.sequence.SequenceLead.{SequenceLead}
use Rattle.parameter_sets.specs.declared.sequence.Chroma.{Chroma}
use Rattle.parameter_sets.specs.declared.sequence.Order.{Order}
use Rattle.parameter_sets.specs.declared.sequence.Size.{Size}

-- refusal 28, with value 0: a field of a set that is outside the rules' sizes
abbrev pub set_field : ℕ
set_field = 28

-- ue(v), at most n
unfoldable pub up_to : ℕ → Reads ℕ
up_to n = (test (λ v. leb v n) set_field (λ v. pos 0) ue).read

-- se(v), from low to high
unfoldable pub within : ℤ → ℤ → Reads ℤ
within low high = (test (between_z low high) set_field (λ v. pos 0) se).read

-- ---- profile_idc to seq_parameter_set_id

unfoldable pub sequence_lead : Reads SequenceLead
sequence_lead =
    next (u 8).read (λ profile-idc.
    next (u 8).read (λ constraint-set-flags.
    next (u 8).read (λ level-idc.
    next (up_to 31) (λ seq-parameter-set-id.
    found (record { profile_idc = profile-idc; seq_parameter_set_id = seq-parameter-set-id })))))

-- ---- chroma_format_idc to the scaling lists

-- the profiles whose sets have them
abbrev pub high_profiles : List ℕ
high_profiles = 100 ∷ 110 ∷ 122 ∷ 244 ∷ 44 ∷ 83 ∷ 86 ∷ 118 ∷ 128 ∷ 138 ∷ 139 ∷ 134 ∷ 135 ∷ []

abbrev pub is_one_of : List ℕ → ℕ → Bool
is_one_of [] p = false
is_one_of (q ∷ l) p = eqb p q || is_one_of l p

-- scaling_list( ), 7.3.2.1.1.1, with n entries to come: once nextScale is 0 no more deltas are read
unfoldable pub scaling_list : ℕ → (lastScale nextScale : ℕ) → Reads (Unit {0})
scaling_list zero lastScale nextScale = found tt
scaling_list (suc n) lastScale nextScale =
    pick (eqb nextScale 0) (found tt)
    (next (within (negsuc 127) (pos 127)) (λ delta-scale.
    let nextScale' = nat_abs (pos lastScale +ℤ delta-scale +ℤ pos 256) % 256 in
    scaling_list n (pick (eqb nextScale' 0) lastScale nextScale') nextScale'))

-- n scaling lists from the i-th on, each with a flag whether it is there: the first six have 16 entries, the others 64
unfoldable pub scaling_lists : (n i : ℕ) → Reads (Unit {0})
scaling_lists zero i = found tt
scaling_lists (suc n) i =
    next flag.read (λ seq-scaling-list-present-flag.
    next (read_if seq-scaling-list-present-flag tt (scaling_list (pick (ltb i 6) 16 64) 8 8)) (λ passed.
    scaling_lists n (suc i)))

unfoldable pub scaling_matrix : (chroma-format-idc : ℕ) → Reads (Unit {0})
scaling_matrix chroma-format-idc =
    next flag.read (λ seq-scaling-matrix-present-flag.
    read_if seq-scaling-matrix-present-flag tt (scaling_lists (pick (eqb chroma-format-idc 3) 12 8) 0))

unfoldable pub chroma : Reads Chroma
chroma =
    next (up_to 3) (λ chroma-format-idc.
    next (read_if (eqb chroma-format-idc 3) false flag.read) (λ separate-colour-plane-flag.
    next (up_to 6) (λ bit-depth-luma-minus8.
    next ue.read (λ bit-depth-chroma-minus8.
    next flag.read (λ qpprime-y-zero-transform-bypass-flag.
    next (scaling_matrix chroma-format-idc) (λ passed.
    found (record { chroma_format_idc = chroma-format-idc; separate_colour_plane_flag = separate-colour-plane-flag; bit_depth_luma_minus8 = bit-depth-luma-minus8 })))))))

-- what stands for them in sets of the other profiles
abbrev pub plain_chroma : Chroma
plain_chroma = record { chroma_format_idc = 1; separate_colour_plane_flag = false; bit_depth_luma_minus8 = 0 }

-- ---- log2_max_frame_num_minus4 to the type 1 cycle

-- delta_pic_order_always_zero_flag to offset_for_ref_frame: order count type 1
unfoldable pub cycle : Reads Bool
cycle =
    next flag.read (λ delta-pic-order-always-zero-flag.
    next se.read (λ offset-for-non-ref-pic.
    next se.read (λ offset-for-top-to-bottom-field.
    next (up_to 255) (λ num-ref-frames-in-pic-order-cnt-cycle.
    next (passes num-ref-frames-in-pic-order-cnt-cycle se.read) (λ offset-for-ref-frame.
    found delta-pic-order-always-zero-flag)))))

unfoldable pub order : Reads Order
order =
    next (up_to 12) (λ log2-max-frame-num-minus4.
    next (up_to 2) (λ pic-order-cnt-type.
    next (read_if (eqb pic-order-cnt-type 0) 0 (up_to 12)) (λ log2-max-pic-order-cnt-lsb-minus4.
    next (read_if (eqb pic-order-cnt-type 1) false cycle) (λ delta-pic-order-always-zero-flag.
    found
    (record {
      log2_max_frame_num = log2-max-frame-num-minus4 + 4;
      pic_order_cnt_type = pic-order-cnt-type;
      log2_max_pic_order_cnt_lsb_minus4 = log2-max-pic-order-cnt-lsb-minus4;
      delta_pic_order_always_zero_flag = delta-pic-order-always-zero-flag;
    })))))

-- ---- max_num_ref_frames to frame_mbs_only_flag

-- PicSizeInMapUnits (7-17)
abbrev pub map_units : (pic-width-in-mbs-minus1 pic-height-in-map-units-minus1 : ℕ) → ℕ
map_units w h = (w + 1) * (h + 1)

unfoldable pub size : Reads Size
size =
    next ue.read (λ max-num-ref-frames.
    next flag.read (λ gaps-in-frame-num-value-allowed-flag.
    next ue.read (λ pic-width-in-mbs-minus1.
    next (test (λ h. leb (map_units pic-width-in-mbs-minus1 h) 16777216) set_field (λ h. pos 0) ue).read (λ pic-height-in-map-units-minus1.
    next flag.read (λ frame-mbs-only-flag.
    found (record { pic_size_in_map_units = map_units pic-width-in-mbs-minus1 pic-height-in-map-units-minus1; frame_mbs_only_flag = frame-mbs-only-flag }))))))

-- ---- the set

unfoldable pub sequence_set : Reads SequenceSet
sequence_set =
    next sequence_lead (λ l.
    next (read_if (is_one_of high_profiles l.profile_idc) plain_chroma chroma) (λ c.
    next order (λ o.
    next size (λ z.
    found
    (record {
      seq_parameter_set_id = l.seq_parameter_set_id;
      sequence = record {
        chroma_format_idc = c.chroma_format_idc;
        separate_colour_plane_flag = c.separate_colour_plane_flag;
        bit_depth_luma_minus8 = c.bit_depth_luma_minus8;
        log2_max_frame_num = o.log2_max_frame_num;
        pic_order_cnt_type = o.pic_order_cnt_type;
        log2_max_pic_order_cnt_lsb_minus4 = o.log2_max_pic_order_cnt_lsb_minus4;
        delta_pic_order_always_zero_flag = o.delta_pic_order_always_zero_flag;
        frame_mbs_only_flag = z.frame_mbs_only_flag;
        pic_size_in_map_units = z.pic_size_in_map_units;
      };
    })))))
