-- The rules' ranges of the parameter sets' fields ('Sizes').
use Rattle.std.specs.Prelude.{ℕ, List, [], ◌∷◌, Bool, true, ◌&&◌, leb, eqb, ℤ, pos, negsuc}
use Rattle.std.specs.Int.Signed.{le_z}
use Rattle.bits.specs.Refusals.{pick}
use Rattle.table.specs.declared.sets.Sequence.{Sequence}
use Rattle.table.specs.declared.sets.Picture.{Picture}

abbrev pub between : ℕ → ℕ → ℕ → Bool
between low high n = leb low n && leb n high

abbrev pub between_z : ℤ → ℤ → ℤ → Bool
between_z low high z = le_z low z && le_z z high

-- every test of a list holds
unfoldable pub all : List Bool → Bool
all [] = true
all (b ∷ l) = b && all l

-- separate planes only with chroma format 3
abbrev pub planes_fit : Bool → ℕ → Bool
planes_fit separate chroma = pick separate (eqb chroma 3) true

unfoldable pub sequence_fits : Sequence → Bool
sequence_fits s =
    all
    (between 0 3 s.chroma_format_idc
    ∷ planes_fit s.separate_colour_plane_flag s.chroma_format_idc
    ∷ between 0 6 s.bit_depth_luma_minus8
    ∷ between 4 16 s.log2_max_frame_num
    ∷ between 0 2 s.pic_order_cnt_type
    ∷ between 0 12 s.log2_max_pic_order_cnt_lsb_minus4
    ∷ between 1 16777216 s.pic_size_in_map_units
    ∷ [])

-- a change rate of 0 is an absent one
unfoldable pub picture_fits : Picture → Bool
picture_fits p =
    all
    (between 0 31 p.seq_parameter_set_id
    ∷ between 0 31 p.num_ref_idx_l0_default_active_minus1
    ∷ between 0 31 p.num_ref_idx_l1_default_active_minus1
    ∷ between 0 2 p.weighted_bipred_idc
    ∷ between_z (negsuc 61) (pos 25) p.pic_init_qp_minus26
    ∷ between_z (negsuc 25) (pos 25) p.pic_init_qs_minus26
    ∷ between 0 16777216 p.slice_group_change_rate
    ∷ [])
