-- Worked examples, by computing: a real set, each type of slice groups, and each refusal. The bytes were made by another program, from the syntax table.
use Prim.Native.Nat.{ℕ}
use mathlib.Core.Path.{◌≡◌, refl}
use mathlib.Core.List.{[], ◌∷◌}
use mathlib.Core.Bool.{Bool, true, false}
use lib.IntN.{ℤ, pos, negsuc}
use Rattle.bits.specs.Refusals.{got, no, refusal_at}
use Rattle.bits.specs.Bits.{digits, number_of, bytes_bits}
use Rattle.bits.specs.Codes.{fixed_at, ue_at, code_at, suffix_at, se_of}
use Rattle.fmt.specs.Fmt.{seq, test}
use Rattle.fmt.specs.Leaves.{flag, u, ue, se}
use Rattle.fmt.specs.Reads.{found, next, read_if, passes}
use Rattle.table.specs.declared.sets.Picture.{Picture}
use Rattle.parameter_sets.specs.declared.picture.PictureSet.{PictureSet}
use Rattle.parameter_sets.specs.SequenceSet.{up_to, within}
use Rattle.parameter_sets.specs.PictureSet.{picture_lead, change_rate, group_ids, group_map, slice_groups, references, levels, picture_set}

abbrev picture : ℕ → Bool → Bool → ℕ → ℕ → Bool → ℕ → ℤ → ℤ → Bool → Bool → ℕ → Picture
picture sps cabac bottom l0 l1 wp bi qp qs deb red rate =
    record {
      seq_parameter_set_id = sps;
      entropy_coding_mode_flag = cabac;
      bottom_field_pic_order_in_frame_present_flag = bottom;
      num_ref_idx_l0_default_active_minus1 = l0;
      num_ref_idx_l1_default_active_minus1 = l1;
      weighted_pred_flag = wp;
      weighted_bipred_idc = bi;
      pic_init_qp_minus26 = qp;
      pic_init_qs_minus26 = qs;
      deblocking_filter_control_present_flag = deb;
      redundant_pic_cnt_present_flag = red;
      slice_group_change_rate = rate;
    }

abbrev set : ℕ → Picture → PictureSet
set id p = record { pic_parameter_set_id = id; picture = p }

-- as x264 writes it: EB E3 CB 22 C0
pub x264 : picture_set (bytes_bits (235 ∷ 227 ∷ 203 ∷ 34 ∷ 192 ∷ [])) 0 ≡ got (set 0 (picture 0 true false 2 0 true 2 (negsuc 2) (pos 0) true false 0)) 26
unfolding picture_set picture_lead change_rate group_ids group_map slice_groups references levels up_to within next found read_if passes seq test flag u ue se fixed_at ue_at code_at suffix_at se_of digits number_of bytes_bits
x264 = refl

-- type 0, three groups, a run for each: 00 80 02 01 E5 40 80 10 0E 20
pub runs : picture_set (bytes_bits (0 ∷ 128 ∷ 2 ∷ 1 ∷ 229 ∷ 64 ∷ 128 ∷ 16 ∷ 14 ∷ 32 ∷ [])) 0 ≡ got (set 255 (picture 31 false false 31 31 false 0 (pos 0) (pos 0) false false 0)) 74
unfolding picture_set picture_lead change_rate group_ids group_map slice_groups references levels up_to within next found read_if passes seq test flag u ue se fixed_at ue_at code_at suffix_at se_of digits number_of bytes_bits
runs = refl

-- type 1 has nothing: C4 BD C4
pub dispersed : picture_set (bytes_bits (196 ∷ 189 ∷ 196 ∷ [])) 0 ≡ got (set 0 (picture 0 false false 0 0 true 2 (pos 0) (pos 0) false false 0)) 21
unfolding picture_set picture_lead change_rate group_ids group_map slice_groups references levels up_to within next found read_if passes seq test flag u ue se fixed_at ue_at code_at suffix_at se_of digits number_of bytes_bits
dispersed = refl

-- type 2, three groups, a pair for each but the last: C6 E4 28 AC 01 F4 1A C4
pub pairs : picture_set (bytes_bits (198 ∷ 228 ∷ 40 ∷ 172 ∷ 1 ∷ 244 ∷ 26 ∷ 196 ∷ [])) 0 ≡ got (set 0 (picture 0 false false 0 0 false 0 (negsuc 61) (negsuc 25) false false 0)) 61
unfolding picture_set picture_lead change_rate group_ids group_map slice_groups references levels up_to within next found read_if passes seq test flag u ue se fixed_at ue_at code_at suffix_at se_of digits number_of bytes_bits
pairs = refl

-- type 3, the greatest rate: C4 48 00 00 04 00 00 03 00 C8 19 44
pub box : picture_set (bytes_bits (196 ∷ 72 ∷ 0 ∷ 0 ∷ 4 ∷ 0 ∷ 0 ∷ 3 ∷ 0 ∷ 200 ∷ 25 ∷ 68 ∷ [])) 0 ≡ got (set 0 (picture 0 false false 0 0 false 0 (pos 25) (pos 25) false false 16777216)) 93
unfolding picture_set picture_lead change_rate group_ids group_map slice_groups references levels up_to within next found read_if passes seq test flag u ue se fixed_at ue_at code_at suffix_at se_of digits number_of bytes_bits
box = refl

-- type 4: C4 57 18 64 40
pub raster : picture_set (bytes_bits (196 ∷ 87 ∷ 24 ∷ 100 ∷ 64 ∷ [])) 0 ≡ got (set 0 (picture 0 false false 0 0 false 0 (pos 0) (pos 0) false false 1)) 33
unfolding picture_set picture_lead change_rate group_ids group_map slice_groups references levels up_to within next found read_if passes seq test flag u ue se fixed_at ue_at code_at suffix_at se_of digits number_of bytes_bits
raster = refl

-- type 5: C4 60 9C 7B
pub wipe : picture_set (bytes_bits (196 ∷ 96 ∷ 156 ∷ 123 ∷ [])) 0 ≡ got (set 0 (picture 0 false false 0 0 false 0 (pos 0) (pos 0) true true 9)) 31
unfolding picture_set picture_lead change_rate group_ids group_map slice_groups references levels up_to within next found read_if passes seq test flag u ue se fixed_at ue_at code_at suffix_at se_of digits number_of bytes_bits
wipe = refl

-- type 6, five groups: four ids of three bits: C2 9C 82 23 8F 20
pub ids : picture_set (bytes_bits (194 ∷ 156 ∷ 130 ∷ 35 ∷ 143 ∷ 32 ∷ [])) 0 ≡ got (set 0 (picture 0 false false 0 0 false 0 (pos 0) (pos 0) true false 0)) 42
unfolding picture_set picture_lead change_rate group_ids group_map slice_groups references levels up_to within next found read_if passes seq test flag u ue se fixed_at ue_at code_at suffix_at se_of digits number_of bytes_bits
ids = refl

-- type 6, four groups, 2 ^ 32 - 1 ids, of which few are there: C2 1C 00 00 00 07 FF FF FF FC
pub huge : picture_set (bytes_bits (194 ∷ 28 ∷ 0 ∷ 0 ∷ 0 ∷ 7 ∷ 255 ∷ 255 ∷ 255 ∷ 252 ∷ [])) 0 ≡ no (refusal_at 5 (pos 0) 79)
unfolding picture_set picture_lead change_rate group_ids group_map slice_groups references levels up_to within next found read_if passes seq test flag u ue se fixed_at ue_at code_at suffix_at se_of digits number_of bytes_bits
huge = refl

-- set 256: 00 80 CE 38 80
pub id-256 : picture_set (bytes_bits (0 ∷ 128 ∷ 206 ∷ 56 ∷ 128 ∷ [])) 0 ≡ no (refusal_at 28 (pos 0) 0)
unfolding picture_set picture_lead change_rate group_ids group_map slice_groups references levels up_to within next found read_if passes seq test flag u ue se fixed_at ue_at code_at suffix_at se_of digits number_of bytes_bits
id-256 = refl

-- nine groups: C1 3F
pub nine : picture_set (bytes_bits (193 ∷ 63 ∷ [])) 0 ≡ no (refusal_at 28 (pos 0) 4)
unfolding picture_set picture_lead change_rate group_ids group_map slice_groups references levels up_to within next found read_if passes seq test flag u ue se fixed_at ue_at code_at suffix_at se_of digits number_of bytes_bits
nine = refl

-- type 7: C4 23 E0
pub type-7 : picture_set (bytes_bits (196 ∷ 35 ∷ 224 ∷ [])) 0 ≡ no (refusal_at 28 (pos 0) 7)
unfolding picture_set picture_lead change_rate group_ids group_map slice_groups references levels up_to within next found read_if passes seq test flag u ue se fixed_at ue_at code_at suffix_at se_of digits number_of bytes_bits
type-7 = refl

-- weighted_bipred_idc 3: CE F8 80
pub idc-3 : picture_set (bytes_bits (206 ∷ 248 ∷ 128 ∷ [])) 0 ≡ no (refusal_at 28 (pos 0) 8)
unfolding picture_set picture_lead change_rate group_ids group_map slice_groups references levels up_to within next found read_if passes seq test flag u ue se fixed_at ue_at code_at suffix_at se_of digits number_of bytes_bits
idc-3 = refl

-- an initial QP of -37: CE 00 FF 88
pub qp : picture_set (bytes_bits (206 ∷ 0 ∷ 255 ∷ 136 ∷ [])) 0 ≡ no (refusal_at 28 (pos 0) 10)
unfolding picture_set picture_lead change_rate group_ids group_map slice_groups references levels up_to within next found read_if passes seq test flag u ue se fixed_at ue_at code_at suffix_at se_of digits number_of bytes_bits
qp = refl

-- a rate of 16,777,217: C4 40 00 00 04 00 00 06
pub rate : picture_set (bytes_bits (196 ∷ 64 ∷ 0 ∷ 0 ∷ 4 ∷ 0 ∷ 0 ∷ 6 ∷ [])) 0 ≡ no (refusal_at 28 (pos 0) 13)
unfolding picture_set picture_lead change_rate group_ids group_map slice_groups references levels up_to within next found read_if passes seq test flag u ue se fixed_at ue_at code_at suffix_at se_of digits number_of bytes_bits
rate = refl
