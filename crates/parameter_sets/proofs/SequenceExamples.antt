-- Worked examples, by computing: real sets, the parts that are passed over, and each refusal. The bytes were made by another program, from the syntax table.
use Prim.Native.Nat.{ℕ}
use mathlib.Core.Path.{◌≡◌, refl}
use mathlib.Core.List.{[], ◌∷◌}
use mathlib.Core.Bool.{Bool, true, false}
use lib.IntN.{pos}
use Rattle.bits.specs.Refusals.{got, no, refusal_at}
use Rattle.bits.specs.Bits.{digits, number_of, bytes_bits}
use Rattle.bits.specs.Codes.{fixed_at, ue_at, code_at, suffix_at, se_of}
use Rattle.fmt.specs.Fmt.{test}
use Rattle.fmt.specs.Leaves.{flag, u, ue, se}
use Rattle.fmt.specs.Reads.{found, next, read_if, passes}
use Rattle.table.specs.declared.sets.Sequence.{Sequence}
use Rattle.parameter_sets.specs.declared.sequence.SequenceSet.{SequenceSet}
use Rattle.parameter_sets.specs.SequenceSet.{up_to, within, sequence_lead, scaling_list, scaling_lists, scaling_matrix, chroma, cycle, order, size, sequence_set}

abbrev sequence : ℕ → Bool → ℕ → ℕ → ℕ → ℕ → Bool → Bool → ℕ → Sequence
sequence chroma separate depth log2 type lsb zero mbs units =
    record {
      chroma_format_idc = chroma;
      separate_colour_plane_flag = separate;
      bit_depth_luma_minus8 = depth;
      log2_max_frame_num = log2;
      pic_order_cnt_type = type;
      log2_max_pic_order_cnt_lsb_minus4 = lsb;
      delta_pic_order_always_zero_flag = zero;
      frame_mbs_only_flag = mbs;
      pic_size_in_map_units = units;
    }

abbrev set : ℕ → Sequence → SequenceSet
set id s = record { seq_parameter_set_id = id; sequence = s }

-- as x264 writes a baseline set, as far as it is read: 42 C0 0B DA 0B 13
pub baseline : sequence_set (bytes_bits (66 ∷ 192 ∷ 11 ∷ 218 ∷ 11 ∷ 19 ∷ [])) 0 ≡ got (set 0 (sequence 1 false 0 4 2 0 false true 99)) 48
unfolding sequence_set sequence_lead chroma scaling_list scaling_lists scaling_matrix cycle order size up_to within next found read_if passes test flag u ue se fixed_at ue_at code_at suffix_at se_of digits number_of bytes_bits
baseline = refl

-- interlaced, main profile: 4D 40 15 EC 81 65 7E
pub main : sequence_set (bytes_bits (77 ∷ 64 ∷ 21 ∷ 236 ∷ 129 ∷ 101 ∷ 126 ∷ [])) 0 ≡ got (set 0 (sequence 1 false 0 4 0 2 false false 55)) 49
unfolding sequence_set sequence_lead chroma scaling_list scaling_lists scaling_matrix cycle order size up_to within next found read_if passes test flag u ue se fixed_at ue_at code_at suffix_at se_of digits number_of bytes_bits
main = refl

-- high profile: 64 00 0B AC D9 82 C4 E8
pub high : sequence_set (bytes_bits (100 ∷ 0 ∷ 11 ∷ 172 ∷ 217 ∷ 130 ∷ 196 ∷ 232 ∷ [])) 0 ≡ got (set 0 (sequence 1 false 0 4 0 2 false true 99)) 58
unfolding sequence_set sequence_lead chroma scaling_list scaling_lists scaling_matrix cycle order size up_to within next found read_if passes test flag u ue se fixed_at ue_at code_at suffix_at se_of digits number_of bytes_bits
high = refl

-- of a conformance clip: sizes of 15 and 16 bits: 42 F0 0B 8C 8D 24 C5 B2
pub conformance : sequence_set (bytes_bits (66 ∷ 240 ∷ 11 ∷ 140 ∷ 141 ∷ 36 ∷ 197 ∷ 178 ∷ [])) 0 ≡ got (set 0 (sequence 1 false 0 15 0 12 false true 30)) 57
unfolding sequence_set sequence_lead chroma scaling_list scaling_lists scaling_matrix cycle order size up_to within next found read_if passes test flag u ue se fixed_at ue_at code_at suffix_at se_of digits number_of bytes_bits
conformance = refl

-- list 0 stops at once, list 1 after two deltas, the others are absent: 64 00 1E 04 0B 61 18 A0 D8 1D 05 89 C0
pub stopped : sequence_set (bytes_bits (100 ∷ 0 ∷ 30 ∷ 4 ∷ 11 ∷ 97 ∷ 24 ∷ 160 ∷ 216 ∷ 29 ∷ 5 ∷ 137 ∷ 192 ∷ [])) 0 ≡ got (set 31 (sequence 1 false 0 4 0 0 false true 99)) 97
unfolding sequence_set sequence_lead chroma scaling_list scaling_lists scaling_matrix cycle order size up_to within next found read_if passes test flag u ue se fixed_at ue_at code_at suffix_at se_of digits number_of bytes_bits
stopped = refl

-- a whole list, whose scales 135, 253, 200, 1, 254, .. wrap both ways: 6E 00 1E A7 48 0F E0 1D 80 6B 03 91 DB 6D B6 DB 60 E8 2C 4E
pub wrapped : sequence_set (bytes_bits (110 ∷ 0 ∷ 30 ∷ 167 ∷ 72 ∷ 15 ∷ 224 ∷ 29 ∷ 128 ∷ 107 ∷ 3 ∷ 145 ∷ 219 ∷ 109 ∷ 182 ∷ 219 ∷ 96 ∷ 232 ∷ 44 ∷ 78 ∷ [])) 0 ≡ got (set 0 (sequence 1 false 2 4 0 0 false true 99)) 158
unfolding sequence_set sequence_lead chroma scaling_list scaling_lists scaling_matrix cycle order size up_to within next found read_if passes test flag u ue se fixed_at ue_at code_at suffix_at se_of digits number_of bytes_bits
wrapped = refl

-- list 6 is one of 64 entries: 7A 00 1E A3 D0 29 24 92 49 24 92 49 24 92 49 24 92 49 24 92 49 24 92 49 24 92 49 24 92 4E 82 C4 E0
pub long : sequence_set (bytes_bits (122 ∷ 0 ∷ 30 ∷ 163 ∷ 208 ∷ 41 ∷ 36 ∷ 146 ∷ 73 ∷ 36 ∷ 146 ∷ 73 ∷ 36 ∷ 146 ∷ 73 ∷ 36 ∷ 146 ∷ 73 ∷ 36 ∷ 146 ∷ 73 ∷ 36 ∷ 146 ∷ 73 ∷ 36 ∷ 146 ∷ 73 ∷ 36 ∷ 146 ∷ 78 ∷ 130 ∷ 196 ∷ 224 ∷ [])) 0 ≡ got (set 0 (sequence 1 false 6 4 0 0 false true 99)) 258
unfolding sequence_set sequence_lead chroma scaling_list scaling_lists scaling_matrix cycle order size up_to within next found read_if passes test flag u ue se fixed_at ue_at code_at suffix_at se_of digits number_of bytes_bits
long = refl

-- chroma format 3 with separate planes has twelve lists, here the last alone: F4 00 1E 93 A0 02 11 E8 2C 4E
pub twelve : sequence_set (bytes_bits (244 ∷ 0 ∷ 30 ∷ 147 ∷ 160 ∷ 2 ∷ 17 ∷ 232 ∷ 44 ∷ 78 ∷ [])) 0 ≡ got (set 0 (sequence 3 true 0 4 0 0 false true 99)) 78
unfolding sequence_set sequence_lead chroma scaling_list scaling_lists scaling_matrix cycle order size up_to within next found read_if passes test flag u ue se fixed_at ue_at code_at suffix_at se_of digits number_of bytes_bits
twelve = refl

-- chroma format 3 without separate planes: 2C 00 1E 91 9D 05 89 C0
pub planes : sequence_set (bytes_bits (44 ∷ 0 ∷ 30 ∷ 145 ∷ 157 ∷ 5 ∷ 137 ∷ 192 ∷ [])) 0 ≡ got (set 0 (sequence 3 false 0 4 0 0 false true 99)) 57
unfolding sequence_set sequence_lead chroma scaling_list scaling_lists scaling_matrix cycle order size up_to within next found read_if passes test flag u ue se fixed_at ue_at code_at suffix_at se_of digits number_of bytes_bits
planes = refl

-- order count type 1, a cycle of three frames: 42 00 1E 8D 51 60 00 00 00 3F FF FF FF 88 98 E5 16 25
pub cycled : sequence_set (bytes_bits (66 ∷ 0 ∷ 30 ∷ 141 ∷ 81 ∷ 96 ∷ 0 ∷ 0 ∷ 0 ∷ 63 ∷ 255 ∷ 255 ∷ 255 ∷ 136 ∷ 152 ∷ 229 ∷ 22 ∷ 37 ∷ [])) 0 ≡ got (set 0 (sequence 1 false 0 16 1 0 true false 99)) 143
unfolding sequence_set sequence_lead chroma scaling_list scaling_lists scaling_matrix cycle order size up_to within next found read_if passes test flag u ue se fixed_at ue_at code_at suffix_at se_of digits number_of bytes_bits
cycled = refl

-- 16,777,216 map units: 42 00 1E DA 00 04 00 00 02 00 08
pub largest : sequence_set (bytes_bits (66 ∷ 0 ∷ 30 ∷ 218 ∷ 0 ∷ 4 ∷ 0 ∷ 0 ∷ 2 ∷ 0 ∷ 8 ∷ [])) 0 ≡ got (set 0 (sequence 1 false 0 4 2 0 false false 16777216)) 84
unfolding sequence_set sequence_lead chroma scaling_list scaling_lists scaling_matrix cycle order size up_to within next found read_if passes test flag u ue se fixed_at ue_at code_at suffix_at se_of digits number_of bytes_bits
largest = refl

-- set 32: 42 00 1E 04 3D 05 89 C0
pub id-32 : sequence_set (bytes_bits (66 ∷ 0 ∷ 30 ∷ 4 ∷ 61 ∷ 5 ∷ 137 ∷ 192 ∷ [])) 0 ≡ no (refusal_at 28 (pos 0) 24)
unfolding sequence_set sequence_lead chroma scaling_list scaling_lists scaling_matrix cycle order size up_to within next found read_if passes test flag u ue se fixed_at ue_at code_at suffix_at se_of digits number_of bytes_bits
id-32 = refl

-- chroma format 4: 64 00 1E 97 3A 0B 13 80
pub chroma-4 : sequence_set (bytes_bits (100 ∷ 0 ∷ 30 ∷ 151 ∷ 58 ∷ 11 ∷ 19 ∷ 128 ∷ [])) 0 ≡ no (refusal_at 28 (pos 0) 25)
unfolding sequence_set sequence_lead chroma scaling_list scaling_lists scaling_matrix cycle order size up_to within next found read_if passes test flag u ue se fixed_at ue_at code_at suffix_at se_of digits number_of bytes_bits
chroma-4 = refl

-- 15 bits of depth: 64 00 1E A1 13 A0 B1 38
pub depth-7 : sequence_set (bytes_bits (100 ∷ 0 ∷ 30 ∷ 161 ∷ 19 ∷ 160 ∷ 177 ∷ 56 ∷ [])) 0 ≡ no (refusal_at 28 (pos 0) 28)
unfolding sequence_set sequence_lead chroma scaling_list scaling_lists scaling_matrix cycle order size up_to within next found read_if passes test flag u ue se fixed_at ue_at code_at suffix_at se_of digits number_of bytes_bits
depth-7 = refl

-- a delta of 128: 64 00 1E AD 80 40 00 74 16 27
pub delta-128 : sequence_set (bytes_bits (100 ∷ 0 ∷ 30 ∷ 173 ∷ 128 ∷ 64 ∷ 0 ∷ 116 ∷ 22 ∷ 39 ∷ [])) 0 ≡ no (refusal_at 28 (pos 0) 33)
unfolding sequence_set sequence_lead chroma scaling_list scaling_lists scaling_matrix cycle order size up_to within next found read_if passes test flag u ue se fixed_at ue_at code_at suffix_at se_of digits number_of bytes_bits
delta-128 = refl

-- frame_num of 17 bits: 42 00 1E 8E D0 58 9C
pub log2-17 : sequence_set (bytes_bits (66 ∷ 0 ∷ 30 ∷ 142 ∷ 208 ∷ 88 ∷ 156 ∷ [])) 0 ≡ no (refusal_at 28 (pos 0) 25)
unfolding sequence_set sequence_lead chroma scaling_list scaling_lists scaling_matrix cycle order size up_to within next found read_if passes test flag u ue se fixed_at ue_at code_at suffix_at se_of digits number_of bytes_bits
log2-17 = refl

-- order count type 3: 42 00 1E C8 82 C4 E0
pub type-3 : sequence_set (bytes_bits (66 ∷ 0 ∷ 30 ∷ 200 ∷ 130 ∷ 196 ∷ 224 ∷ [])) 0 ≡ no (refusal_at 28 (pos 0) 26)
unfolding sequence_set sequence_lead chroma scaling_list scaling_lists scaling_matrix cycle order size up_to within next found read_if passes test flag u ue se fixed_at ue_at code_at suffix_at se_of digits number_of bytes_bits
type-3 = refl

-- pic_order_cnt_lsb of 17 bits: 42 00 1E E3 90 58 9C
pub lsb-17 : sequence_set (bytes_bits (66 ∷ 0 ∷ 30 ∷ 227 ∷ 144 ∷ 88 ∷ 156 ∷ [])) 0 ≡ no (refusal_at 28 (pos 0) 27)
unfolding sequence_set sequence_lead chroma scaling_list scaling_lists scaling_matrix cycle order size up_to within next found read_if passes test flag u ue se fixed_at ue_at code_at suffix_at se_of digits number_of bytes_bits
lsb-17 = refl

-- a cycle of 256 frames: 42 00 1E D3 00 80 A0 B1 38
pub cycle-256 : sequence_set (bytes_bits (66 ∷ 0 ∷ 30 ∷ 211 ∷ 0 ∷ 128 ∷ 160 ∷ 177 ∷ 56 ∷ [])) 0 ≡ no (refusal_at 28 (pos 0) 32)
unfolding sequence_set sequence_lead chroma scaling_list scaling_lists scaling_matrix cycle order size up_to within next found read_if passes test flag u ue se fixed_at ue_at code_at suffix_at se_of digits number_of bytes_bits
cycle-256 = refl

-- 4,096 × 4,097 map units: 42 00 1E DA 00 04 00 00 02 00 38
pub large : sequence_set (bytes_bits (66 ∷ 0 ∷ 30 ∷ 218 ∷ 0 ∷ 4 ∷ 0 ∷ 0 ∷ 2 ∷ 0 ∷ 56 ∷ [])) 0 ≡ no (refusal_at 28 (pos 0) 58)
unfolding sequence_set sequence_lead chroma scaling_list scaling_lists scaling_matrix cycle order size up_to within next found read_if passes test flag u ue se fixed_at ue_at code_at suffix_at se_of digits number_of bytes_bits
large = refl

-- 65,536 × 65,536 map units, which is 0 in 32 bits: 42 00 1E DA 00 00 40 00 00 00 20 00 18
pub product-wraps : sequence_set (bytes_bits (66 ∷ 0 ∷ 30 ∷ 218 ∷ 0 ∷ 0 ∷ 64 ∷ 0 ∷ 0 ∷ 0 ∷ 32 ∷ 0 ∷ 24 ∷ [])) 0 ≡ no (refusal_at 28 (pos 0) 66)
unfolding sequence_set sequence_lead chroma scaling_list scaling_lists scaling_matrix cycle order size up_to within next found read_if passes test flag u ue se fixed_at ue_at code_at suffix_at se_of digits number_of bytes_bits
product-wraps = refl

-- a cycle of 200 frames, of which two are there: 42 00 1E D3 01 92 98
pub short-cycle : sequence_set (bytes_bits (66 ∷ 0 ∷ 30 ∷ 211 ∷ 1 ∷ 146 ∷ 152 ∷ [])) 0 ≡ no (refusal_at 5 (pos 0) 53)
unfolding sequence_set sequence_lead chroma scaling_list scaling_lists scaling_matrix cycle order size up_to within next found read_if passes test flag u ue se fixed_at ue_at code_at suffix_at se_of digits number_of bytes_bits
short-cycle = refl

-- 32 zeros: 42 00 1E D3 00 00 00 00 00
pub many-zeros : sequence_set (bytes_bits (66 ∷ 0 ∷ 30 ∷ 211 ∷ 0 ∷ 0 ∷ 0 ∷ 0 ∷ 0 ∷ [])) 0 ≡ no (refusal_at 6 (pos 0) 32)
unfolding sequence_set sequence_lead chroma scaling_list scaling_lists scaling_matrix cycle order size up_to within next found read_if passes test flag u ue se fixed_at ue_at code_at suffix_at se_of digits number_of bytes_bits
many-zeros = refl
