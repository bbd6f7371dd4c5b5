-- Two neighbouring slices: whether the second is the first of a new picture (7.4.1.2.4), and whether frames are missing between their pictures.
use Rattle.std.specs.Prelude.{ℕ, ◌+◌, ◌%◌, ◌^◌, Bool, true, false, not, ◌&&◌, ◌||◌, eqb, ℤ}
use Rattle.std.specs.Int.Signed.{le_z}
use Rattle.exposures.specs.declared.slice.Slice.{Slice}

-- two values of a field differ

abbrev pub apart : ℕ → ℕ → Bool
apart x y = not (eqb x y)

abbrev pub apart_b : Bool → Bool → Bool
apart_b true y = not y
apart_b false y = y

abbrev pub apart_z : ℤ → ℤ → Bool
apart_z x y = not (le_z x y && le_z y x)

-- frame_num differs in value, or pic_parameter_set_id does
unfoldable pub frames : Slice → Slice → Bool
frames a b = apart a.frame_num b.frame_num || apart a.pic_parameter_set_id b.pic_parameter_set_id

-- field_pic_flag differs in value, or bottom_field_flag does
unfoldable pub fields : Slice → Slice → Bool
fields a b = apart_b a.field_pic_flag b.field_pic_flag || apart_b a.bottom_field_flag b.bottom_field_flag

-- nal_ref_idc differs in value, with one of them 0
unfoldable pub references : Slice → Slice → Bool
references a b = apart a.nal_ref_idc b.nal_ref_idc && (eqb a.nal_ref_idc 0 || eqb b.nal_ref_idc 0)

-- pic_order_cnt_type is 0 for both, and pic_order_cnt_lsb or delta_pic_order_cnt_bottom differs in value
unfoldable pub counts0 : Slice → Slice → Bool
counts0 a b =
    eqb a.pic_order_cnt_type 0 && eqb b.pic_order_cnt_type 0
    && (apart a.pic_order_cnt_lsb b.pic_order_cnt_lsb || apart_z a.delta_pic_order_cnt_bottom b.delta_pic_order_cnt_bottom)

-- pic_order_cnt_type is 1 for both, and delta_pic_order_cnt[ 0 ] or delta_pic_order_cnt[ 1 ] differs in value
unfoldable pub counts1 : Slice → Slice → Bool
counts1 a b =
    eqb a.pic_order_cnt_type 1 && eqb b.pic_order_cnt_type 1
    && (apart_z a.delta_pic_order_cnt_0 b.delta_pic_order_cnt_0 || apart_z a.delta_pic_order_cnt_1 b.delta_pic_order_cnt_1)

-- IdrPicFlag differs in value, or it is 1 for both and idr_pic_id differs in value
unfoldable pub idrs : Slice → Slice → Bool
idrs a b = apart_b a.idr_pic_flag b.idr_pic_flag || a.idr_pic_flag && b.idr_pic_flag && apart a.idr_pic_id b.idr_pic_id

-- b, the slice behind a, is the first of a new picture: one of these, in the clause's order
unfoldable pub differ : Slice → Slice → Bool
differ a b = frames a b || (fields a b || (references a b || (counts0 a b || (counts1 a b || idrs a b))))

-- ---- missing frames

-- the frame_num behind n
unfoldable pub next_frame : ℕ → ℕ → ℕ
next_frame n log2 = (n + 1) % 2 ^ log2

-- s is the first slice of a picture behind one with frame_num n, and its own is neither that nor the next, by its sequence set; never where it is IDR
unfoldable pub gap_after : ℕ → Slice → Bool
gap_after n s = not s.idr_pic_flag && (apart s.frame_num n && apart s.frame_num (next_frame n s.log2_max_frame_num))
