-- What a set within the rules' ranges says of its fields, as inequalities.
use mathlib.Core.Path.{◌≡◌}
use mathlib.Core.Bool.{true}
use Prim.Native.Nat.{ℕ, ◌≤◌}
use native.Mathlib.Omega.{arith}
use borrow.Author.Tests.{leb-true, eqb-true}
use lib.Dec.{leb}
use lib.IntN.{ℤ, pos, negsuc}
use lib.Signed.{mag, le_z}
use Rattle.table.specs.declared.sets.Picture.{Picture}
use Rattle.table.specs.declared.sets.Sequence.{Sequence}
use Rattle.table.specs.Sets.{between, between_z, sequence_fits, picture_fits}
use Rattle.table.proofs.Tests.{both, each}

low : (a b n : ℕ) → between a b n ≡ true → a ≤ n
low a b n h = leb-true a n (both (leb a n) (leb n b) h).0

high : (a b n : ℕ) → between a b n ≡ true → n ≤ b
high a b n h = leb-true n b (both (leb a n) (leb n b) h).1

least : (a b z : ℤ) → between_z a b z ≡ true → le_z a z ≡ true
least a b z h = (both (le_z a z) (le_z z b) h).0

most : (a b z : ℤ) → between_z a b z ≡ true → le_z z b ≡ true
most a b z h = (both (le_z a z) (le_z z b) h).1

-- a signed number from -(m + 1) to m at most
pub mag-most : (m k : ℕ) (z : ℤ) → k ≤ m → between_z (negsuc m) (pos k) z ≡ true → mag z ≤ m
mag-most m k (pos n) h t = omega (arith, leb-true n k t)
mag-most m k (negsuc n) h t = leb-true n m (both (leb n m) true t).0

-- ---- sequence sets

pub record SequenceRanges (s : Sequence) : Type 0 where
  pub chroma-most : s.chroma_format_idc ≤ 3
  pub planes : s.separate_colour_plane_flag ≡ true → s.chroma_format_idc ≡ 3
  pub depth-most : s.bit_depth_luma_minus8 ≤ 6
  pub frame-num-least : 4 ≤ s.log2_max_frame_num
  pub frame-num-most : s.log2_max_frame_num ≤ 16
  pub order-most : s.pic_order_cnt_type ≤ 2
  pub lsb-most : s.log2_max_pic_order_cnt_lsb_minus4 ≤ 12
  pub units-least : 1 ≤ s.pic_size_in_map_units
  pub units-most : s.pic_size_in_map_units ≤ 16777216

pub sequence-ranges : (s : Sequence) → sequence_fits s ≡ true → SequenceRanges s
unfolding sequence_fits
sequence-ranges s h =
    let e = each _ h in
    record {
      chroma-most = high 0 3 s.chroma_format_idc e.0;
      planes = λ p. eqb-true s.chroma_format_idc 3 (rw p at e.1.0);
      depth-most = high 0 6 s.bit_depth_luma_minus8 e.1.1.0;
      frame-num-least = low 4 16 s.log2_max_frame_num e.1.1.1.0;
      frame-num-most = high 4 16 s.log2_max_frame_num e.1.1.1.0;
      order-most = high 0 2 s.pic_order_cnt_type e.1.1.1.1.0;
      lsb-most = high 0 12 s.log2_max_pic_order_cnt_lsb_minus4 e.1.1.1.1.1.0;
      units-least = low 1 16777216 s.pic_size_in_map_units e.1.1.1.1.1.1.0;
      units-most = high 1 16777216 s.pic_size_in_map_units e.1.1.1.1.1.1.0;
    }

-- ---- picture sets

pub record PictureRanges (p : Picture) : Type 0 where
  pub sequence-most : p.seq_parameter_set_id ≤ 31
  pub active0-most : p.num_ref_idx_l0_default_active_minus1 ≤ 31
  pub active1-most : p.num_ref_idx_l1_default_active_minus1 ≤ 31
  pub bipred-most : p.weighted_bipred_idc ≤ 2
  pub qp : between_z (negsuc 61) (pos 25) p.pic_init_qp_minus26 ≡ true
  pub qp-least : le_z (negsuc 61) p.pic_init_qp_minus26 ≡ true
  pub qp-most : le_z p.pic_init_qp_minus26 (pos 25) ≡ true
  pub qp-mag : mag p.pic_init_qp_minus26 ≤ 61
  pub qs : between_z (negsuc 25) (pos 25) p.pic_init_qs_minus26 ≡ true
  pub qs-least : le_z (negsuc 25) p.pic_init_qs_minus26 ≡ true
  pub qs-most : le_z p.pic_init_qs_minus26 (pos 25) ≡ true
  pub qs-mag : mag p.pic_init_qs_minus26 ≤ 25
  pub rate-most : p.slice_group_change_rate ≤ 16777216

pub picture-ranges : (p : Picture) → picture_fits p ≡ true → PictureRanges p
unfolding picture_fits
picture-ranges p h =
    let e = each _ h in
    record {
      sequence-most = high 0 31 p.seq_parameter_set_id e.0;
      active0-most = high 0 31 p.num_ref_idx_l0_default_active_minus1 e.1.0;
      active1-most = high 0 31 p.num_ref_idx_l1_default_active_minus1 e.1.1.0;
      bipred-most = high 0 2 p.weighted_bipred_idc e.1.1.1.0;
      qp = e.1.1.1.1.0;
      qp-least = least (negsuc 61) (pos 25) p.pic_init_qp_minus26 e.1.1.1.1.0;
      qp-most = most (negsuc 61) (pos 25) p.pic_init_qp_minus26 e.1.1.1.1.0;
      qp-mag = mag-most 61 25 p.pic_init_qp_minus26 (omega arith) e.1.1.1.1.0;
      qs = e.1.1.1.1.1.0;
      qs-least = least (negsuc 25) (pos 25) p.pic_init_qs_minus26 e.1.1.1.1.1.0;
      qs-most = most (negsuc 25) (pos 25) p.pic_init_qs_minus26 e.1.1.1.1.1.0;
      qs-mag = mag-most 25 25 p.pic_init_qs_minus26 (omega arith) e.1.1.1.1.1.0;
      rate-most = high 0 16777216 p.slice_group_change_rate e.1.1.1.1.1.1.0;
    }
