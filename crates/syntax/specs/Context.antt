-- What the header's syntax depends on, outside the header, and the names by which the standard's conditions call it.
use Rattle.std.specs.Prelude.{ℕ, ◌*◌, ◌%◌, Bool, true, false, not, ◌&&◌, ◌||◌, eqb, ltb, ℤ, pos, ◌+ℤ◌, neg_ℤ}
use Rattle.table.specs.declared.sets.Picture.{Picture}
use Rattle.table.specs.declared.sets.Sequence.{Sequence}
use Rattle.table.specs.declared.table.Table.{Table}
use Rattle.table.specs.Tables.{found_picture, picture_at, sequence_at}
use Rattle.table.specs.Sets.{between_z}
use Rattle.syntax.specs.declared.context.UnitKind.{UnitKind}
use Rattle.syntax.specs.declared.context.Context.{Context}
use Rattle.std.specs.Prelude.{Option, Some, None}

-- ---- slice_type modulo 5 (table 7-6)

abbrev pub is_p : ℕ → Bool
is_p k = eqb (k % 5) 0

abbrev pub is_b : ℕ → Bool
is_b k = eqb (k % 5) 1

abbrev pub is_i : ℕ → Bool
is_i k = eqb (k % 5) 2

abbrev pub is_sp : ℕ → Bool
is_sp k = eqb (k % 5) 3

abbrev pub is_si : ℕ → Bool
is_si k = eqb (k % 5) 4

-- a list 0 of references: P, SP, B
abbrev pub has_l0 : ℕ → Bool
has_l0 k = is_p k || (is_sp k || is_b k)

-- ---- the sets that a picture set id names

abbrev pub is_there : Option (Picture × ℕ) → Bool
is_there (found_picture p w) = true
is_there None = false

abbrev pub is_there_too : Option Sequence → Bool
is_there_too (Some s) = true
is_there_too None = false

-- what stands for a set that is not there: the header is refused before anything is read of it
abbrev pub no_picture : Picture
no_picture =
    record {
      seq_parameter_set_id = 0;
      entropy_coding_mode_flag = false;
      bottom_field_pic_order_in_frame_present_flag = false;
      num_ref_idx_l0_default_active_minus1 = 0;
      num_ref_idx_l1_default_active_minus1 = 0;
      weighted_pred_flag = false;
      weighted_bipred_idc = 0;
      pic_init_qp_minus26 = pos 0;
      pic_init_qs_minus26 = pos 0;
      deblocking_filter_control_present_flag = false;
      redundant_pic_cnt_present_flag = false;
      slice_group_change_rate = 0;
    }

abbrev pub no_sequence : Sequence
no_sequence =
    record {
      chroma_format_idc = 0;
      separate_colour_plane_flag = false;
      bit_depth_luma_minus8 = 0;
      log2_max_frame_num = 0;
      pic_order_cnt_type = 0;
      log2_max_pic_order_cnt_lsb_minus4 = 0;
      delta_pic_order_always_zero_flag = false;
      frame_mbs_only_flag = false;
      pic_size_in_map_units = 0;
    }

abbrev pub picture_in : Option (Picture × ℕ) → Picture
picture_in (found_picture p w) = p
picture_in None = no_picture

abbrev pub width_in : Option (Picture × ℕ) → ℕ
width_in (found_picture p w) = w
width_in None = 0

abbrev pub sequence_in : Option Sequence → Sequence
sequence_in (Some s) = s
sequence_in None = no_sequence

unfoldable pub picture_for : Table → ℕ → Picture
picture_for t id = picture_in (picture_at t id)

-- the change cycle's width as it stands in the table, true or not
unfoldable pub width_for : Table → ℕ → ℕ
width_for t id = width_in (picture_at t id)

unfoldable pub sequence_id_for : Table → ℕ → ℕ
sequence_id_for t id = (picture_for t id).seq_parameter_set_id

unfoldable pub sequence_for : Table → ℕ → Sequence
sequence_for t id = sequence_in (sequence_at t (sequence_id_for t id))

unfoldable pub context_for : Table → UnitKind → ℕ → Context
context_for t n id = record { kind = n; picture = picture_for t id; sequence = sequence_for t id; cycle_width = width_for t id }

-- QP and QS (7.4.3: SliceQPY and QSY): 26, what the picture set begins with, and the header's difference; a sum of integers, which cannot wrap
abbrev pub level : ℤ → ℤ → ℤ
level init delta = pos 26 +ℤ init +ℤ delta

-- ---- conditions of 7.3.3 on the sets

module _ (x : Context) where
  abbrev p : Picture
  p = x.picture

  abbrev s : Sequence
  s = x.sequence

  -- ChromaArrayType is not 0
  abbrev pub has_chroma : Bool
  has_chroma = not s.separate_colour_plane_flag && not (eqb s.chroma_format_idc 0)

  abbrev pub order_type : ℕ → Bool
  order_type n = eqb s.pic_order_cnt_type n

  -- cabac_init_idc is there
  abbrev pub has_cabac : ℕ → Bool
  has_cabac k = p.entropy_coding_mode_flag && (not (is_i k) && not (is_si k))

  -- pred_weight_table( ) is there
  abbrev pub is_weighted : ℕ → Bool
  is_weighted k = (p.weighted_pred_flag && (is_p k || is_sp k)) || (eqb p.weighted_bipred_idc 1 && is_b k)

  -- QP and QS in range
  abbrev pub qp_fits : ℤ → Bool
  qp_fits d = between_z (neg_ℤ (pos (6 * s.bit_depth_luma_minus8))) (pos 51) (level p.pic_init_qp_minus26 d)

  abbrev pub qs_fits : ℤ → Bool
  qs_fits d = between_z (pos 0) (pos 51) (level p.pic_init_qs_minus26 d)

  -- slice_group_map_type 3 to 5: the picture set has a change rate
  abbrev pub is_changing : Bool
  is_changing = ltb 0 p.slice_group_change_rate
