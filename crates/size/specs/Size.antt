-- How many bits a slice header has at most (M-110): what each part has at most, in the header's order, then their sum, a formula over the lengths of the lists
-- and the counts of active references. ue(v) and se(v) have at most 63 bits, and fewer where the rules bound the number.
use Rattle.std.specs.Prelude.{ℕ, ◌+◌, ◌*◌, ◌≤◌, ◌≡◌, Bool, false, T, length}
use Rattle.fmt.specs.Fmt.{Fmt}
use Rattle.table.specs.declared.sets.Picture.{Picture}
use Rattle.table.specs.declared.table.Table.{Table}
use Rattle.syntax.specs.declared.context.UnitKind.{UnitKind}
use Rattle.syntax.specs.declared.context.Context.{Context}
use Rattle.syntax.specs.declared.record.SliceHeader.{SliceHeader}
use Rattle.syntax.specs.Context.{context_for}
use Rattle.syntax.specs.SliceHeader.{active_of, lead, frame, order_count, active_counts, modifications, pred_weight_table, dec_ref_pic_marking, quantiser, filter}

-- first_mb_in_slice; slice_type, up to 9; pic_parameter_set_id, up to 255
abbrev pub lead_most : ℕ
lead_most = 63 + 7 + 17

-- colour_plane_id, frame_num, field_pic_flag, bottom_field_flag, idr_pic_id
abbrev pub frame_most : ℕ
frame_most = 2 + 16 + 1 + 1 + 63

-- delta_pic_order_cnt[0] and [1], redundant_pic_cnt. Order type 0 has fewer: 16, 63 and 63
abbrev pub order_most : ℕ
order_most = 63 + 63 + 63

-- direct_spatial_mv_pred_flag, num_ref_idx_active_override_flag, and two counts, up to 31
abbrev pub counts_most : ℕ
counts_most = 1 + 1 + 11 + 11

-- a list of m modifications: its flag, m codes with an operand each, the closing code 3
abbrev pub modification_most : ℕ → ℕ
modification_most m = 1 + (5 + 63) * m + 5

-- two denominators; for each of n references two flags, and a weight and an offset for each of three colours
abbrev pub weights_most : ℕ → ℕ
weights_most n = 63 + 63 + (1 + 1 + 6 * 63) * n

-- d operations of marking: a flag, d codes with two operands each, the closing code 0. An IDR picture has two flags
abbrev pub marking_most : ℕ → ℕ
marking_most d = 1 + (5 + 63 + 63) * d + 1

-- cabac_init_idc; slice_qp_delta, from -87 to 87; sp_for_switch_flag; slice_qs_delta, from -51 to 51
abbrev pub quantiser_most : ℕ
quantiser_most = 63 + 15 + 1 + 13

-- disable_deblocking_filter_idc, up to 6; two offsets, from -6 to 6; slice_group_change_cycle
abbrev pub filter_most : ℕ
filter_most = 5 + 7 + 7 + 25

-- m0 and m1 modifications, d operations of marking, n0 and n1 active references
unfoldable pub most_bits : ℕ → ℕ → ℕ → ℕ → ℕ → ℕ
most_bits m0 m1 d n0 n1 =
    lead_most + frame_most + order_most + counts_most + (modification_most m0 + modification_most m1) + weights_most (n0 + n1) + marking_most d + quantiser_most + filter_most

-- of a record, where p is the picture set that it names
unfoldable pub bound_of : Picture → SliceHeader → ℕ
bound_of p h =
    most_bits h.modifications.l0.operations.count h.modifications.l1.operations.count h.dec_ref_pic_marking.operations.count
    (active_of h.active_counts.num_ref_idx_l0_active_minus1 p.num_ref_idx_l0_default_active_minus1)
    (active_of h.active_counts.num_ref_idx_l1_active_minus1 p.num_ref_idx_l1_default_active_minus1)

-- ---- no part has more than its most

-- under every table, for every unit and picture set, a value that is written has at most so many bits
abbrev pub Bounded : {A : Type 0} → (Table → Context → Fmt A) → (A → ℕ) → Type 0
Bounded {A} part most =
    (t : Table) (n : UnitKind) (id : ℕ) (v : A) → T ((part t (context_for t n id)).good v) → length ((part t (context_for t n id)).bits v) ≤ most v

-- in a slice of any type k, with n0 and n1 active references
pub record EachBounded : Type 0 where
  pub lead-most : Bounded (λ t x. lead t) (λ v. lead_most)
  pub frame-most : Bounded (λ t x. frame x) (λ v. frame_most)
  pub order-most : (field : Bool) → Bounded (λ t x. order_count x field) (λ v. order_most)
  pub counts-most : (k : ℕ) → Bounded (λ t x. active_counts k) (λ v. counts_most)
  pub modifications-most : (k : ℕ) → Bounded (λ t x. modifications x k) (λ m. modification_most m.l0.operations.count + modification_most m.l1.operations.count)
  pub weights-most : (k n0 n1 : ℕ) → Bounded (λ t x. pred_weight_table x k n0 n1) (λ w. weights_most (n0 + n1))
  pub marking-most : Bounded (λ t x. dec_ref_pic_marking x) (λ m. marking_most m.operations.count)
  pub quantiser-most : (k : ℕ) → Bounded (λ t x. quantiser x k) (λ v. quantiser_most)
  pub filter-most : Bounded (λ t x. filter x) (λ v. filter_most)

-- ---- each part's most is reached, so that no smaller formula will do

-- under some table, for some unit and picture set, a value that is written has n bits
pub record Reached {A : Type 0} (part : Table → Context → Fmt A) (such : A → Type 0) (n : ℕ) : Type 0 where
  pub table : Table
  pub kind : UnitKind
  pub id : ℕ
  pub value : A
  pub is-good : T ((part table (context_for table kind id)).good value)
  pub size : length ((part table (context_for table kind id)).bits value) ≡ n
  pub is-such : such value

abbrev pub any : {A : Type 0} → A → Type 0
any v = Unit {0}

-- in B slices (1), and for sp_for_switch_flag and slice_qs_delta in SP slices (3)
pub record EachReached : Type 0 where
  pub lead-met : Reached (λ t x. lead t) any lead_most
  pub frame-met : Reached (λ t x. frame x) any frame_most
  pub order-met : Reached (λ t x. order_count x false) any order_most
  pub counts-met : Reached (λ t x. active_counts 1) any counts_most
  pub modifications-met : (m0 m1 : ℕ) → m0 ≤ 66 → m1 ≤ 66
      → Reached (λ t x. modifications x 1) (λ m. (m.l0.operations.count ≡ m0) × (m.l1.operations.count ≡ m1)) (modification_most m0 + modification_most m1)
  pub weights-met : (n0 n1 : ℕ) → n0 ≤ 32 → n1 ≤ 32 → Reached (λ t x. pred_weight_table x 1 n0 n1) any (weights_most (n0 + n1))
  pub marking-met : (d : ℕ) → d ≤ 66 → Reached (λ t x. dec_ref_pic_marking x) (λ m. m.operations.count ≡ d) (marking_most d)
  pub quantiser-met : Reached (λ t x. quantiser x 3) any quantiser_most
  pub filter-met : Reached (λ t x. filter x) any filter_most
