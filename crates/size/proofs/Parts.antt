-- No part of a header has more bits than specs/Size says.
use Prim.Native.Nat.{ℕ, zero, suc, ◌+◌, ◌*◌, ◌^◌, ◌≤◌, ◌<◌}
use mathlib.Core.Path.{◌≡◌}
use mathlib.Core.List.{List, [], ◌∷◌, ◌++◌}
use mathlib.Core.Bool.{Bool, true, false, not, ◌&&◌}
use native.Mathlib.Omega.{arith}
use native.Mathlib.Nat.{mul-suc}
use borrow.Author.Tests.{leb-false, ne_eqb}
use lib.Dec.{T, eqb, leb, leb→le}
use lib.IntN.{ℤ, pos}
use lib.ListN.{length, length-append}
use lib.Signed.{mag}
use Rattle.bits.specs.Refusals.{pick}
use Rattle.bits.specs.Codes.{width_of}
use Rattle.bits.proofs.Results.{cases}
use Rattle.fmt.specs.Fmt.{Fmt, seq, shaped, test, when, until}
use Rattle.fmt.specs.Leaves.{u, ue, se}
use Rattle.fmt.proofs.Lawful.{both-0, both-1, T_true}
use Rattle.fmt.proofs.Sizes.{Short, u-short, ue-short, se-short, shaped-short, test_short}
use Rattle.table.specs.declared.table.Table.{Table}
use Rattle.syntax.specs.declared.context.Context.{Context}
use Rattle.syntax.specs.declared.record.Operations.{Operations}
use Rattle.syntax.specs.Marks.{is_zero_z, number_if, signed_if, flag_if, given}
use Rattle.syntax.specs.Lists.{entries, of_operations, ok_operations, code, operands, operations, no_operations, is_no_operations, operations_if}
use Rattle.syntax.specs.Context.{is_changing, qp_fits, qs_fits}
use Rattle.syntax.specs.SliceHeader.{slice_type, picture_set_id, lead, frame, deltas, order_count, active_minus1, active_counts, modifications, pred_weight_table, marking_kind, dec_ref_pic_marking, offset_fits, quantiser, filter}
use Rattle.syntax.proofs.Operations.{length-of-operations}
use Rattle.syntax.proofs.Sizes.{then, u-most, number_if-short, signed_if-short, flag_if-short}
use Rattle.syntax.proofs.ListSizes.{Within, short-within, within-le, seq-within, shaped-within, given-within, ue-small, code-short}
use Rattle.syntax.proofs.HeaderSize.{modifications-within, pred_weight_table-within, marking-operands}
use Rattle.size.specs.Size.{lead_most, frame_most, order_most, counts_most, modification_most, weights_most, marking_most, quantiser_most, filter_most}
use Rattle.size.proofs.Deltas.{se-small, qp-near, qs-near, offset_near}
use Rattle.size.proofs.Sized.{Sized}
use Rattle.syntax.specs.declared.marks.Marked.{Marked}

-- ---- numbers that a test bounds

pub ue-to : (ok : ℕ → Bool) (n : ℕ) (value : ℕ → ℤ) (z : ℕ) → ((v : ℕ) → T (ok v) → v + 1 < 2 ^ (z + 1)) → Short (test ok n value ue) (2 * z + 1)
unfolding test ue
ue-to ok n value z h = record { most = λ v g. ue-small z v (both-1 (ok v) _ g) (h v (both-0 (ok v) _ g)) }

pub se-to : (ok : ℤ → Bool) (n : ℕ) (value : ℤ → ℤ) (z m : ℕ) → 2 * m + 3 < 2 ^ (z + 1) → ((v : ℤ) → ok v ≡ true → mag v ≤ m) → Short (test ok n value se) (2 * z + 1)
unfolding test se
se-to ok n value z m i h =
    record { most = λ v g. se-small z v (both-1 (ok v) _ g) (omega (arith, i, h v (T_true (ok v) (both-0 (ok v) _ g)))) }

width-le : (n m : ℕ) → n ≤ m → width_of n ≤ m
width-le n m h = cases (leb n 32) (λ e. rw e h) (λ e. rw e (omega (arith, leb-false n 32 e)))

pub u-to : (n m : ℕ) → n ≤ m → Short (u n) m
u-to n m h = record { most = λ v g. omega (arith, (u-short n).most v g, width-le n m h) }

-- ---- what is not there has no bits

pub number_if-pick : (b : Bool) (F : Fmt ℕ) (m : ℕ) → (T b → Short F m) → Short (number_if b F) (pick b m 0)
unfolding number_if shaped when
number_if-pick true F m S = number_if-short true F m (S tt)
number_if-pick false F m S = record { most = λ v g. omega arith }

pub signed_if-pick : (b : Bool) (F : Fmt ℤ) (m : ℕ) → Short F m → Short (signed_if b F) (pick b m 0)
unfolding signed_if shaped when
signed_if-pick true F m S = signed_if-short true F m S
signed_if-pick false F m S = record { most = λ v g. omega arith }

pub flag_if-pick : (b : Bool) → Short (flag_if b) (pick b 1 0)
unfolding flag_if shaped when
flag_if-pick true = flag_if-short true
flag_if-pick false = record { most = λ v g. omega arith }

given-pick : (b : Bool) → Short (given b (pos 0) is_zero_z se) (pick b 63 0)
unfolding given shaped when
given-pick true = record { most = λ v g. se-short.most v g }
given-pick false = record { most = λ v g. omega arith }

pub short-le : {A : Type 0} {F : Fmt A} {m n : ℕ} → Short F m → m ≤ n → Short F n
short-le S h = record { most = λ a g. omega (arith, S.most a g, h) }

-- ---- first_mb_in_slice to pic_parameter_set_id

pub slice-type-to : Short slice_type 7
unfolding slice_type
slice-type-to = ue-to _ _ _ 3 (λ v g. omega (arith, leb→le v 9 g))

pub picture-id-to : (t : Table) → Short (picture_set_id t) 17
unfolding picture_set_id
picture-id-to t = test_short _ _ _ _ _ (test_short _ _ _ _ _ (ue-to _ _ _ 8 (λ v g. omega (arith, leb→le v 255 g))))

pub lead-to : (t : Table) → Short (lead t) lead_most
unfolding lead
lead-to t = then ue-short (λ v. then slice-type-to (λ k. picture-id-to t))

-- ---- colour_plane_id to idr_pic_id

pub frame-to : (x : Context) → Sized x → Short (frame x) frame_most
unfolding frame
frame-to x z =
    shaped-short _ _ _ _ _
    (then (number_if-short _ _ 2 (test_short _ _ _ _ _ (u-short 2))) (λ colour-plane-id.
    then (u-to _ 16 z.sequence.frame-num) (λ frame-num.
    then (flag_if-short _) (λ field-pic-flag.
    then (flag_if-short _) (λ bottom-field-flag.
    number_if-short _ _ 63 ue-short)))))

-- ---- pic_order_cnt_lsb to redundant_pic_cnt: the fields of order type 0, or those of type 1

order-sum : (k : ℕ) (a b c : Bool) → pick (eqb k 0) 32 0 + (pick (eqb k 0 && a) 63 0 + ((pick (eqb k 1 && b) 63 0 + pick ((eqb k 1 && b) && c) 63 0) + 63)) ≤ order_most
order-sum zero true b c = omega arith
order-sum zero false b c = omega arith
order-sum (suc zero) a true true = omega arith
order-sum (suc zero) a true false = omega arith
order-sum (suc zero) a false c = omega arith
order-sum (suc (suc k)) a b c = rw (ne_eqb (suc (suc k)) 0 (omega arith), ne_eqb (suc (suc k)) 1 (omega arith)) (omega arith)

pub order-to : (x : Context) (field : Bool) → Short (order_count x field) order_most
unfolding order_count deltas
order-to x field =
    short-le
    (shaped-short _ _ _ _ _
    (then (number_if-pick _ _ 32 (λ b. u-most _)) (λ pic-order-cnt-lsb.
    then (signed_if-pick _ _ 63 se-short) (λ delta-pic-order-cnt-bottom.
    then (shaped-short _ _ _ _ _ (then (given-pick _) (λ first. given-pick _))) (λ delta-pic-order-cnt.
    number_if-short _ _ 63 ue-short))))) (order-sum x.sequence.pic_order_cnt_type _ _ _)

-- ---- direct_spatial_mv_pred_flag to num_ref_idx_l1_active_minus1

active-to : Short active_minus1 11
unfolding active_minus1
active-to = ue-to _ _ _ 5 (λ v g. omega (arith, leb→le v 31 g))

pub counts-to : (k : ℕ) → Short (active_counts k) counts_most
unfolding active_counts
counts-to k =
    shaped-short _ _ _ _ _
    (then (flag_if-short _) (λ direct-spatial-mv-pred-flag.
    then (flag_if-short _) (λ override.
    then (number_if-short _ _ 11 active-to) (λ l0.
    number_if-short _ _ 11 active-to))))

-- ---- lists of modifications, weights

pub modifications-to : (x : Context) (k : ℕ) → Within (modifications x k) (λ m. modification_most m.l0.operations.count + modification_most m.l1.operations.count)
modifications-to x k = within-le (modifications-within x k) (λ m. omega arith)

pub weights-to : (x : Context) (k n0 n1 : ℕ) → Within (pred_weight_table x k n0 n1) (λ w. weights_most (w.l0.count + w.l1.count))
weights-to x k n0 n1 = within-le (pred_weight_table-within x k n0 n1) (λ w. omega arith)

-- ---- dec_ref_pic_marking( )

-- as fmt's until-short, with the closing code's own length
module _ {A : Type 0} (C : Fmt ℕ) (close : ℕ) (G : ℕ → Fmt A) (c m k : ℕ) (E : length (C.bits close) ≤ c) (S : Short C m) (R : (v : ℕ) → Short (G v) k) where
  until-to : (n : ℕ) (l : List (ℕ × A)) → T ((until C close G n).good l) → length ((until C close G n).bits l) ≤ c + (m + k) * length l
  unfolding until
  until-to zero [] g = omega (arith, E)
  until-to zero (x ∷ l) g = absurd g
  until-to (suc n) [] g = omega (arith, E)
  until-to (suc n) (x ∷ l) g =
      let v = until C close G n in
      let b = (G x.0).good x.1 && v.good l in
      let g0 = both-0 (not (eqb x.0 close) && C.good x.0) b g in
      let g1 = both-1 (not (eqb x.0 close) && C.good x.0) b g in
      let i = until-to n l (both-1 ((G x.0).good x.1) (v.good l) g1) in
      omega (
        arith,
        length-append (C.bits x.0) ((G x.0).bits x.1 ++ v.bits l),
        length-append ((G x.0).bits x.1) (v.bits l),
        S.most x.0 (both-1 (not (eqb x.0 close)) (C.good x.0) g0),
        (R x.0).most x.1 (both-0 ((G x.0).good x.1) (v.good l) g1),
        mul-suc (m + k) (length l),
        i,
      )

closing-bit : length ((code marking_kind).bits 0) ≤ 1
unfolding code test ue
closing-bit = ue-small 0 0 tt (omega arith)

marking-list : Within (operations marking_kind) (λ o. 1 + 131 * o.count)
unfolding operations shaped
marking-list =
    record {
      most = λ o t.
          let F = until (code marking_kind) 0 (operands marking_kind) entries in
          let n = length-of-operations o (both-0 (ok_operations o) (F.good (of_operations o)) t) in
          let g = until-to (code marking_kind) 0 (operands marking_kind) 1 5 126 closing-bit (code-short marking_kind (omega arith)) marking-operands entries (of_operations o)
          (both-1 (ok_operations o) (F.good (of_operations o)) t) in
          rw n at g;
    }

-- no flag, no list
no-list : (v there : Bool) (o : Operations) → T (not there && not v) → length ((operations_if v marking_kind).bits o) ≤ 0
unfolding operations_if given shaped when
no-list true there o h = absurd (both-1 (not there) false h)
no-list false there o h = omega arith

no_flag : (v : (Marked Bool) × Operations) → T ((seq (flag_if false) (λ a. operations_if a.value marking_kind)).good v)
    → length ((seq (flag_if false) (λ a. operations_if a.value marking_kind)).bits v) ≤ 0
unfolding seq flag_if shaped when
no_flag v g = no-list v.0.value v.0.there v.1 (both-0 (not v.0.there && not v.0.value) _ g)

-- the list is there only where its flag is, which is only where b is
adaptive : (b : Bool) → Within (seq (flag_if b) (λ a. operations_if a.value marking_kind)) (λ v. pick b (2 + 131 * v.1.count) 0)
unfolding operations_if
adaptive true = within-le (seq-within (short-within (flag_if-short true)) (λ a. given-within a.value no_operations is_no_operations marking-list)) (λ v. omega arith)
adaptive false = record { most = no_flag }

marking-sum : (r i : Bool) (d : ℕ) → pick (r && i) 1 0 + (pick (r && i) 1 0 + pick (r && not i) (2 + 131 * d) 0) ≤ marking_most d
marking-sum true true d = omega arith
marking-sum true false d = omega arith
marking-sum false i d = omega arith

pub marking-to : (x : Context) → Within (dec_ref_pic_marking x) (λ d. marking_most d.operations.count)
unfolding dec_ref_pic_marking
marking-to x =
    within-le
    (shaped-within _ _ _
    (seq-within (short-within (flag_if-pick _)) (λ no-output-of-prior-pics-flag.
    seq-within (short-within (flag_if-pick _)) (λ long-term-reference-flag.
    adaptive _)))) (λ d. marking-sum x.kind.reference x.kind.idr d.operations.count)

-- ---- cabac_init_idc to slice_qs_delta

pub quantiser-to : (x : Context) (k : ℕ) → Sized x → Short (quantiser x k) quantiser_most
unfolding quantiser
quantiser-to x k z =
    let p = z.picture in
    shaped-short _ _ _ _ _
    (then (number_if-short _ _ 63 ue-short) (λ cabac-init-idc.
    then (se-to (qp_fits x) _ _ 7 104 (omega arith) (λ d g. qp-near (6 * x.sequence.bit_depth_luma_minus8) x.picture.pic_init_qp_minus26 d (omega (arith, z.sequence.depth)) p.qp-mag p.qp-most g)) (λ slice-qp-delta.
    then (flag_if-short _) (λ sp-for-switch-flag.
    signed_if-short _ _ 13 (se-to (qs_fits x) _ _ 6 51 (omega arith) (λ d g. qs-near x.picture.pic_init_qs_minus26 d p.qs g))))))

-- ---- disable_deblocking_filter_idc to slice_group_change_cycle

pub filter-to : (x : Context) → Sized x → Short (filter x) filter_most
unfolding filter
filter-to x z =
    short-le
    (shaped-short _ _ _ _ _
    (then (number_if-short _ _ 5 (ue-to _ _ _ 2 (λ v g. omega (arith, leb→le v 6 g)))) (λ idc.
    then (signed_if-short _ _ 7 (se-to offset_fits _ _ 3 6 (omega arith) offset_near)) (λ alpha.
    then (signed_if-short _ _ 7 (se-to offset_fits _ _ 3 6 (omega arith) offset_near)) (λ beta.
    number_if-pick (is_changing x) _ 25 (λ g. u-to _ 25 z.width)))))) (pick-le (is_changing x))
  where
    pick-le : (b : Bool) → 5 + (7 + (7 + pick b 25 0)) ≤ filter_most
    pick-le true = omega arith
    pick-le false = omega arith
