-- How far reading a header looks, and a prefix unit's body: part by part, as a number. No answer, a refusal or not, hangs on a bit behind it.
use Prim.Native.Nat.{ℕ, ◌+◌, ◌≤◌}
use mathlib.Core.Bool.{Bool, true, false, not, ◌&&◌}
use native.Mathlib.Omega.{arith}
use lib.IntN.{ℤ, pos}
use Rattle.bits.specs.Refusals.{pick}
use Rattle.fmt.specs.Fmt.{Fmt, seq, when}
use Rattle.fmt.specs.Leaves.{flag, ue, se}
use Rattle.fmt.proofs.Ahead.{Ahead, ahead_more, u-ahead, u-ahead-32, flag-ahead, ue-ahead, se-ahead, nothing-ahead, seq-ahead, seq-ahead-good, shaped-ahead, test-ahead, when-ahead, times-ahead, until-ahead}
use Rattle.table.specs.declared.table.Table.{Table}
use Rattle.syntax.specs.declared.context.UnitKind.{UnitKind}
use Rattle.syntax.specs.declared.context.PrefixKind.{PrefixKind}
use Rattle.syntax.specs.declared.context.Context.{Context}
use Rattle.syntax.specs.Marks.{is_zero, is_zero_z, number_if, signed_if, flag_if, given}
use Rattle.syntax.specs.Lists.{Kind, code, operands, operations, operations_if, no_operations, is_no_operations, entries}
use Rattle.syntax.specs.Context.{context_for, is_b, is_weighted}
use Rattle.syntax.specs.SliceHeader.{slice_type, picture_set_id, lead, frame, deltas, order_count, active_minus1, active_counts, modification, not_scalable, modifications, weight, weight_list, pred_weight_table, dec_ref_pic_marking, quantiser, filter, parts, header}
use Rattle.syntax.specs.Prefix.{prefix}
use Rattle.syntax.proofs.Parts.{active_counts-lawful}
use Rattle.syntax.proofs.Sets.{Few, defaults-few}
use Rattle.syntax.proofs.Goods.{counts-few}
use Rattle.syntax.proofs.Whole.{active-few}

-- a field, and what follows it
then : {A B : Type 0} {F : Fmt A} {G : A → Fmt B} {m n : ℕ} → Ahead F m → ((a : A) → Ahead (G a) n) → Ahead (seq F G) (m + n)
then {F = F} {G} {m} {n} = seq-ahead F G m n

-- ---- fields that may be absent

module _ (b : Bool) where
  number_if-ahead : (F : Fmt ℕ) (m : ℕ) → Ahead F m → Ahead (number_if b F) m
  unfolding number_if
  number_if-ahead F m S = shaped-ahead _ _ _ (when b 0 is_zero F) m (when-ahead b 0 is_zero F m S)

  signed_if-ahead : (F : Fmt ℤ) (m : ℕ) → Ahead F m → Ahead (signed_if b F) m
  unfolding signed_if
  signed_if-ahead F m S = shaped-ahead _ _ _ (when b (pos 0) is_zero_z F) m (when-ahead b (pos 0) is_zero_z F m S)

  flag_if-ahead : Ahead (flag_if b) 1
  unfolding flag_if
  flag_if-ahead = shaped-ahead _ _ _ (when b false not flag) 1 (when-ahead b false not flag 1 flag-ahead)

  given-ahead : {A : Type 0} (z : A) (isz : A → Bool) (F : Fmt A) (m : ℕ) → Ahead F m → Ahead (given b z isz F) m
  unfolding given
  given-ahead z isz F m S = shaped-ahead _ _ _ (when b z isz F) m (when-ahead b z isz F m S)

  given-se : Ahead (given b (pos 0) is_zero_z se) 63
  given-se = given-ahead (pos 0) is_zero_z se 63 se-ahead

-- ---- lists of operations

code-ahead : (k : Kind) → Ahead (code k) 63
unfolding code
code-ahead k = test-ahead _ _ _ _ _ ue-ahead

operands-ahead : (k : Kind) (c : ℕ) → Ahead (operands k c) 126
unfolding operands
operands-ahead k c = then (given-ahead _ 0 is_zero ue 63 ue-ahead) (λ a. given-ahead _ 0 is_zero ue 63 ue-ahead)

operations-ahead : (k : Kind) → Ahead (operations k) 12537
unfolding operations
operations-ahead k = shaped-ahead _ _ _ _ _ (until-ahead (code k) k.closing (operands k) 63 126 (code-ahead k) (operands-ahead k) entries)

operations_if-ahead : (b : Bool) (k : Kind) → Ahead (operations_if b k) 12537
unfolding operations_if
operations_if-ahead b k = given-ahead b no_operations is_no_operations (operations k) 12537 (operations-ahead k)

-- ---- parts

lead-ahead : (t : Table) → Ahead (lead t) 189
unfolding lead slice_type picture_set_id
lead-ahead t = then ue-ahead (λ first-mb-in-slice. then (test-ahead _ _ _ _ _ ue-ahead) (λ k. test-ahead _ _ _ _ _ (test-ahead _ _ _ _ _ (test-ahead _ _ _ _ _ ue-ahead))))

frame-ahead : (x : Context) → Ahead (frame x) 99
unfolding frame
frame-ahead x =
    shaped-ahead _ _ _ _ _
    (then (number_if-ahead _ _ 2 (test-ahead _ _ _ _ _ (u-ahead 2))) (λ colour-plane-id.
    then (u-ahead-32 _) (λ frame-num.
    then (flag_if-ahead _) (λ field-pic-flag.
    then (flag_if-ahead _) (λ bottom-field-flag.
    number_if-ahead _ _ 63 ue-ahead)))))

deltas-ahead : (x : Context) (field : Bool) → Ahead (deltas x field) 126
unfolding deltas
deltas-ahead x field = shaped-ahead _ _ _ _ _ (then (given-se _) (λ first. given-se _))

order_count-ahead : (x : Context) (field : Bool) → Ahead (order_count x field) 284
unfolding order_count
order_count-ahead x field =
    shaped-ahead _ _ _ _ _
    (then (number_if-ahead _ _ 32 (u-ahead-32 _)) (λ pic-order-cnt-lsb.
    then (signed_if-ahead _ _ 63 se-ahead) (λ delta-pic-order-cnt-bottom.
    then (deltas-ahead x field) (λ delta-pic-order-cnt.
    number_if-ahead _ _ 63 ue-ahead))))

active_counts-ahead : (k : ℕ) → Ahead (active_counts k) 128
unfolding active_counts active_minus1
active_counts-ahead k =
    shaped-ahead _ _ _ _ _
    (then (flag_if-ahead _) (λ direct-spatial-mv-pred-flag.
    then (flag_if-ahead _) (λ override.
    then (number_if-ahead _ _ 63 (test-ahead _ _ _ _ _ ue-ahead)) (λ l0.
    number_if-ahead _ _ 63 (test-ahead _ _ _ _ _ ue-ahead)))))

modification-ahead : (mvc there : Bool) → Ahead (modification mvc there) 12538
unfolding modification
modification-ahead mvc there = shaped-ahead _ _ _ _ _ (then (flag_if-ahead there) (λ f. operations_if-ahead _ _))

modifications-ahead : (x : Context) (k : ℕ) → Ahead (modifications x k) 25076
unfolding modifications not_scalable
modifications-ahead x k =
    shaped-ahead _ _ _ _ _ (then (test-ahead _ _ _ _ _ nothing-ahead) (λ v. then (modification-ahead _ _) (λ l0. modification-ahead _ _)))

weight-ahead : (chroma : Bool) → Ahead (weight chroma) 380
unfolding weight
weight-ahead chroma =
    shaped-ahead _ _ _ _ _
    (then flag-ahead (λ luma.
    then (given-se _) (λ luma-weight.
    then (given-se _) (λ luma-offset.
    then (given-ahead _ false not flag 1 flag-ahead) (λ c.
    then (given-se _) (λ cb-weight.
    then (given-se _) (λ cb-offset.
    then (given-se _) (λ cr-weight.
    given-se _))))))))

-- a list that is there only if b
list_if-ahead : (chroma b : Bool) (n : ℕ) → n ≤ 32 → Ahead (weight_list chroma (pick b n 0)) 12160
unfolding weight_list
list_if-ahead chroma true n h = ahead_more 12160 (shaped-ahead _ _ _ _ _ (times-ahead (weight chroma) 380 (weight-ahead chroma) n)) (omega arith)
list_if-ahead chroma false n h = ahead_more 12160 (shaped-ahead _ _ _ _ _ (times-ahead (weight chroma) 380 (weight-ahead chroma) 0)) (omega arith)

pred_weight_table-ahead : (x : Context) (k n0 n1 : ℕ) → n0 ≤ 32 → n1 ≤ 32 → Ahead (pred_weight_table x k n0 n1) 24446
unfolding pred_weight_table
pred_weight_table-ahead x k n0 n1 h0 h1 =
    shaped-ahead _ _ _ _ _
    (then (when-ahead _ 0 is_zero ue 63 ue-ahead) (λ luma-log2-weight-denom.
    then (number_if-ahead _ _ 63 ue-ahead) (λ chroma-log2-weight-denom.
    then (list_if-ahead _ (is_weighted x k) n0 h0) (λ l0.
    list_if-ahead _ (is_weighted x k && is_b k) n1 h1))))

dec_ref_pic_marking-ahead : (x : Context) → Ahead (dec_ref_pic_marking x) 12540
unfolding dec_ref_pic_marking
dec_ref_pic_marking-ahead x =
    shaped-ahead _ _ _ _ _
    (then (flag_if-ahead _) (λ no-output-of-prior-pics-flag.
    then (flag_if-ahead _) (λ long-term-reference-flag.
    then (flag_if-ahead _) (λ adaptive.
    operations_if-ahead _ _))))

quantiser-ahead : (x : Context) (k : ℕ) → Ahead (quantiser x k) 190
unfolding quantiser
quantiser-ahead x k =
    shaped-ahead _ _ _ _ _
    (then (number_if-ahead _ _ 63 ue-ahead) (λ cabac-init-idc.
    then (test-ahead _ _ _ _ _ se-ahead) (λ slice-qp-delta.
    then (flag_if-ahead _) (λ sp-for-switch-flag.
    signed_if-ahead _ _ 63 (test-ahead _ _ _ _ _ se-ahead)))))

filter-ahead : (x : Context) → Ahead (filter x) 221
unfolding filter
filter-ahead x =
    shaped-ahead _ _ _ _ _
    (then (number_if-ahead _ _ 63 (test-ahead _ _ _ _ _ ue-ahead)) (λ idc.
    then (signed_if-ahead _ _ 63 (test-ahead _ _ _ _ _ se-ahead)) (λ alpha.
    then (signed_if-ahead _ _ 63 (test-ahead _ _ _ _ _ se-ahead)) (λ beta.
    number_if-ahead _ _ 32 (u-ahead-32 _)))))

-- ---- the whole

parts-ahead : (x : Context) (k : ℕ) → Few x.picture → Ahead (parts x k) 62984
unfolding parts
parts-ahead x k d =
    then (frame-ahead x) (λ f.
    then (order_count-ahead x _) (λ o.
    seq-ahead-good _ _ _ _ (active_counts-lawful k) (active_counts-ahead k) (λ a g.
    let c = counts-few k a g in
    then (modifications-ahead x k) (λ m.
    then (pred_weight_table-ahead x k _ _ (active-few a.num_ref_idx_l0_active_minus1 _ c.l0 d.l0) (active-few a.num_ref_idx_l1_active_minus1 _ c.l1 d.l1)) (λ w.
    then (dec_ref_pic_marking-ahead x) (λ r.
    then (quantiser-ahead x k) (λ q.
    filter-ahead x)))))))

context-ahead : (t : Table) (n : UnitKind) (id k : ℕ) → Ahead (parts (context_for t n id) k) 62984
unfolding context_for
context-ahead t n id k = parts-ahead (context_for t n id) k (defaults-few t id)

pub header-ahead : (t : Table) (n : UnitKind) → Ahead (header t n) 63173
unfolding header
header-ahead t n = shaped-ahead _ _ _ _ _ (then (lead-ahead t) (λ l. context-ahead t n l.1.1 l.1.0))

pub prefix-ahead : (k : PrefixKind) → Ahead (prefix k) 12540
unfolding prefix
prefix-ahead k = shaped-ahead _ _ _ _ _ (then (flag_if-ahead _) (λ store. then (flag_if-ahead _) (λ adaptive. then (operations_if-ahead _ _) (λ o. flag_if-ahead _))))
