-- How many bits a header has at most, part by part, as a number; and what the parts with lists have by their lengths. The least formula stands in the crate `size`.
use Prim.Native.Nat.{ℕ, ◌+◌, ◌*◌, ◌≤◌}
use mathlib.Core.Path.{◌≡◌}
use mathlib.Core.Bool.{Bool, true, false, ◌&&◌}
use native.Mathlib.Omega.{arith}
use lib.Dec.{T}
use lib.ListN.{length}
use Rattle.bits.specs.Refusals.{pick}
use Rattle.fmt.specs.Fmt.{shaped, when}
use Rattle.fmt.specs.Leaves.{ue}
use Rattle.fmt.proofs.Sizes.{Short, ue-short, shaped-short, when-short}
use Rattle.table.specs.declared.table.Table.{Table}
use Rattle.syntax.specs.declared.context.UnitKind.{UnitKind}
use Rattle.syntax.specs.declared.context.Context.{Context}
use Rattle.syntax.specs.declared.record.PredWeightTable.{PredWeightTable}
use Rattle.syntax.specs.declared.record.SliceHeader.{SliceHeader}
use Rattle.syntax.specs.Marks.{is_zero, given}
use Rattle.syntax.specs.Lists.{operands}
use Rattle.syntax.specs.Context.{context_for, is_b, is_weighted}
use Rattle.syntax.specs.SliceHeader.{active_l0, active_l1, modification_kind, modification, modifications, pred_weight_table, marking_kind, dec_ref_pic_marking, parts, header}
use Rattle.syntax.proofs.Goods.{seq-first, seq-rest, shaped_from}
use Rattle.syntax.proofs.Sizes.{then, given-short, flag_if-short, number_if-short, not_scalable-short, lead-short, frame-short, order_count-short, active_counts-short, quantiser-short, filter-short}
use Rattle.syntax.proofs.ListSizes.{Within, short-within, within-le, seq-within, shaped-within, operations_if-within, operations_if-short, weights-counted, weight_list-within, weight_list-short}

-- ---- operands

none-short : Short (given false 0 is_zero ue) 0
unfolding given shaped when
none-short = record { most = λ v g. omega arith }

one-short : (b : Bool) → Short (given b 0 is_zero ue) 63
one-short b = given-short b 0 is_zero ue 63 ue-short

pub modification-operands : (mvc : Bool) (c : ℕ) → Short (operands (modification_kind mvc) c) 63
unfolding operands
modification-operands mvc c = then (one-short _) (λ a. none-short)

pub marking-operands : (c : ℕ) → Short (operands marking_kind c) 126
unfolding operands
marking-operands c = then (one-short _) (λ a. one-short _)

pub modification-low : (mvc : Bool) → pick mvc 5 3 ≤ 6
modification-low true = omega arith
modification-low false = omega arith

-- ---- modification

pub modification-short : (mvc there : Bool) → Short (modification mvc there) 4494
unfolding modification
modification-short mvc there =
    shaped-short _ _ _ _ _
    (then (flag_if-short there) (λ f. operations_if-short (modification_kind mvc) 63 (modification-low mvc) (modification-operands mvc) f.value))

pub modification-within : (mvc there : Bool) → Within (modification mvc there) (λ m. 6 + 68 * m.operations.count)
unfolding modification
modification-within mvc there =
    within-le
    (shaped-within _ _ _
    (seq-within (short-within (flag_if-short there))
    (λ f. operations_if-within (modification_kind mvc) 63 (modification-low mvc) (modification-operands mvc) f.value))) (λ m. omega arith)

pub modifications-short : (x : Context) (k : ℕ) → Short (modifications x k) 8988
unfolding modifications
modifications-short x k = shaped-short _ _ _ _ _ (then (not_scalable-short x) (λ v. then (modification-short _ _) (λ l0. modification-short _ _)))

pub modifications-within : (x : Context) (k : ℕ) → Within (modifications x k) (λ m. 12 + 68 * (m.l0.operations.count + m.l1.operations.count))
unfolding modifications
modifications-within x k =
    within-le
    (shaped-within _ _ _
    (seq-within (short-within (not_scalable-short x)) (λ v.
    seq-within (modification-within _ _) (λ l0.
    modification-within _ _)))) (λ m. omega arith)

-- ---- weights

when-ue-short : (b : Bool) → Short (when b 0 is_zero ue) 63
when-ue-short b = when-short b 0 is_zero ue 63 ue-short

pub pred_weight_table-short : (x : Context) (k n0 n1 : ℕ) → Short (pred_weight_table x k n0 n1) 24446
unfolding pred_weight_table
pred_weight_table-short x k n0 n1 =
    shaped-short _ _ _ _ _
    (then (when-ue-short _) (λ luma-log2-weight-denom.
    then (number_if-short _ _ 63 ue-short) (λ chroma-log2-weight-denom.
    then (weight_list-short _ _) (λ l0.
    weight_list-short _ _))))

pub pred_weight_table-within : (x : Context) (k n0 n1 : ℕ) → Within (pred_weight_table x k n0 n1) (λ w. 126 + 380 * (w.l0.count + w.l1.count))
unfolding pred_weight_table
pred_weight_table-within x k n0 n1 =
    within-le
    (shaped-within _ _ _
    (seq-within (short-within (when-ue-short _)) (λ luma-log2-weight-denom.
    seq-within (short-within (number_if-short _ _ 63 ue-short)) (λ chroma-log2-weight-denom.
    seq-within (weight_list-within _ _) (λ l0.
    weight_list-within _ _))))) (λ w. omega arith)

-- ---- marking

pub dec_ref_pic_marking-short : (x : Context) → Short (dec_ref_pic_marking x) 8654
unfolding dec_ref_pic_marking
dec_ref_pic_marking-short x =
    shaped-short _ _ _ _ _
    (then (flag_if-short _) (λ no-output-of-prior-pics-flag.
    then (flag_if-short _) (λ long-term-reference-flag.
    then (flag_if-short _) (λ adaptive.
    operations_if-short marking_kind 126 (omega arith) marking-operands _))))

-- ---- the whole

pub parts-short : (x : Context) (k : ℕ) → Short (parts x k) 43010
unfolding parts
parts-short x k =
    then (frame-short x) (λ f.
    then (order_count-short x _) (λ o.
    then (active_counts-short k) (λ a.
    then (modifications-short x k) (λ m.
    then (pred_weight_table-short x k _ _) (λ w.
    then (dec_ref_pic_marking-short x) (λ d.
    then (quantiser-short x k) (λ q.
    filter-short x)))))))

pub header-short : (t : Table) (n : UnitKind) → Short (header t n) 43199
unfolding header
header-short t n = shaped-short _ _ _ _ _ (then (lead-short t) (λ l. parts-short _ _))

-- so 6,144 bytes are enough
pub header-most : (t : Table) (n : UnitKind) (h : SliceHeader) → T ((header t n).good h) → length ((header t n).bits h) ≤ 8 * 6144
header-most t n h g = omega (arith, (header-short t n).most h g)

-- the weights' counts are those of the active references, where there are weights
pub record Weighed (x : Context) (k n0 n1 : ℕ) (w : PredWeightTable) : Type 0 where
  pub l0 : w.l0.count ≡ pick (is_weighted x k) n0 0
  pub l1 : w.l1.count ≡ pick (is_weighted x k && is_b k) n1 0

pub weights-weighed : (x : Context) (k n0 n1 : ℕ) (w : PredWeightTable) → T ((pred_weight_table x k n0 n1).good w) → Weighed x k n0 n1 w
unfolding pred_weight_table
weights-weighed x k n0 n1 w g =
    let l = seq-rest _ _ _ (seq-rest _ _ _ (shaped_from _ _ _ _ w g)) in
    record { l0 = weights-counted _ _ _ (seq-first _ _ _ l); l1 = weights-counted _ _ _ (seq-rest _ _ _ l) }

pub header-weighed : (t : Table) (n : UnitKind) (h : SliceHeader) → T ((header t n).good h)
    → Weighed (context_for t n h.pic_parameter_set_id) h.slice_type (active_l0 (context_for t n h.pic_parameter_set_id) h.active_counts)
    (active_l1 (context_for t n h.pic_parameter_set_id) h.active_counts) h.pred_weight_table
unfolding header parts
header-weighed t n h g =
    let p = seq-rest _ _ _ (shaped_from _ _ _ _ h g) in
    weights-weighed _ _ _ _ _ (seq-first _ _ _ (seq-rest _ _ _ (seq-rest _ _ _ (seq-rest _ _ _ (seq-rest _ _ _ p)))))
