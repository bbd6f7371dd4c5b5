-- No header has more bits than the formula says, nor a part more than its own most; and the formula is at most 42,601.
use Prim.Native.Nat.{ℕ, ◌≤◌}
use mathlib.Core.Path.{◌≡◌, refl}
use mathlib.Core.Bool.{Bool, true, false, ◌&&◌}
use native.Mathlib.Omega.{arith}
use lib.Dec.{T}
use lib.ListN.{length}
use Rattle.bits.specs.Refusals.{pick}
use Rattle.table.specs.declared.table.Table.{Table}
use Rattle.syntax.specs.declared.context.UnitKind.{UnitKind}
use Rattle.syntax.specs.declared.record.SliceHeader.{SliceHeader}
use Rattle.syntax.specs.Context.{picture_for, context_for, is_b, is_weighted}
use Rattle.syntax.specs.SliceHeader.{active_l0, active_l1, parts, header}
use Rattle.syntax.proofs.ListSizes.{Within, short-within, within-le, seq-within, shaped-within}
use Rattle.syntax.proofs.HeaderSize.{weights-weighed, header-weighed}
use Rattle.syntax.proofs.Goods.{seq-first, seq-rest, shaped_from, FewOwn, counts-few}
use Rattle.syntax.proofs.Operations.{few-operations}
use Rattle.syntax.proofs.Sets.{defaults-few}
use Rattle.syntax.proofs.Whole.{active-few}
use Rattle.header.proofs.Tidy.{good-in-order}
use Rattle.size.specs.Size.{most_bits, bound_of, EachBounded}
use Rattle.size.proofs.Sized.{sized}
use Rattle.size.proofs.Parts.{lead-to, frame-to, order-to, counts-to, modifications-to, weights-to, marking-to, quantiser-to, filter-to}

-- by the weight lists' own counts
counted : (t : Table) (n : UnitKind)
    → Within (header t n) (λ h. most_bits h.modifications.l0.operations.count h.modifications.l1.operations.count h.dec_ref_pic_marking.operations.count h.pred_weight_table.l0.count h.pred_weight_table.l1.count)
unfolding header parts most_bits
counted t n =
    within-le
    (shaped-within _ _ _
    (seq-within (short-within (lead-to t)) (λ l.
    let z = sized t n l.1.1 in
    seq-within (short-within (frame-to _ z)) (λ f.
    seq-within (short-within (order-to _ _)) (λ o.
    seq-within (short-within (counts-to _)) (λ a.
    seq-within (modifications-to _ _) (λ m.
    seq-within (weights-to _ _ _ _) (λ w.
    seq-within (marking-to _) (λ d.
    seq-within (short-within (quantiser-to _ _ z)) (λ q.
    short-within (filter-to _ z))))))))))) (λ h. omega arith)

pick-most : (b : Bool) (n : ℕ) → pick b n 0 ≤ n
pick-most true n = omega arith
pick-most false n = omega arith

-- longer lists and more references, no fewer bits
pub most-mono : (m0 m1 d n0 n1 e0 e1 : ℕ) → n0 ≤ e0 → n1 ≤ e1 → most_bits m0 m1 d n0 n1 ≤ most_bits m0 m1 d e0 e1
unfolding most_bits
most-mono m0 m1 d n0 n1 e0 e1 h k = omega arith

-- a good record's bits, by its lists and its active references
pub header-bound : (t : Table) (n : UnitKind) (h : SliceHeader) → T ((header t n).good h) → length ((header t n).bits h) ≤ bound_of (picture_for t h.pic_parameter_set_id) h
unfolding bound_of context_for
header-bound t n h g =
    let x = context_for t n h.pic_parameter_set_id in
    let k = h.slice_type in
    let a = h.active_counts in
    let w = header-weighed t n h g in
    let m = most-mono h.modifications.l0.operations.count h.modifications.l1.operations.count h.dec_ref_pic_marking.operations.count h.pred_weight_table.l0.count h.pred_weight_table.l1.count (active_l0 x a) (active_l1 x a)
    (omega (arith, w.l0, pick-most (is_weighted x k) (active_l0 x a))) (omega (arith, w.l1, pick-most (is_weighted x k && is_b k) (active_l1 x a))) in
    omega (arith, (counted t n).most h g, m)

-- lists of at most 66, and at most 32 references
pub most-most : (m0 m1 d n0 n1 : ℕ) → m0 ≤ 66 → m1 ≤ 66 → d ≤ 66 → n0 ≤ 32 → n1 ≤ 32 → most_bits m0 m1 d n0 n1 ≤ 42601
unfolding most_bits
most-most m0 m1 d n0 n1 h0 h1 hd k0 k1 = omega arith

-- a good header's own counts of references
own-few : (t : Table) (n : UnitKind) (h : SliceHeader) → T ((header t n).good h) → FewOwn h.active_counts
unfolding header parts
own-few t n h g = counts-few _ _ (seq-first _ _ _ (seq-rest _ _ _ (seq-rest _ _ _ (seq-rest _ _ _ (shaped_from _ _ _ _ h g)))))

-- so a good record's bound is at most that
pub bound-few : (t : Table) (n : UnitKind) (h : SliceHeader) → T ((header t n).good h) → bound_of (picture_for t h.pic_parameter_set_id) h ≤ 42601
unfolding bound_of
bound-few t n h g =
    let o = good-in-order t n h g in
    let a = own-few t n h g in
    let d = defaults-few t h.pic_parameter_set_id in
    most-most _ _ _ _ _ (few-operations _ o.l0) (few-operations _ o.l1) (few-operations _ o.marking)
    (active-few h.active_counts.num_ref_idx_l0_active_minus1 _ a.l0 d.l0) (active-few h.active_counts.num_ref_idx_l1_active_minus1 _ a.l1 d.l1)

pub greatest : most_bits 66 66 66 32 32 ≡ 42601
unfolding most_bits
greatest = refl

-- ---- part by part

pub each-bounded : EachBounded
each-bounded =
    record {
      lead-most = λ t n id v g. (lead-to t).most v g;
      frame-most = λ t n id v g. (frame-to (context_for t n id) (sized t n id)).most v g;
      order-most = λ f t n id v g. (order-to (context_for t n id) f).most v g;
      counts-most = λ k t n id v g. (counts-to k).most v g;
      modifications-most = λ k t n id v g. (modifications-to (context_for t n id) k).most v g;
      weights-most = λ k n0 n1 t n id v g.
          let x = context_for t n id in
          let w = weights-weighed x k n0 n1 v g in
          omega (arith, (weights-to x k n0 n1).most v g, w.l0, w.l1, pick-most (is_weighted x k) n0, pick-most (is_weighted x k && is_b k) n1);
      marking-most = λ t n id v g. (marking-to (context_for t n id)).most v g;
      quantiser-most = λ k t n id v g. (quantiser-to (context_for t n id) k (sized t n id)).most v g;
      filter-most = λ t n id v g. (filter-to (context_for t n id) (sized t n id)).most v g;
    }
