-- Words beside a refusal: where more bits are tried, each stage goes as far as before, and each list that it reads stands over what was left of it.
use Prim.Native.Nat.{ℕ, ◌+◌, ◌≤◌}
use mathlib.Core.Path.{◌≡◌, refl, sym, ap, subst, ◌∙◌}
use mathlib.Core.List.{List, ◌++◌}
use native.Mathlib.Omega.{arith}
use lib.IntN.{ℤ}
use lib.ListN.{length, drop}
use lib.Seq.{sets}
use Rattle.bits.specs.Refusals.{Res, got}
use Rattle.bits.specs.Bits.{Bits}
use Rattle.bits.proofs.Results.{under, chosen}
use Rattle.fmt.specs.Fmt.{Fmt}
use Rattle.table.specs.declared.table.Table.{Table}
use Rattle.syntax.specs.declared.context.UnitKind.{UnitKind}
use Rattle.syntax.specs.declared.context.Context.{Context}
use Rattle.syntax.specs.declared.record.ActiveCounts.{ActiveCounts}
use Rattle.syntax.specs.declared.record.Operations.{Operations}
use Rattle.syntax.specs.declared.record.Modifications.{Modifications}
use Rattle.syntax.specs.declared.record.PredWeightTable.{PredWeightTable}
use Rattle.syntax.specs.declared.record.SliceHeader.{SliceHeader}
use Rattle.syntax.specs.Marks.{flag_if}
use Rattle.syntax.specs.Lists.{operations_if}
use Rattle.syntax.specs.Context.{is_b, has_l0}
use Rattle.syntax.specs.SliceHeader.{lead, frame, order_count, active_counts, not_scalable, modification_kind, modifications, pred_weight_table, marking_kind, dec_ref_pic_marking, read_header, active_l0, active_l1, any_set}
use Rattle.syntax.proofs.Absent.{flag_if-lawful}
use Rattle.syntax.proofs.Operations.{operations_if-lawful}
use Rattle.syntax.proofs.Parts.{lead-lawful, frame-lawful, order_count-lawful, active_counts-lawful, not_scalable-lawful, modifications-lawful}
use Rattle.syntax.proofs.Weights.{pred_weight_table-lawful}
use Rattle.lists.specs.Leaves.{Covered}
use Rattle.lists.specs.ListsLent.{list_words}
use Rattle.lists.proofs.Begun.{reads_on}
use Rattle.weights.specs.Counts.{at_most32}
use Rattle.weights.specs.WeightsLent.{weight_words}
use Rattle.weights.proofs.AtMost.{at-most-32}
use Rattle.header.specs.declared.lead.Led.{Led}
use Rattle.header.specs.declared.stages.MarkingFlags.{MarkingFlags}
use Rattle.header.specs.Stages.{FrontParts, context_of, header_of, front_at, first_flag_at, marking_flags_at, back_at}
use Rattle.header.specs.Short.{HeaderWords, header_in}
use Rattle.header.specs.Told.{Kept, front_of, EachFront, behind}
use Rattle.header.proofs.Split.{modifications_of, marking_of, modifications-split, marking-split}
use Rattle.header.proofs.Counts.{led_at}
use Rattle.header.proofs.Parts.{front_read}
use Rattle.syntax.specs.declared.marks.Marked.{Marked}
use Rattle.std.specs.Prelude.{Bool}

ends : {A : Type 0} {a b : A} {d e : ℕ} → got a d ≡ got b e → d ≡ e
ends p = cc

-- words that were not written to
pub untouched : {A B : Type 0} (words : A → List B) (F : Fmt A) (s : Bits) (at : ℕ) (b : List B) → Covered words F s at b b
unfolding Covered
untouched words F s at b m t a e q = refl

-- ---- stages that are no formats of their own

-- what is read of s is read of more bits, and ends before them
abbrev On : {A : Type 0} → (Bits → ℕ → Res A) → Bits → Bits → A → ℕ → ℕ → Type 0
On reads s t a at e = (reads (s ++ t) at ≡ got a e) × (e ≤ length s)

module _ (x : Context) (k : ℕ) (s t : Bits) (at : ℕ) (m : at ≤ length s) where
  first_on : {g : (Marked Bool)} {c : ℕ} → first_flag_at x k s at ≡ got g c → On (first_flag_at x k) s t g at c
  unfolding first_flag_at
  first_on h =
      under ((not_scalable x).read s at) _ h (λ v d hv q.
      let i = reads_on (not_scalable x) (not_scalable-lawful x) s t at m hv in
      let j = reads_on (flag_if (has_l0 k)) (flag_if-lawful (has_l0 k)) s t d i.1 q in
      (rw i.0 j.0, j.1))

  front-on : {f : FrontParts} {c : ℕ} → front_at x k s at ≡ got f c → On (front_at x k) s t f at c
  unfolding front_at
  front-on h =
      under ((frame x).read s at) _ h (λ v d hv q₁.
      let i = reads_on (frame x) (frame-lawful x) s t at m hv in
      under ((order_count x v.field_pic_flag.value).read s d) _ q₁ (λ o e ho q₂.
      let j = reads_on (order_count x v.field_pic_flag.value) (order_count-lawful x _) s t d i.1 ho in
      under ((active_counts k).read s e) _ q₂ (λ a g ha q₃.
      let l = reads_on (active_counts k) (active_counts-lawful k) s t e j.1 ha in
      (rw (i.0, j.0, l.0) (cc), omega (arith, l.1, ends q₃)))))

marking-on : (x : Context) (s t : Bits) (at : ℕ) → at ≤ length s → {f : MarkingFlags} {c : ℕ} → marking_flags_at x s at ≡ got f c → On (marking_flags_at x) s t f at c
unfolding marking_flags_at
marking-on x s t at m h =
    under ((flag_if _).read s at) _ h (λ n d hn q₁.
    let i = reads_on (flag_if _) (flag_if-lawful _) s t at m hn in
    under ((flag_if _).read s d) _ q₁ (λ l e hl q₂.
    let j = reads_on (flag_if _) (flag_if-lawful _) s t d i.1 hl in
    under ((flag_if _).read s e) _ q₂ (λ a g ha q₃.
    let o = reads_on (flag_if _) (flag_if-lawful _) s t e j.1 ha in
    (rw (i.0, j.0, o.0) (cc), omega (arith, o.1, ends q₃)))))

led_on : (x : Table) (s t : Bits) (at : ℕ) → at ≤ length s → {l : Led} {c : ℕ} → led_at x s at ≡ got l c → On (led_at x) s t l at c
led_on x s t at m h =
    under ((lead x).read s at) _ h (λ v e hv q.
    let i = reads_on (lead x) (lead-lawful x) s t at m hv in
    (rw i.0 q, omega (arith, i.1, ends q)))

-- ---- the lists of the parts

module _ (x : Context) (k : ℕ) (s : Bits) (at : ℕ) {g : (Marked Bool)} {c : ℕ} (hg : first_flag_at x k s at ≡ got g c) (b w : List ℕ) where
  pub l0-covered : Covered list_words (operations_if g.value (modification_kind x.kind.mvc)) s c b w → Covered (λ m. list_words m.l0.operations) (modifications x k) s at b w
  unfolding Covered
  l0-covered C i t m e q =
      let p = first_on x k s t at i hg in
      under ((operations_if g.value (modification_kind x.kind.mvc)).read (s ++ t) c) _ (rw (modifications-split x k (s ++ t) at, p.0) at q) (λ o d ho q₁.
      under ((flag_if (is_b k)).read (s ++ t) d) _ q₁ (λ h f hh q₂.
      under ((operations_if h.value (modification_kind x.kind.mvc)).read (s ++ t) f) _ q₂ (λ r j hr q₃.
      let u : modifications_of g o h r ≡ m = cc in
      rw (← u) (C p.1 t o d ho))))

  pub l1-covered : {o : Operations} {d : ℕ} → (operations_if g.value (modification_kind x.kind.mvc)).read s c ≡ got o d → {h : (Marked Bool)} {f : ℕ} → (flag_if (is_b k)).read s d ≡ got h f
      → Covered list_words (operations_if h.value (modification_kind x.kind.mvc)) s f b w → Covered (λ m. list_words m.l1.operations) (modifications x k) s at b w
  unfolding Covered
  l1-covered {o} {d} ho {h} {f} hh C i t m e q =
      let p = first_on x k s t at i hg in
      let p₁ = reads_on (operations_if g.value (modification_kind x.kind.mvc)) (operations_if-lawful _ _) s t c p.1 ho in
      let p₂ = reads_on (flag_if (is_b k)) (flag_if-lawful (is_b k)) s t d p₁.1 hh in
      under ((operations_if h.value (modification_kind x.kind.mvc)).read (s ++ t) f) _ (rw (modifications-split x k (s ++ t) at, p.0, p₁.0, p₂.0) at q) (λ r j hr q₁.
      let u : modifications_of g o h r ≡ m = cc in
      rw (← u) (C p₂.1 t r j hr))

pub marking-covered : (x : Context) (s : Bits) (at : ℕ) {f : MarkingFlags} {c : ℕ} → marking_flags_at x s at ≡ got f c → (b w : List ℕ)
    → Covered list_words (operations_if f.adaptive_ref_pic_marking_mode_flag.value marking_kind) s c b w → Covered (λ d. list_words d.operations) (dec_ref_pic_marking x) s at b w
unfolding Covered
marking-covered x s at {f} {c} hf b w C i t d e q =
    let p = marking-on x s t at i hf in
    under ((operations_if f.adaptive_ref_pic_marking_mode_flag.value marking_kind).read (s ++ t) c) _ (rw (marking-split x 0 (s ++ t) at, p.0) at q) (λ o j ho q₁.
    let u : marking_of f o ≡ d = cc in
    rw (← u) (C p.1 t o j ho))

-- ---- the header

-- words whose lists are covered by a header's
covered : (h : SliceHeader) (b w : HeaderWords)
    → sets w.l0 0 (list_words h.modifications.l0.operations) ≡ sets b.l0 0 (list_words h.modifications.l0.operations)
    → sets w.l1 0 (list_words h.modifications.l1.operations) ≡ sets b.l1 0 (list_words h.modifications.l1.operations)
    → sets w.w0 0 (weight_words h.pred_weight_table.l0) ≡ sets b.w0 0 (weight_words h.pred_weight_table.l0)
    → sets w.w1 0 (weight_words h.pred_weight_table.l1) ≡ sets b.w1 0 (weight_words h.pred_weight_table.l1)
    → sets w.marking 0 (list_words h.dec_ref_pic_marking.operations) ≡ sets b.marking 0 (list_words h.dec_ref_pic_marking.operations)
    → header_in h w ≡ header_in h b
covered h b w e0 e1 e2 e3 e4 = rw (e0, e1, e2, e3, e4)

module _ (n : UnitKind) (l : Led) (f : FrontParts) where
  abbrev x : Context
  x = context_of n l

  abbrev k : ℕ
  k = l.slice_type

  abbrev table : Fmt PredWeightTable
  table = pred_weight_table (context_of n l) l.slice_type (at_most32 (active_l0 (context_of n l) f.active_counts)) (at_most32 (active_l1 (context_of n l) f.active_counts))

  -- what a header that was read went through
  record Taken (u : Bits) (at : ℕ) (h : SliceHeader) : Type 0 where
    c : ℕ
    d : ℕ
    e : ℕ
    lists : (modifications (context_of n l) l.slice_type).read u at ≡ got h.modifications c
    weights : (pred_weight_table (context_of n l) l.slice_type (at_most32 (active_l0 (context_of n l) f.active_counts)) (at_most32 (active_l1 (context_of n l) f.active_counts))).read u c ≡ got h.pred_weight_table d
    marks : (dec_ref_pic_marking (context_of n l)).read u d ≡ got h.dec_ref_pic_marking e

  taken : (u : Bits) (at : ℕ) (h : SliceHeader) (e : ℕ) → behind n l f u at ≡ got h e → Taken u at h
  taken u at h e q =
      under ((modifications x k).read u at) _ q (λ m c hm q₁.
      under (table.read u c) _ q₁ (λ v d hv q₂.
      under ((dec_ref_pic_marking x).read u d) _ q₂ (λ r g hr q₃.
      under (back_at x k u g) _ q₃ (λ y j hy q₄.
      let z = (chosen (any_set (drop (j + 1) u)) (header_of l f m v r y) h j e _ q₄).1 in
      record {
        c = c;
        d = d;
        e = g;
        lists = hm ∙ ap (λ (o : SliceHeader). got o.modifications c) z;
        weights = hv ∙ ap (λ (o : SliceHeader). got o.pred_weight_table d) z;
        marks = hr ∙ ap (λ (o : SliceHeader). got o.dec_ref_pic_marking g) z;
      }))))

  module _ (s : Bits) (at : ℕ) (b w : HeaderWords)
      (c0 : Covered (λ m. list_words m.l0.operations) (modifications (context_of n l) l.slice_type) s at b.l0 w.l0)
      (c1 : Covered (λ m. list_words m.l1.operations) (modifications (context_of n l) l.slice_type) s at b.l1 w.l1) where
    -- no list of weights was begun
    pub kept-lists : w.w0 ≡ b.w0 → w.w1 ≡ b.w1 → w.marking ≡ b.marking → at ≤ length s → Kept (λ t. behind n l f (s ++ t) at) b w
    unfolding Kept Covered
    kept-lists e0 e1 e2 i t h e q =
        let T = taken (s ++ t) at h e q in
        covered h b w (c0 i t _ _ T.lists) (c1 i t _ _ T.lists) (rw e0) (rw e1) (rw e2)

    module _ {m : Modifications} {c : ℕ} (hm : (modifications (context_of n l) l.slice_type).read s at ≡ got m c)
        (d0 : Covered (λ t. weight_words t.l0) table s c b.w0 w.w0) (d1 : Covered (λ t. weight_words t.l1) table s c b.w1 w.w1) where
      -- no marking was begun
      pub kept-weights : w.marking ≡ b.marking → at ≤ length s → Kept (λ t. behind n l f (s ++ t) at) b w
      unfolding Kept Covered
      kept-weights e2 i t h e q =
          let T = taken (s ++ t) at h e q in
          let p = reads_on (modifications x k) (modifications-lawful x k) s t at i hm in
          let u : c ≡ T.c = ends (sym p.0 ∙ T.lists) in
          let v = rw (← u) at T.weights in
          covered h b w (c0 i t _ _ T.lists) (c1 i t _ _ T.lists) (d0 p.1 t _ _ v) (d1 p.1 t _ _ v) (rw e2)

      pub kept-marks : {y : PredWeightTable} {d : ℕ} → table.read s c ≡ got y d → Covered (λ d. list_words d.operations) (dec_ref_pic_marking (context_of n l)) s d b.marking w.marking
          → at ≤ length s → Kept (λ t. behind n l f (s ++ t) at) b w
      unfolding Kept Covered
      kept-marks {y} {d} hy C i t h e q =
          let T = taken (s ++ t) at h e q in
          let p = reads_on (modifications x k) (modifications-lawful x k) s t at i hm in
          let u : c ≡ T.c = ends (sym p.0 ∙ T.lists) in
          let v = rw (← u) at T.weights in
          let o = reads_on table (pred_weight_table-lawful x k _ _ (at-most-32 _) (at-most-32 _)) s t c p.1 hy in
          let z : d ≡ T.d = ends (sym o.0 ∙ v) in
          covered h b w (c0 i t _ _ T.lists) (c1 i t _ _ T.lists) (d0 p.1 t _ _ v) (d1 p.1 t _ _ v) (C o.1 t _ _ (rw (← z) at T.marks))

-- a header that is refused before its lists
pub kept-front : (reads : Bits → Res SliceHeader) (b : HeaderWords) (numbers : List ℕ) (signed : List ℤ)
    → Kept reads b (record { numbers = numbers; signed = signed; l0 = b.l0; l1 = b.l1; marking = b.marking; w0 = b.w0; w1 = b.w1 })
unfolding Kept
kept-front reads b numbers signed t h e q = refl

-- the front that was read is one of those with its counts
pub each-front : {a : ActiveCounts} (P : FrontParts → Type 0) (f : FrontParts) → a ≡ f.active_counts → EachFront a P → P f
unfolding EachFront
each-front P f e k = subst (λ (v : ActiveCounts). P (front_of f.frame f.order_count v)) e (k f.frame f.order_count)

-- and one whose first fields are read, and laid down
pub kept-behind : (x : Table) (n : UnitKind) (s : Bits) {l : Led} {c : ℕ} → led_at x s 0 ≡ got l c → {f : FrontParts} {d : ℕ} → front_at (context_of n l) l.slice_type s c ≡ got f d
    → (b v w : HeaderWords) → ((h : SliceHeader) → header_in h v ≡ header_in h b) → (d ≤ length s → Kept (λ t. behind n l f (s ++ t) d) v w) → Kept (λ t. read_header x n (s ++ t)) b w
unfolding Kept
kept-behind x n s {l} {c} hl hf b v w y K t h e q =
    let p = led_on x s t 0 (omega arith) hl in
    let o = front-on (context_of n l) l.slice_type s t c p.1 hf in
    K o.1 t h e (sym (front_read x n (s ++ t) p.0 o.0) ∙ q) ∙ y h
