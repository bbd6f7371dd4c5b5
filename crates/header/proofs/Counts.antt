-- A header's counts of references are at most 32: its own by their test, the picture set's by the table's ranges. So reading weights at most 32 times is reading
-- them as often as the header says.
use Prim.Native.Nat.{ℕ, ◌≤◌}
use mathlib.Core.Path.{◌≡◌, sym, subst, ◌∙◌}
use mathlib.Core.Bool.{Bool, ◌&&◌}
use lib.Dec.{leb, leb→le}
use lib.IntN.{pos}
use borrow.Author.Tests.{le-leb}
use Rattle.bits.specs.Refusals.{Res, got, bind}
use Rattle.bits.specs.Bits.{Bits}
use Rattle.bits.proofs.Results.{under, bind-bind}
use Rattle.fmt.specs.Fmt.{seq, shaped}
use Rattle.fmt.specs.Leaves.{ue}
use Rattle.fields.proofs.Cases.{number_passed}
use Rattle.table.specs.declared.table.Table.{Table}
use Rattle.syntax.specs.declared.context.UnitKind.{UnitKind}
use Rattle.syntax.specs.declared.context.Context.{Context}
use Rattle.syntax.specs.declared.record.ActiveCounts.{ActiveCounts}
use Rattle.syntax.specs.Marks.{number_if, flag_if}
use Rattle.syntax.specs.Context.{is_b, has_l0}
use Rattle.syntax.specs.SliceHeader.{active_minus1, frame, order_count, active_counts, active_l0, active_l1, lead}
use Rattle.syntax.proofs.Sets.{Few, defaults-few}
use Rattle.syntax.proofs.Goods.{FewOwn}
use Rattle.syntax.proofs.Whole.{active-few}
use Rattle.weights.specs.Counts.{at_most32}
use Rattle.weights.proofs.AtMost.{at-most-32}
use Rattle.header.specs.declared.lead.Led.{Led}
use Rattle.header.specs.Lead.{led_of}
use Rattle.header.specs.Stages.{FrontParts, context_of, front_at}
use Rattle.syntax.specs.declared.marks.Marked.{Marked}

few-same : (n : ℕ) → n ≤ 32 → at_most32 n ≡ n
unfolding at_most32
few-same n h = rw (le-leb n 32 h)

pub twice_same : (n : ℕ) → at_most32 (at_most32 n) ≡ at_most32 n
twice_same n = few-same (at_most32 n) (at-most-32 n)

-- the first fields, with the sets that they name
abbrev pub led_at : Table → Bits → ℕ → Res Led
led_at t s at = bind ((lead t).read s at) (λ v e. got (led_of t v) e)

-- the picture set's counts
led-few : (t : Table) (s : Bits) (at : ℕ) {l : Led} {e : ℕ} → led_at t s at ≡ got l e → Few l.picture
led-few t s at {l} h =
    under ((lead t).read s at) _ h
    (λ v d hv k. let w : led_of t v ≡ l = cc k in subst (λ (p : Led). Few p.picture) w (defaults-few t v.1.1))

-- a count of the header's own
own-few : (b : Bool) (s : Bits) (at : ℕ) {m : (Marked ℕ)} {e : ℕ} → (number_if b active_minus1).read s at ≡ got m e → m.value ≤ 31
unfolding active_minus1
own-few b s at {m} h = leb→le m.value 31 (number_passed (λ n. leb n 31) 21 pos ue s at tt b h)

-- active_counts is read field by field
counts-read : (k : ℕ) (s : Bits) (at : ℕ)
    → (active_counts k).read s at
    ≡ bind ((flag_if (is_b k)).read s at) (λ d c.
    bind ((flag_if (has_l0 k)).read s c) (λ o e.
    bind ((number_if o.value active_minus1).read s e) (λ l0 f.
    bind ((number_if (o.value && is_b k) active_minus1).read s f) (λ l1 g.
    got (record { direct_spatial_mv_pred_flag = d; num_ref_idx_active_override_flag = o; num_ref_idx_l0_active_minus1 = l0; num_ref_idx_l1_active_minus1 = l1 }) g))))
unfolding active_counts seq shaped
counts-read k s at = simp bind-bind

counts-few : (k : ℕ) (s : Bits) (at : ℕ) {a : ActiveCounts} {e : ℕ} → (active_counts k).read s at ≡ got a e → FewOwn a
counts-few k s at {a} h =
    under ((flag_if (is_b k)).read s at) _ (sym (counts-read k s at) ∙ h) (λ d c hd h₁.
    under ((flag_if (has_l0 k)).read s c) _ h₁ (λ o e ho h₂.
    under ((number_if o.value active_minus1).read s e) _ h₂ (λ l0 f h0 h₃.
    under ((number_if (o.value && is_b k) active_minus1).read s f) _ h₃ (λ l1 g h1 h₄.
    let w : record { direct_spatial_mv_pred_flag = d; num_ref_idx_active_override_flag = o; num_ref_idx_l0_active_minus1 = l0; num_ref_idx_l1_active_minus1 = l1 } ≡ a = cc h₄ in
    subst FewOwn w (record { l0 = own-few _ s e h0; l1 = own-few _ s f h1 })))))

front-few : (x : Context) (k : ℕ) (s : Bits) (at : ℕ) {f : FrontParts} {e : ℕ} → front_at x k s at ≡ got f e → FewOwn f.active_counts
unfolding front_at
front-few x k s at {f} h =
    under ((frame x).read s at) _ h (λ v c hv h₁.
    under ((order_count x v.field_pic_flag.value).read s c) _ h₁ (λ o d ho h₂.
    under ((active_counts k).read s d) _ h₂ (λ a g ha h₃.
    let w : record { frame = v; order_count = o; active_counts = a } ≡ f = cc h₃ in
    subst (λ (p : FrontParts). FewOwn p.active_counts) w (counts-few k s d ha))))

-- the counts as the code has them are the header's
module _ (n : UnitKind) (l : Led) (a : ActiveCounts) (p : Few l.picture) (o : FewOwn a) where
  l0-same : at_most32 (active_l0 (context_of n l) a) ≡ active_l0 (context_of n l) a
  l0-same = few-same _ (active-few a.num_ref_idx_l0_active_minus1 _ o.l0 p.l0)

  l1-same : at_most32 (active_l1 (context_of n l) a) ≡ active_l1 (context_of n l) a
  l1-same = few-same _ (active-few a.num_ref_idx_l1_active_minus1 _ o.l1 p.l1)

module _ (t : Table) (n : UnitKind) (s : Bits) (at : ℕ) {l : Led} {c : ℕ} (hl : led_at t s at ≡ got l c)
    {f : FrontParts} {d : ℕ} (hf : front_at (context_of n l) l.slice_type s c ≡ got f d) where
  -- as the code has them, and as the header has them
  pub counts_same : (at_most32 (active_l0 (context_of n l) f.active_counts) ≡ active_l0 (context_of n l) f.active_counts)
      × (at_most32 (active_l1 (context_of n l) f.active_counts) ≡ active_l1 (context_of n l) f.active_counts)
  counts_same =
      let p = led-few t s at hl in
      let o = front-few (context_of n l) l.slice_type s c hf in
      (l0-same n l f.active_counts p o, l1-same n l f.active_counts p o)
