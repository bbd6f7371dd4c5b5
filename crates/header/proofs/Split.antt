-- Reading the header's parts is reading the stages one after the other.
use Prim.Native.Nat.{ℕ}
use mathlib.Core.Path.{◌≡◌}
use Rattle.bits.specs.Refusals.{got, bind}
use Rattle.bits.specs.Bits.{Bits}
use Rattle.bits.proofs.Results.{bind-bind}
use Rattle.fmt.specs.Fmt.{seq, shaped}
use Rattle.syntax.specs.declared.context.Context.{Context}
use Rattle.syntax.specs.declared.record.Operations.{Operations}
use Rattle.syntax.specs.declared.record.Modifications.{Modifications}
use Rattle.syntax.specs.declared.record.PredWeightTable.{PredWeightTable}
use Rattle.syntax.specs.declared.record.DecRefPicMarking.{DecRefPicMarking}
use Rattle.syntax.specs.Marks.{flag_if}
use Rattle.syntax.specs.Lists.{operations_if}
use Rattle.syntax.specs.Context.{is_b}
use Rattle.syntax.specs.SliceHeader.{Parts, parts, modification_kind, modification, modifications, pred_weight_table, marking_kind, dec_ref_pic_marking, active_l0, active_l1}
use Rattle.header.specs.declared.stages.MarkingFlags.{MarkingFlags}
use Rattle.header.specs.Stages.{FrontParts, BackParts, front_at, first_flag_at, marking_flags_at, back_at}
use Rattle.syntax.specs.declared.marks.Marked.{Marked}
use Rattle.std.specs.Prelude.{Bool}

abbrev pub modifications_of : (Marked Bool) → Operations → (Marked Bool) → Operations → Modifications
modifications_of g o h p = record { l0 = record { flag = g; operations = o }; l1 = record { flag = h; operations = p } }

abbrev pub marking_of : MarkingFlags → Operations → DecRefPicMarking
marking_of m o =
    record {
      no_output_of_prior_pics_flag = m.no_output_of_prior_pics_flag;
      long_term_reference_flag = m.long_term_reference_flag;
      adaptive_ref_pic_marking_mode_flag = m.adaptive_ref_pic_marking_mode_flag;
      operations = o;
    }

abbrev pub parts_of : FrontParts → Modifications → PredWeightTable → DecRefPicMarking → BackParts → Parts
parts_of f m w d b = (f.frame, (f.order_count, (f.active_counts, (m, (w, (d, (b.quantiser, b.filter)))))))

module _ (x : Context) (k : ℕ) (s : Bits) (at : ℕ) where
  pub modifications-split : (modifications x k).read s at
      ≡ bind (first_flag_at x k s at) (λ g c.
      bind ((operations_if g.value (modification_kind x.kind.mvc)).read s c) (λ o d.
      bind ((flag_if (is_b k)).read s d) (λ h e.
      bind ((operations_if h.value (modification_kind x.kind.mvc)).read s e) (λ p f.
      got (modifications_of g o h p) f))))
  unfolding modifications modification seq shaped first_flag_at
  modifications-split = simp bind-bind

  pub marking-split : (dec_ref_pic_marking x).read s at
      ≡ bind (marking_flags_at x s at) (λ m c.
      bind ((operations_if m.adaptive_ref_pic_marking_mode_flag.value marking_kind).read s c) (λ o d.
      got (marking_of m o) d))
  unfolding dec_ref_pic_marking seq shaped marking_flags_at
  marking-split = simp bind-bind

  pub parts-split : (parts x k).read s at
      ≡ bind (front_at x k s at) (λ f c.
      bind ((modifications x k).read s c) (λ m d.
      bind ((pred_weight_table x k (active_l0 x f.active_counts) (active_l1 x f.active_counts)).read s d) (λ w e.
      bind ((dec_ref_pic_marking x).read s e) (λ r g.
      bind (back_at x k s g) (λ b h.
      got (parts_of f m w r b) h)))))
  unfolding parts seq front_at back_at
  parts-split = simp bind-bind
