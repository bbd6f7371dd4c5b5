-- The table by cases, absent and there, and its counts.
use Prim.Native.Nat.{ℕ}
use mathlib.Core.Path.{◌≡◌}
use mathlib.Core.Bool.{Bool, true, false}
use Rattle.bits.specs.Refusals.{Res, got, bind, pick}
use Rattle.bits.specs.Bits.{Bits}
use Rattle.bits.proofs.Results.{bind-bind}
use Rattle.fmt.specs.Fmt.{seq, shaped, when, times}
use Rattle.fmt.specs.Arrays.{pad}
use Rattle.fmt.specs.Leaves.{ue}
use Rattle.syntax.specs.Marks.{number_if}
use Rattle.syntax.specs.Context.{is_b, has_chroma, is_weighted}
use Rattle.syntax.specs.SliceHeader.{weight_list, pred_weight_table}
use Rattle.syntax.specs.declared.context.Context.{Context}
use Rattle.syntax.specs.declared.record.PredWeightTable.{PredWeightTable}
use Rattle.syntax.specs.Absent.{no_table}

module _ (x : Context) (k m n : ℕ) (s : Bits) (at : ℕ) where
  pub table-absent : is_weighted x k ≡ false → (pred_weight_table x k m n).read s at ≡ got no_table at
  unfolding pred_weight_table seq shaped when number_if weight_list times pad
  table-absent h = rw h

  -- what is read of a table that is there
  abbrev pub present : Bool → Res PredWeightTable
  present chroma =
      bind (ue.read s at) (λ v c.
      bind ((number_if chroma ue).read s c) (λ w d.
      bind ((weight_list chroma m).read s d) (λ l0 e.
      bind ((weight_list chroma (pick (is_b k) n 0)).read s e) (λ l1 f.
      got (record { there = true; luma_log2_weight_denom = v; chroma_log2_weight_denom = w; l0 = l0; l1 = l1 }) f))))

  pub table-there : is_weighted x k ≡ true → (chroma : Bool) → chroma ≡ has_chroma x → (pred_weight_table x k m n).read s at ≡ present chroma
  unfolding pred_weight_table seq shaped when
  table-there h chroma g = rw (h, ← g) (simp bind-bind)
