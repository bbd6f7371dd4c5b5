-- The weights are lawful: an entry, a list of up to 32 entries in its array, and pred_weight_table( ).
use Prim.Native.Nat.{ℕ, ◌≤◌}
use mathlib.Core.Path.{◌≡◌, refl}
use mathlib.Core.Bool.{Bool, true, false, not, ◌&&◌}
use native.Mathlib.Omega.{arith}
use lib.Dec.{T}
use Rattle.bits.specs.Refusals.{pick}
use Rattle.fmt.specs.Fmt.{when, times}
use Rattle.fmt.specs.Leaves.{ue}
use Rattle.fmt.specs.Arrays.{padded}
use Rattle.fmt.proofs.Lawful.{Lawful, not-T-false}
use Rattle.fmt.proofs.Combinators.{seq-lawful, shaped-lawful, when-lawful}
use Rattle.fmt.proofs.Leaves.{flag-lawful, ue-lawful}
use Rattle.fmt.proofs.Lists.{times-lawful, times-length}
use Rattle.fmt.proofs.Arrays.{unpad-pad, length-unpad, pad-padded, pad-unpad}
use Rattle.syntax.specs.declared.context.Context.{Context}
use Rattle.syntax.specs.declared.record.Weight.{Weight}
use Rattle.syntax.specs.Marks.{is_zero, is_zero_z}
use Rattle.syntax.specs.SliceHeader.{weight, no_weight, is_no_weight, weight_list, pred_weight_table}
use Rattle.syntax.proofs.Absent.{zero_is, zero_z-is, number_if-lawful, given-se, given-flag}

pub weight-lawful : (chroma : Bool) → Lawful (weight chroma)
unfolding weight
weight-lawful chroma = shaped-lawful _ _ _ _ (λ b t. refl) (λ a g. (refl, tt)) (search (seq-lawful, flag-lawful, given-flag, given-se) depth 9)

-- ---- no weight

-- each of eight tests that all hold
each : (a b c d e f g h : Bool) → T (a && (b && (c && (d && (e && (f && (g && h))))))) → T a × (T b × (T c × (T d × (T e × (T f × (T g × T h))))))
each true true true true true true true h t = (tt, (tt, (tt, (tt, (tt, (tt, (tt, t)))))))
each false b c d e f g h t = absurd t
each true false c d e f g h t = absurd t
each true true false d e f g h t = absurd t
each true true true false e f g h t = absurd t
each true true true true false f g h t = absurd t
each true true true true true false g h t = absurd t
each true true true true true true false h t = absurd t

pub no-weight-is : (w : Weight) → T (is_no_weight w) → w ≡ no_weight
no-weight-is w t =
    let v = each (not w.luma_weight_flag) (is_zero_z w.luma_weight) (is_zero_z w.luma_offset) (not w.chroma_weight_flag)
    (is_zero_z w.cb_weight) (is_zero_z w.cb_offset) (is_zero_z w.cr_weight) (is_zero_z w.cr_offset) t in
    λ i.
    record {
      luma_weight_flag = not-T-false w.luma_weight_flag v.0 i;
      luma_weight = zero_z-is w.luma_weight v.1.0 i;
      luma_offset = zero_z-is w.luma_offset v.1.1.0 i;
      chroma_weight_flag = not-T-false w.chroma_weight_flag v.1.1.1.0 i;
      cb_weight = zero_z-is w.cb_weight v.1.1.1.1.0 i;
      cb_offset = zero_z-is w.cb_offset v.1.1.1.1.1.0 i;
      cr_weight = zero_z-is w.cr_weight v.1.1.1.1.1.1.0 i;
      cr_offset = zero_z-is w.cr_offset v.1.1.1.1.1.1.1 i;
    }

-- ---- lists

pub weight_list-lawful : (chroma : Bool) (n : ℕ) → n ≤ 32 → Lawful (weight_list chroma n)
unfolding weight_list
weight_list-lawful chroma n h =
    shaped-lawful _ _ (λ w. padded is_no_weight 32 w.count w.entries) (times n (weight chroma))
    (λ w t. λ i. record {
      count = length-unpad is_no_weight 32 w.count w.entries t i;
      entries = pad-unpad no_weight is_no_weight no-weight-is 32 w.count w.entries t i;
    })
    (λ l g. (unpad-pad no_weight 32 l, pad-padded no_weight is_no_weight tt 32 l (omega (arith, times-length (weight chroma) n l g))))
    (times-lawful (weight chroma) (weight-lawful chroma) n)

-- a list that is there only if b
list_if : (chroma b : Bool) (n : ℕ) → n ≤ 32 → Lawful (weight_list chroma (pick b n 0))
list_if chroma true n h = weight_list-lawful chroma n h
list_if chroma false n h = weight_list-lawful chroma 0 (omega arith)

when-ue : (b : Bool) → Lawful (when b 0 is_zero ue)
when-ue = when-lawful 0 is_zero ue tt zero_is ue-lawful

pub pred_weight_table-lawful : (x : Context) (k n0 n1 : ℕ) → n0 ≤ 32 → n1 ≤ 32 → Lawful (pred_weight_table x k n0 n1)
unfolding pred_weight_table
pred_weight_table-lawful x k n0 n1 h0 h1 =
    shaped-lawful _ _ _ _ (λ b t. refl) (λ a g. (refl, tt)) (search (seq-lawful, when-ue, number_if-lawful, ue-lawful, list_if) depth 9)
