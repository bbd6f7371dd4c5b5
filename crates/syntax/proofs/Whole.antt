-- The slice header is lawful, whatever the table and the unit's kind; and so is the prefix unit's body.
use Prim.Native.Nat.{ℕ, ◌+◌, ◌≤◌}
use mathlib.Core.Path.{refl}
use mathlib.Core.Bool.{Bool, true, false}
use native.Mathlib.Omega.{arith}
use lib.Dec.{eqb→eq, eqb_refl}
use Rattle.bits.specs.Refusals.{pick}
use Rattle.fmt.specs.Fmt.{seq}
use Rattle.fmt.proofs.Lawful.{Lawful}
use Rattle.fmt.proofs.Combinators.{seq-lawful, seq-lawful-good, shaped-lawful}
use Rattle.table.specs.declared.table.Table.{Table}
use Rattle.syntax.specs.declared.context.UnitKind.{UnitKind}
use Rattle.syntax.specs.declared.context.PrefixKind.{PrefixKind}
use Rattle.syntax.specs.declared.context.Context.{Context}
use Rattle.syntax.specs.Context.{sequence_id_for, context_for}
use Rattle.syntax.specs.SliceHeader.{active_of, lead, parts, to_header, of_header, header}
use Rattle.syntax.specs.Prefix.{prefix}
use Rattle.syntax.proofs.Absent.{flag_if-lawful}
use Rattle.syntax.proofs.Operations.{operations_if-lawful}
use Rattle.syntax.proofs.Parts.{lead-lawful, frame-lawful, order_count-lawful, active_counts-lawful, modifications-lawful, dec_ref_pic_marking-lawful, quantiser-lawful, filter-lawful}
use Rattle.syntax.proofs.Weights.{pred_weight_table-lawful}
use Rattle.syntax.proofs.Sets.{Few, defaults-few}
use Rattle.syntax.proofs.Goods.{counts-few}
use Rattle.syntax.specs.declared.marks.Marked.{Marked}

-- a list has at most 32 references
pub active-few : (m : (Marked ℕ)) (default : ℕ) → m.value ≤ 31 → default ≤ 31 → active_of m default ≤ 32
active-few m default h d = by m.there
  where
    by : (b : Bool) → pick b m.value default + 1 ≤ 32
    by true = omega arith
    by false = omega arith

pub parts-lawful : (x : Context) (k : ℕ) → Few x.picture → Lawful (parts x k)
unfolding parts
parts-lawful x k d =
    seq-lawful _ _ (frame-lawful x) (λ f.
    seq-lawful _ _ (order_count-lawful x _) (λ o.
    seq-lawful-good _ _ (active_counts-lawful k) (λ a g.
    let c = counts-few k a g in
    seq-lawful _ _ (modifications-lawful x k) (λ m.
    seq-lawful _ _ (pred_weight_table-lawful x k _ _ (active-few a.num_ref_idx_l0_active_minus1 _ c.l0 d.l0) (active-few a.num_ref_idx_l1_active_minus1 _ c.l1 d.l1)) (λ w.
    seq-lawful _ _ (dec_ref_pic_marking-lawful x) (λ r.
    seq-lawful _ _ (quantiser-lawful x k) (λ q.
    filter-lawful x)))))))

pub context-lawful : (t : Table) (n : UnitKind) (id k : ℕ) → Lawful (parts (context_for t n id) k)
unfolding context_for
context-lawful t n id k = parts-lawful (context_for t n id) k (defaults-few t id)

pub header-lawful : (t : Table) (n : UnitKind) → Lawful (header t n)
unfolding header
header-lawful t n =
    shaped-lawful (to_header t) of_header _ (seq (lead t) (λ l. parts (context_for t n l.1.1) l.1.0))
    (λ h g. let e = eqb→eq h.seq_parameter_set_id (sequence_id_for t h.pic_parameter_set_id) g in rw (← e))
    (λ v g. (refl, eqb_refl (sequence_id_for t v.0.1.1)))
    (seq-lawful _ _ (lead-lawful t) (λ l. context-lawful t n l.1.1 l.1.0))

pub prefix-lawful : (k : PrefixKind) → Lawful (prefix k)
unfolding prefix
prefix-lawful k = shaped-lawful _ _ _ _ (λ b t. refl) (λ a g. (refl, tt)) (search (seq-lawful, flag_if-lawful, operations_if-lawful) depth 12)
