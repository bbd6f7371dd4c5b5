-- The header's parts are lawful, weights aside.
use Prim.Native.Nat.{ℕ}
use mathlib.Core.Path.{◌≡◌, refl, sym}
use mathlib.Core.Bool.{Bool, true, false, not}
use lib.Dec.{T}
use Rattle.bits.specs.Refusals.{pick}
use Rattle.fmt.proofs.Lawful.{Lawful, T_true, not-T-false}
use Rattle.fmt.proofs.Combinators.{nothing_lawful, seq-lawful, shaped-lawful, test-lawful}
use Rattle.fmt.proofs.Leaves.{flag-lawful, u_lawful, ue-lawful, se-lawful}
use Rattle.table.specs.declared.table.Table.{Table}
use Rattle.syntax.specs.declared.context.Context.{Context}
use Rattle.syntax.specs.Context.{order_type}
use Rattle.syntax.specs.SliceHeader.{slice_type, picture_set_id, lead, frame, deltas, order_count, active_minus1, active_counts, modification, not_scalable, modifications, dec_ref_pic_marking, quantiser, filter}
use Rattle.syntax.proofs.Absent.{number_if-lawful, signed_if-lawful, flag_if-lawful, given-se}
use Rattle.syntax.proofs.Operations.{operations_if-lawful}

ruleset fields = (seq-lawful, test-lawful, number_if-lawful, signed_if-lawful, flag_if-lawful, given-se, flag-lawful, u_lawful, ue-lawful, se-lawful)

pub slice_type-lawful : Lawful slice_type
unfolding slice_type
slice_type-lawful = search fields

pub picture_set_id-lawful : (t : Table) → Lawful (picture_set_id t)
unfolding picture_set_id
picture_set_id-lawful t = search fields

pub lead-lawful : (t : Table) → Lawful (lead t)
unfolding lead
lead-lawful t = search (fields, slice_type-lawful, picture_set_id-lawful)

pub frame-lawful : (x : Context) → Lawful (frame x)
unfolding frame
frame-lawful x = shaped-lawful _ _ _ _ (λ b t. refl) (λ a g. (refl, tt)) (search fields depth 9)

told : (b c : Bool) → T (pick b c (not c)) → b ≡ c
told true c t = sym (T_true c t)
told false c t = sym (not-T-false c t)

told-so : (b : Bool) → T (pick b b (not b))
told-so true = tt
told-so false = tt

pub deltas-lawful : (x : Context) (field : Bool) → Lawful (deltas x field)
unfolding deltas
deltas-lawful x field =
    shaped-lawful _ _ _ _ (λ d t. (λ i. record { there = told (order_type x 1) d.there t i; first = d.first; second = d.second }))
    (λ a g. (refl, told-so (order_type x 1))) (search fields depth 9)

pub order_count-lawful : (x : Context) (field : Bool) → Lawful (order_count x field)
unfolding order_count
order_count-lawful x field = shaped-lawful _ _ _ _ (λ b t. refl) (λ a g. (refl, tt)) (search (fields, deltas-lawful) depth 9)

pub active_minus1-lawful : Lawful active_minus1
unfolding active_minus1
active_minus1-lawful = search fields

pub active_counts-lawful : (k : ℕ) → Lawful (active_counts k)
unfolding active_counts
active_counts-lawful k = shaped-lawful _ _ _ _ (λ b t. refl) (λ a g. (refl, tt)) (search (fields, active_minus1-lawful) depth 9)

pub modification-lawful : (mvc there : Bool) → Lawful (modification mvc there)
unfolding modification
modification-lawful mvc there = shaped-lawful _ _ _ _ (λ b t. refl) (λ a g. (refl, tt)) (search (fields, operations_if-lawful) depth 9)

pub not_scalable-lawful : (x : Context) → Lawful (not_scalable x)
unfolding not_scalable
not_scalable-lawful x = search (fields, nothing_lawful)

pub modifications-lawful : (x : Context) (k : ℕ) → Lawful (modifications x k)
unfolding modifications
modifications-lawful x k = shaped-lawful _ _ _ _ (λ b t. refl) (λ a g. (refl, tt)) (search (fields, not_scalable-lawful, modification-lawful) depth 9)

pub dec_ref_pic_marking-lawful : (x : Context) → Lawful (dec_ref_pic_marking x)
unfolding dec_ref_pic_marking
dec_ref_pic_marking-lawful x = shaped-lawful _ _ _ _ (λ b t. refl) (λ a g. (refl, tt)) (search (fields, operations_if-lawful) depth 9)

pub quantiser-lawful : (x : Context) (k : ℕ) → Lawful (quantiser x k)
unfolding quantiser
quantiser-lawful x k = shaped-lawful _ _ _ _ (λ b t. refl) (λ a g. (refl, tt)) (search fields depth 9)

pub filter-lawful : (x : Context) → Lawful (filter x)
unfolding filter
filter-lawful x = shaped-lawful _ _ _ _ (λ b t. refl) (λ a g. (refl, tt)) (search fields depth 9)
