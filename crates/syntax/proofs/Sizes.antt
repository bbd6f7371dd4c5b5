-- How many bits the header's parts have at most, lists aside.
use Prim.Native.Nat.{ℕ, ◌+◌, ◌≤◌}
use mathlib.Core.Bool.{Bool, true, false, not}
use native.Mathlib.Omega.{arith}
use lib.Dec.{T, leb, leb→le}
use lib.IntN.{ℤ, pos}
use Rattle.bits.specs.Refusals.{pick}
use Rattle.fmt.specs.Fmt.{Fmt, seq, when}
use Rattle.fmt.specs.Leaves.{flag, u, se}
use Rattle.fmt.proofs.Sizes.{Short, u-short, flag-short, ue-short, se-short, nothing-short, seq-short, shaped-short, test_short, when-short}
use Rattle.table.specs.declared.table.Table.{Table}
use Rattle.syntax.specs.declared.context.Context.{Context}
use Rattle.syntax.specs.Marks.{is_zero, is_zero_z, number_if, signed_if, flag_if, given}
use Rattle.syntax.specs.SliceHeader.{slice_type, picture_set_id, lead, frame, deltas, order_count, active_minus1, active_counts, not_scalable, weight, quantiser, filter}

-- ---- fields that may be absent

module _ (b : Bool) where
  pub number_if-short : (F : Fmt ℕ) (m : ℕ) → Short F m → Short (number_if b F) m
  unfolding number_if
  number_if-short F m S = shaped-short _ _ _ (when b 0 is_zero F) m (when-short b 0 is_zero F m S)

  pub signed_if-short : (F : Fmt ℤ) (m : ℕ) → Short F m → Short (signed_if b F) m
  unfolding signed_if
  signed_if-short F m S = shaped-short _ _ _ (when b (pos 0) is_zero_z F) m (when-short b (pos 0) is_zero_z F m S)

  pub flag_if-short : Short (flag_if b) 1
  unfolding flag_if
  flag_if-short = shaped-short _ _ _ (when b false not flag) 1 (when-short b false not flag 1 flag-short)

  pub given-short : {A : Type 0} (z : A) (isz : A → Bool) (F : Fmt A) (m : ℕ) → Short F m → Short (given b z isz F) m
  unfolding given
  given-short z isz F m S = shaped-short _ _ _ (when b z isz F) m (when-short b z isz F m S)

  pub given-se-short : Short (given b (pos 0) is_zero_z se) 63
  given-se-short = given-short (pos 0) is_zero_z se 63 se-short

-- a fixed-width field has at most 32 bits
width-most : (b : Bool) (n : ℕ) → (T b → n ≤ 32) → pick b n 32 ≤ 32
width-most true n h = h tt
width-most false n h = omega arith

pub u-most : (n : ℕ) → Short (u n) 32
u-most n = record { most = λ v g. omega (arith, (u-short n).most v g, width-most (leb n 32) n (leb→le n 32)) }

-- ---- parts

-- a field, and what follows it
pub then : {A B : Type 0} {F : Fmt A} {G : A → Fmt B} {m n : ℕ} → Short F m → ((a : A) → Short (G a) n) → Short (seq F G) (m + n)
then {F = F} {G} {m} {n} = seq-short F G m n

pub slice_type-short : Short slice_type 63
unfolding slice_type
slice_type-short = test_short _ _ _ _ _ ue-short

pub picture_set_id-short : (t : Table) → Short (picture_set_id t) 63
unfolding picture_set_id
picture_set_id-short t = test_short _ _ _ _ _ (test_short _ _ _ _ _ (test_short _ _ _ _ _ ue-short))

pub lead-short : (t : Table) → Short (lead t) 189
unfolding lead
lead-short t = then ue-short (λ v. then slice_type-short (λ k. picture_set_id-short t))

pub frame-short : (x : Context) → Short (frame x) 99
unfolding frame
frame-short x =
    shaped-short _ _ _ _ _
    (then (number_if-short _ _ 2 (test_short _ _ _ _ _ (u-short 2))) (λ colour-plane-id.
    then (u-most _) (λ frame-num.
    then (flag_if-short _) (λ field-pic-flag.
    then (flag_if-short _) (λ bottom-field-flag.
    number_if-short _ _ 63 ue-short)))))

pub deltas-short : (x : Context) (field : Bool) → Short (deltas x field) 126
unfolding deltas
deltas-short x field = shaped-short _ _ _ _ _ (then (given-se-short _) (λ first. given-se-short _))

pub order_count-short : (x : Context) (field : Bool) → Short (order_count x field) 284
unfolding order_count
order_count-short x field =
    shaped-short _ _ _ _ _
    (then (number_if-short _ _ 32 (u-most _)) (λ pic-order-cnt-lsb.
    then (signed_if-short _ _ 63 se-short) (λ delta-pic-order-cnt-bottom.
    then (deltas-short x field) (λ delta-pic-order-cnt.
    number_if-short _ _ 63 ue-short))))

pub active_minus1-short : Short active_minus1 63
unfolding active_minus1
active_minus1-short = test_short _ _ _ _ _ ue-short

pub active_counts-short : (k : ℕ) → Short (active_counts k) 128
unfolding active_counts
active_counts-short k =
    shaped-short _ _ _ _ _
    (then (flag_if-short _) (λ direct-spatial-mv-pred-flag.
    then (flag_if-short _) (λ override.
    then (number_if-short _ _ 63 active_minus1-short) (λ l0.
    number_if-short _ _ 63 active_minus1-short))))

pub not_scalable-short : (x : Context) → Short (not_scalable x) 0
unfolding not_scalable
not_scalable-short x = test_short _ _ _ _ _ nothing-short

pub weight-short : (chroma : Bool) → Short (weight chroma) 380
unfolding weight
weight-short chroma =
    shaped-short _ _ _ _ _
    (then flag-short (λ luma.
    then (given-se-short _) (λ luma-weight.
    then (given-se-short _) (λ luma-offset.
    then (given-short _ false not flag 1 flag-short) (λ c.
    then (given-se-short _) (λ cb-weight.
    then (given-se-short _) (λ cb-offset.
    then (given-se-short _) (λ cr-weight.
    given-se-short _))))))))

pub quantiser-short : (x : Context) (k : ℕ) → Short (quantiser x k) 190
unfolding quantiser
quantiser-short x k =
    shaped-short _ _ _ _ _
    (then (number_if-short _ _ 63 ue-short) (λ cabac-init-idc.
    then (test_short _ _ _ _ _ se-short) (λ slice-qp-delta.
    then (flag_if-short _) (λ sp-for-switch-flag.
    signed_if-short _ _ 63 (test_short _ _ _ _ _ se-short)))))

pub filter-short : (x : Context) → Short (filter x) 221
unfolding filter
filter-short x =
    shaped-short _ _ _ _ _
    (then (number_if-short _ _ 63 (test_short _ _ _ _ _ ue-short)) (λ idc.
    then (signed_if-short _ _ 63 (test_short _ _ _ _ _ se-short)) (λ alpha.
    then (signed_if-short _ _ 63 (test_short _ _ _ _ _ se-short)) (λ beta.
    number_if-short _ _ 32 (u-most _)))))
