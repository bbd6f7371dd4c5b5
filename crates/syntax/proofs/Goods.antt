-- What a good value says of its parts; above all, that a good header's own counts of references are at most 31.
use Prim.Native.Nat.{ℕ, ◌≤◌}
use mathlib.Core.Bool.{Bool, true, false, not}
use native.Mathlib.Omega.{arith}
use lib.Dec.{T, leb→le}
use lib.IntN.{ℤ}
use Rattle.fmt.specs.Fmt.{Fmt, seq, shaped, test, when}
use Rattle.fmt.proofs.Lawful.{both-0, both-1}
use Rattle.syntax.specs.declared.record.ActiveCounts.{ActiveCounts}
use Rattle.syntax.specs.Marks.{is_zero, number_if}
use Rattle.syntax.specs.SliceHeader.{active_minus1, active_counts}
use Rattle.syntax.proofs.Absent.{zero_is}
use Rattle.syntax.specs.declared.marks.Marked.{Marked}

module _ {A B : Type 0} (F : Fmt A) (G : A → Fmt B) (v : A × B) where
  pub seq-first : T ((seq F G).good v) → T (F.good v.0)
  unfolding seq
  seq-first = both-0 (F.good v.0) ((G v.0).good v.1)

  pub seq-rest : T ((seq F G).good v) → T ((G v.0).good v.1)
  unfolding seq
  seq-rest = both-1 (F.good v.0) ((G v.0).good v.1)

module _ {A B : Type 0} (to : A → B) (from : B → A) (ok : B → Bool) (F : Fmt A) (b : B) where
  pub shaped-ok : T ((shaped to from ok F).good b) → T (ok b)
  unfolding shaped
  shaped-ok = both-0 (ok b) (F.good (from b))

  pub shaped_from : T ((shaped to from ok F).good b) → T (F.good (from b))
  unfolding shaped
  shaped_from = both-1 (ok b) (F.good (from b))

module _ {A : Type 0} (ok : A → Bool) (n : ℕ) (value : A → ℤ) (F : Fmt A) (a : A) where
  pub test-ok : T ((test ok n value F).good a) → T (ok a)
  unfolding test
  test-ok = both-0 (ok a) (F.good a)

-- what holds of 0 and of every good value holds of a value that may be absent
pub number_if-all : (P : ℕ → Type 0) (b : Bool) (F : Fmt ℕ) → P 0 → ((v : ℕ) → T (F.good v) → P v) → (m : (Marked ℕ)) → T ((number_if b F).good m) → P m.value
unfolding number_if when shaped
number_if-all P true F z f m g = f m.value (both-1 m.there (F.good m.value) g)
number_if-all P false F z f m g = rw (zero_is m.value (both-1 (not m.there) (is_zero m.value) g)) z

-- a good count of references, where it may be absent
few : (b : Bool) (m : (Marked ℕ)) → T ((number_if b active_minus1).good m) → m.value ≤ 31
unfolding active_minus1
few b = number_if-all (λ v. v ≤ 31) b active_minus1 (omega arith) (λ v g. leb→le v 31 (test-ok _ _ _ _ v g))

pub record FewOwn (a : ActiveCounts) : Type 0 where
  pub l0 : a.num_ref_idx_l0_active_minus1.value ≤ 31
  pub l1 : a.num_ref_idx_l1_active_minus1.value ≤ 31

pub counts-few : (k : ℕ) (a : ActiveCounts) → T ((active_counts k).good a) → FewOwn a
unfolding active_counts
counts-few k a g =
    let c = seq-rest _ _ _ (seq-rest _ _ _ (shaped_from _ _ _ _ a g)) in
    record { l0 = few _ a.num_ref_idx_l0_active_minus1 (seq-first _ _ _ c); l1 = few _ a.num_ref_idx_l1_active_minus1 (seq-rest _ _ _ c) }
