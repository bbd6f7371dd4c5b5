-- Scaling lists by cases: a delta that was read, and what one list more does.
use Prim.Native.Nat.{ℕ, suc, ◌+◌, ◌-◌, ◌<◌}
use mathlib.Core.Path.{◌≡◌, sym, ◌∙◌}
use mathlib.Core.Bool.{true}
use native.Mathlib.Omega.{arith}
use lib.Dec.{ltb}
use lib.IntN.{ℤ, pos, negsuc}
use Rattle.bits.specs.declared.refusals.Refusal.{Refusal}
use Rattle.bits.specs.Refusals.{got, no, bind, pick}
use Rattle.bits.specs.Bits.{Bits}
use Rattle.bits.proofs.Results.{bind-bind}
use Rattle.fmt.specs.Leaves.{flag, se}
use Rattle.fmt.proofs.Lawful.{T_true}
use Rattle.fmt.specs.Reads.{Reads, next, read_if}
use Rattle.table.specs.Sets.{between_z}
use Rattle.fields.proofs.Cases.{test-passed}
use Rattle.parameter_sets.specs.SequenceSet.{within, scaling_list, scaling_lists}

-- a delta that was read
pub delta-in : (s : Bits) (at : ℕ) {d : ℤ} {e : ℕ} → got d e ≡ within (negsuc 127) (pos 127) s at → between_z (negsuc 127) (pos 127) d ≡ true
unfolding within
delta-in s at h = T_true _ (test-passed _ _ _ se s at (sym h))

-- ---- the lists

-- the i-th list, with the flag whether it is there
abbrev pub one_list : ℕ → Reads (Unit {0})
one_list i = next flag.read (λ there. read_if there tt (scaling_list (pick (ltb i 6) 16 64) 8 8))

module _ (s : Bits) (at : ℕ) where
  lists-suc : (n m i : ℕ) → n ≡ suc m → scaling_lists n i s at ≡ bind (one_list i s at) (λ u e. scaling_lists m (suc i) s e)
  unfolding scaling_lists next
  lists-suc n m i h = rw (h, bind-bind)

  module _ (n i : ℕ) (h : i < n) where
    pub lists-no : {r : Refusal} → no r ≡ one_list i s at → no r ≡ scaling_lists (n - i) i s at
    lists-no w = sym (lists-suc (n - i) (n - (i + 1)) i (omega arith) ∙ rw (← w))

    pub lists-more : {e : ℕ} → got tt e ≡ one_list i s at → scaling_lists (n - (i + 1)) (i + 1) s e ≡ scaling_lists (n - i) i s at
    lists-more {e} w =
        let k : i + 1 ≡ suc i = omega arith in
        sym (lists-suc (n - i) (n - (i + 1)) i (omega arith) ∙ rw (← w, k))
