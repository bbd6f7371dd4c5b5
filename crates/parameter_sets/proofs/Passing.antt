-- Reading alone: what passed its test, and codes that are passed over.
use Prim.Native.Nat.{ℕ, zero, suc, ◌≤◌}
use mathlib.Core.Path.{◌≡◌, refl, ap}
use lib.Dec.{leb}
use borrow.Author.Tests.{leb-true}
use Rattle.bits.specs.Refusals.{Res, got, bind}
use Rattle.bits.specs.Bits.{Bits}
use Rattle.bits.proofs.Results.{bind-bind}
use Rattle.fmt.specs.Leaves.{ue, se}
use Rattle.fmt.specs.Reads.{next, passes}
use Rattle.fmt.proofs.Lawful.{T_true}
use Rattle.fields.proofs.Cases.{test-passed}
use Rattle.parameter_sets.specs.SequenceSet.{up_to}

-- ---- what passed its test

pub up-passed : (n : ℕ) (s : Bits) (at : ℕ) {v e : ℕ} → up_to n s at ≡ got v e → v ≤ n
unfolding up_to
up-passed n s at {v} h = leb-true v n (T_true (leb v n) (test-passed _ _ _ ue s at h))

-- ---- passed over

-- a signed code has the bits of an unsigned one
pub passed-signed : (n : ℕ) (s : Bits) (at : ℕ) → passes n ue.read s at ≡ passes n se.read s at
unfolding passes next ue se
passed-signed zero s at = refl
passed-signed (suc n) s at = rw bind-bind (ap (λ (k : ℕ → ℕ → Res (Unit {0})). bind (ue.read s at) k) (λ i v e. passed-signed n s e i))
