-- The loop that zeroes the entries in use.
use Prim.Native.Nat.{ℕ, ◌+◌, ◌≤◌}
use mathlib.Core.Path.{◌≡◌, refl, ◌∙◌}
use mathlib.Core.List.{List}
use borrow.Author.Tests.{leb-true}
use Rattle.bits.proofs.Results.{cases}
use native.Mathlib.Omega.{arith}
use lib.Dec.{leb}
use lib.ListN.{set, replicate}
use lib.Seq.{sets}
use Rattle.lists.specs.ListsLent.{at_most66}
use Rattle.lists.proofs.Fronts.{same_next}

pub at-most-66 : (n : ℕ) → at_most66 n ≤ 66
unfolding at_most66
at-most-66 n = cases (leb n 66) (λ t. rw t (leb-true n 66 t)) (λ t. rw t (omega arith))

-- k of the words have been set to a, and `end` of them are to be
module _ {A : Type 0} (a : A) (most : ℕ) (before : List A) (end : ℕ) where
  pub record Emptying (words : List A) (k : ℕ) : Type 0 where
    pub holds : words ≡ sets before 0 (replicate k a)
    pub room : end ≤ most

  pub emptying-none : end ≤ most → Emptying before 0
  emptying-none h = record { holds = refl; room = h }

  module _ {words : List A} {k : ℕ} (e : Emptying words k) where
    pub emptying-more : Emptying (set words k a) (k + 1)
    emptying-more = record { holds = rw e.holds (same_next before k a); room = e.room }

    pub emptied : k ≡ end → words ≡ sets before 0 (replicate end a)
    emptied q = e.holds ∙ rw q
