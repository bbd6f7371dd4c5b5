-- The words of a list over zeros: zeros follow its entries, and once these are zeroed again there is nothing but zeros.
use Prim.Native.Nat.{ℕ, ◌+◌, ◌-◌, ◌*◌, ◌≤◌}
use mathlib.Core.Path.{◌≡◌, refl, ap, sym, ◌∙◌}
use mathlib.Core.List.{List, ◌++◌}
use native.Mathlib.Omega.{arith}
use native.Mathlib.Nat.{zero-add}
use borrow.Author.Tests.{le-leb}
use lib.Dec.{T}
use lib.ListN.{length, drop, replicate, length-replicate, replicate-append-replicate}
use lib.Seq.{sets, sets-eq, drop_at}
use Rattle.fmt.specs.Arrays.{pad}
use Rattle.fmt.proofs.Arrays.{length-pad}
use Rattle.syntax.specs.declared.record.Operations.{Operations}
use Rattle.syntax.specs.Lists.{of_operations, ok_operations}
use Rattle.syntax.proofs.Operations.{few-operations, length-of-operations}
use Rattle.lists.specs.ListsLent.{operation_words, list_words, at_most66, emptied_list}
use Rattle.lists.proofs.Fronts.{length-flat}

module _ {A : Type 0} (z : A) where
  rest : (k n : ℕ) → k ≤ n → drop k (replicate n z) ≡ replicate (n - k) z
  rest k n h =
      let m : k + (n - k) ≡ n = omega arith in
      ap (λ (l : List A). drop k l) (sym (replicate-append-replicate k (n - k) z ∙ ap (λ (j : ℕ). replicate j z) m))
      ∙ drop_at (replicate k z) (replicate (n - k) z) k (length-replicate k z)

  module _ (n : ℕ) (l : List A) (fits : length l ≤ n) where
    pub over_zeros : sets (replicate n z) 0 l ≡ pad z n l
    unfolding pad
    over_zeros =
        sets-eq l (replicate n z) 0 (omega (arith, length-replicate n z))
        ∙ ap (λ (k : ℕ). l ++ drop k (replicate n z)) (zero-add (length l))
        ∙ ap (λ (r : List A). l ++ r) (rest (length l) n fits)

    -- l has k elements
    pub zeros-again : (k : ℕ) → length l ≡ k → sets (sets (replicate n z) 0 l) 0 (replicate k z) ≡ replicate n z
    unfolding pad
    zeros-again k e =
        let s = length-replicate k z in
        let m : k + (n - length l) ≡ n = omega arith in
        rw over_zeros
        (sets-eq (replicate k z) (pad z n l) 0 (omega (arith, length-pad z n l fits))
        ∙ ap (λ (r : List A). replicate k z ++ r) (drop_at l (replicate (n - length l) z) (0 + length (replicate k z)) (omega arith))
        ∙ replicate-append-replicate k (n - length l) z
        ∙ ap (λ (j : ℕ). replicate j z) m)

-- ---- operations

module _ (o : Operations) (t : T (ok_operations o)) where
  list_length : length (list_words o) ≡ 3 * o.count
  unfolding list_words
  list_length = length-flat operation_words 3 (λ _. refl) (of_operations o) ∙ ap (λ (k : ℕ). 3 * k) (length-of-operations o t)

  list-fits : length (list_words o) ≤ 198
  list-fits = omega (arith, list_length, few-operations o t)

  counted : at_most66 o.count ≡ o.count
  unfolding at_most66
  counted = rw (le-leb o.count 66 (few-operations o t))

  pub list-padded : sets (replicate 198 0) 0 (list_words o) ≡ pad 0 198 (list_words o)
  list-padded = over_zeros 0 198 (list_words o) list-fits

  pub list-emptied : emptied_list o.count (sets (replicate 198 0) 0 (list_words o)) ≡ replicate 198 0
  unfolding emptied_list
  list-emptied = rw counted (zeros-again 0 198 (list_words o) list-fits (3 * o.count) list_length)
