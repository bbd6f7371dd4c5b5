-- Entries where they stand in a list's words.
use Prim.Native.Nat.{ℕ, zero, suc, ◌+◌, ◌*◌, ◌≤◌, ◌<◌}
use mathlib.Core.Path.{◌≡◌, sym, ap, subst, ◌∙◌}
use mathlib.Core.List.{List, ◌∷◌}
use mathlib.Core.Bool.{and-true}
use native.Mathlib.Omega.{arith}
use native.Mathlib.Nat.{add-zero, mul-zero, mul-suc}
use native.Mathlib.Numerals.{add-one}
use borrow.Author.Tests.{le-leb}
use lib.Dec.{T}
use lib.IntN.{ℤ}
use lib.ListN.{length, get_or, take, drop}
use lib.Seq.{get_or-drop, drop-drop}
use Rattle.fmt.specs.Arrays.{pad, padded}
use Rattle.fmt.proofs.Lawful.{T_true}
use Rattle.fmt.proofs.Arrays.{unpad-pad, pad-padded}
use Rattle.syntax.specs.Marks.{is_zero}
use Rattle.syntax.specs.Lists.{Operation, ok_operations, of_operations, is_no_operations}
use Rattle.syntax.specs.SliceHeader.{no_weight, is_no_weight}
use Rattle.syntax.specs.declared.record.Operations.{Operations}
use Rattle.syntax.specs.declared.record.WeightList.{WeightList}
use Rattle.syntax.proofs.Operations.{of-to-operations, ok-to-operations, length-of-operations}
use Rattle.weights.specs.Counts.{at_most32}
use Rattle.lists.specs.ListsLent.{at_most66}
use Rattle.record.specs.Entries.{operations_in, operations_from, weight_from, weights_in, weights_from}
use Rattle.record.proofs.Taken.{taken, length_taken, operations-taken, weights-taken}

-- entry i of those of k words each
taken_at : {A B : Type 0} (f : List B → A) (k n i : ℕ) (words : List B) → i < n
    → drop i (taken f k n words) ≡ f (drop (k * i) words) ∷ drop (suc i) (taken f k n words)
taken_at f k zero i words h = absurd (omega arith)
taken_at f k (suc n) zero words h = rw (mul-zero k)
taken_at f k (suc n) (suc i) words h =
    let e : k + k * i ≡ k * suc i = omega (arith, mul-suc k i) in
    taken_at f k n i (drop k words) (omega arith) ∙ rw (drop-drop (k * i) k words, e)

-- ---- operations

-- the entry whose words begin at k
abbrev pub entry_at : List ℕ → ℕ → Operation
entry_at words k = (get_or words k 0, (get_or words (k + 1) 0, get_or words (k + 2) 0))

module _ (n : ℕ) (words : List ℕ) (few : n ≤ 66) where
  abbrev held : Operations
  held = operations_from n words

  at_most : at_most66 n ≡ n
  unfolding at_most66
  at_most = rw (le-leb n 66 few)

  operations-are : of_operations held ≡ taken (λ l. entry_at l 0) 3 n words
  unfolding operations_from
  operations-are = of-to-operations _ ∙ ap (λ (k : ℕ). operations_in k words) at_most ∙ operations-taken n words

  pub operations-many : length (of_operations held) ≡ n
  operations-many = ap length operations-are ∙ length_taken _ 3 n words

  pub operations-ok : T (ok_operations held)
  unfolding operations_from
  operations-ok = ok-to-operations _ (rw (at_most, operations-taken n words, length_taken _ 3 n words) few)

  -- no operation is in words whose count is 0
  pub none-held : is_no_operations held ≡ is_zero n
  none-held =
      let c : held.count ≡ n = sym (length-of-operations held operations-ok) ∙ operations-many in
      rw (T_true (ok_operations held) operations-ok, c) (and-true (is_zero n))

  pub operation-at : (i : ℕ) → i < n → drop i (of_operations held) ≡ entry_at words (3 * i) ∷ drop (i + 1) (of_operations held)
  operation-at i h = rw (operations-are, add-one i) (taken_at _ 3 n i words h ∙ rw (get_or-drop (3 * i) words 0 0, get_or-drop (3 * i) words 1 0, get_or-drop (3 * i) words 2 0, add-zero (3 * i)))

-- ---- weights

module _ (n : ℕ) (words : List ℤ) (few : n ≤ 32) where
  abbrev list : WeightList
  list = weights_from n words

  weights-at-most : at_most32 n ≡ n
  unfolding at_most32
  weights-at-most = rw (le-leb n 32 few)

  length-weights : length (weights_in n words) ≡ n
  length-weights = ap length (weights-taken n words) ∙ length_taken _ 8 n words

  weights-are : take list.count list.entries ≡ weights_in n words
  unfolding weights_from
  weights-are =
      rw weights-at-most
      (ap (λ (k : ℕ). take k (pad no_weight 32 (weights_in n words))) (sym length-weights) ∙ unpad-pad no_weight 32 (weights_in n words))

  pub weights-many : length (take list.count list.entries) ≡ n
  weights-many = ap length weights-are ∙ length-weights

  pub weights-padded : T (padded is_no_weight 32 list.count list.entries)
  unfolding weights_from
  weights-padded =
      rw weights-at-most
      (subst (λ (k : ℕ). T (padded is_no_weight 32 k (pad no_weight 32 (weights_in n words)))) length-weights
      (pad-padded no_weight is_no_weight tt 32 (weights_in n words) (omega (arith, length-weights))))

  pub weight-at : (i : ℕ) → i < n
      → drop i (take list.count list.entries) ≡ weight_from (drop (8 * i) words) ∷ drop (i + 1) (take list.count list.entries)
  weight-at i h = rw (weights-are, weights-taken n words, add-one i) (taken_at weight_from 8 n i words h)
