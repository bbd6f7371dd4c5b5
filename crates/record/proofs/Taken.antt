-- Entries out of words: what a loop over them has taken, entry after entry.
use Prim.Native.Nat.{ℕ, zero, suc, ◌+◌, ◌*◌, ◌<◌}
use mathlib.Core.Path.{◌≡◌, refl, ap, sym, ◌∙◌}
use mathlib.Core.List.{List, [], ◌∷◌, ◌++◌, map}
use native.Mathlib.Omega.{arith}
use native.Mathlib.Nat.{add-zero, mul-zero, mul-suc}
use native.Mathlib.Numerals.{add-one}
use lib.IntN.{ℤ, pos}
use lib.ListN.{length, get_or, drop, set, replicate}
use lib.Seq.{get_or-drop, drop-drop}
use Rattle.fmt.specs.Arrays.{pad}
use Rattle.fmt.proofs.Arrays.{pad-none, pad-next, column-next}
use Rattle.syntax.specs.Lists.{Operation, entries, to_operations}
use Rattle.syntax.specs.SliceHeader.{no_weight}
use Rattle.syntax.specs.declared.record.Operations.{Operations}
use Rattle.syntax.specs.declared.record.Weight.{Weight}
use Rattle.syntax.specs.declared.record.WeightList.{WeightList}
use Rattle.weights.specs.Counts.{at_most32}
use Rattle.lists.specs.ListsLent.{at_most66}
use Rattle.record.specs.Entries.{operations_in, operations_from, is_set_z, weight_from, weights_in, weights_from}

-- ---- entries of k words each

module _ {A B : Type 0} (f : List B → A) (k : ℕ) where
  abbrev pub taken : ℕ → List B → List A
  taken zero words = []
  taken (suc n) words = f words ∷ taken n (drop k words)

  pub length_taken : (n : ℕ) (words : List B) → length (taken n words) ≡ n
  length_taken zero words = refl
  length_taken (suc n) words = ap suc (length_taken n (drop k words))

  taken-suc : (n : ℕ) (words : List B) → taken (suc n) words ≡ taken n words ++ (f (drop (k * n) words) ∷ [])
  taken-suc zero words = rw (mul-zero k)
  taken-suc (suc n) words =
      let e : k + k * n ≡ k * suc n = omega (arith, mul-suc k n) in
      ap (λ (l : List A). f words ∷ l) (taken-suc n (drop k words) ∙ rw (drop-drop (k * n) k words, e))

  -- one entry more
  pub taken_next : (n : ℕ) (words : List B) → taken (n + 1) words ≡ taken n words ++ (f (drop (k * n) words) ∷ [])
  taken_next n words = ap (λ (m : ℕ). taken m words) (add-one n) ∙ taken-suc n words

-- ---- a list's entries

abbrev pub operation_from : List ℕ → Operation
operation_from words = (get_or words 0 0, (get_or words 1 0, get_or words 2 0))

pub operations-taken : (n : ℕ) (words : List ℕ) → operations_in n words ≡ taken operation_from 3 n words
unfolding operations_in
operations-taken zero words = refl
operations-taken (suc n) words = ap (λ (l : List Operation). operation_from words ∷ l) (operations-taken n (drop 3 words))

module _ (words : List ℕ) where
  -- the arrays hold i entries
  abbrev column : (Operation → ℕ) → ℕ → List ℕ
  column f i = pad 0 entries (map f (taken operation_from 3 i words))

  pub record Loaded (codes first second : List ℕ) (i : ℕ) : Type 0 where
    codes-are : codes ≡ column (λ (o : Operation). o.0) i
    first-are : first ≡ column (λ (o : Operation). o.1.0) i
    second-are : second ≡ column (λ (o : Operation). o.1.1) i

  pub none-loaded : Loaded (replicate 66 0) (replicate 66 0) (replicate 66 0) 0
  none-loaded = let e = sym (pad-none {A = ℕ} 0 66) in record { codes-are = e; first-are = e; second-are = e }

  column-more : (f : Operation → ℕ) (xs : List ℕ) (i : ℕ) {v : ℕ} → i < 66 → v ≡ f (operation_from (drop (3 * i) words)) → xs ≡ column f i → set xs i v ≡ column f (i + 1)
  column-more f xs i h e g =
      let k = length_taken operation_from 3 i words in
      let o = operation_from (drop (3 * i) words) in
      rw (e, g)
      (ap (λ (j : ℕ). set (column f i) j (f o)) (sym k)
      ∙ column-next 0 entries f (taken operation_from 3 i words) o (omega arith)
      ∙ ap (λ (l : List Operation). pad 0 entries (map f l)) (sym (taken_next operation_from 3 i words)))

  pub one-loaded : {codes first second : List ℕ} {i : ℕ} → Loaded codes first second i → i < 66
      → Loaded (set codes i (get_or words (3 * i) 0)) (set first i (get_or words (3 * i + 1) 0)) (set second i (get_or words (3 * i + 2) 0)) (i + 1)
  one-loaded {codes} {first} {second} {i} l h =
      record {
        codes-are = column-more (λ (o : Operation). o.0) codes i h (rw (get_or-drop (3 * i) words 0 0, add-zero (3 * i))) l.codes-are;
        first-are = column-more (λ (o : Operation). o.1.0) first i h (sym (get_or-drop (3 * i) words 1 0)) l.first-are;
        second-are = column-more (λ (o : Operation). o.1.1) second i h (sym (get_or-drop (3 * i) words 2 0)) l.second-are;
      }

  pub all-loaded : {codes first second : List ℕ} {i used : ℕ} (count : ℕ) → Loaded codes first second i → i ≡ used → used ≡ at_most66 count
      → ◌≡◌ {A = Operations} (record { count = used; codes = codes; first = first; second = second }) (operations_from count words)
  unfolding operations_from to_operations
  all-loaded {i = i} count l d e =
      rw (← e, ← d, operations-taken i words, length_taken operation_from 3 i words, l.codes-are, l.first-are, l.second-are)

-- ---- weights

pub weights-taken : (n : ℕ) (words : List ℤ) → weights_in n words ≡ taken weight_from 8 n words
unfolding weights_in
weights-taken zero words = refl
weights-taken (suc n) words = ap (λ (l : List Weight). weight_from words ∷ l) (weights-taken n (drop 8 words))

-- entry i
pub weight-there : (words : List ℤ) (i : ℕ)
    → weight_from (drop (8 * i) words)
    ≡ record {
      luma_weight_flag = is_set_z (get_or words (8 * i) (pos 0));
      luma_weight = get_or words (8 * i + 1) (pos 0);
      luma_offset = get_or words (8 * i + 2) (pos 0);
      chroma_weight_flag = is_set_z (get_or words (8 * i + 3) (pos 0));
      cb_weight = get_or words (8 * i + 4) (pos 0);
      cb_offset = get_or words (8 * i + 5) (pos 0);
      cr_weight = get_or words (8 * i + 6) (pos 0);
      cr_offset = get_or words (8 * i + 7) (pos 0);
    }
unfolding weight_from
weight-there words i = simp (get_or-drop, add-zero)

module _ (words : List ℤ) where
  -- the array holds i entries
  abbrev pub Held : List Weight → ℕ → Type 0
  Held xs i = xs ≡ pad no_weight 32 (taken weight_from 8 i words)

  pub none-held : Held (replicate 32 no_weight) 0
  none-held = sym (pad-none no_weight 32)

  pub one-held : {xs : List Weight} {i : ℕ} → Held xs i → i < 32 → Held (set xs i (weight_from (drop (8 * i) words))) (i + 1)
  one-held {xs} {i} h m =
      let k = length_taken weight_from 8 i words in
      let w = weight_from (drop (8 * i) words) in
      rw h
      (ap (λ (j : ℕ). set (pad no_weight 32 (taken weight_from 8 i words)) j w) (sym k)
      ∙ pad-next no_weight 32 (taken weight_from 8 i words) w (omega arith)
      ∙ ap (pad no_weight 32) (sym (taken_next weight_from 8 i words)))

  pub all_held : {xs : List Weight} {i used : ℕ} (count : ℕ) → Held xs i → i ≡ used → used ≡ at_most32 count → ◌≡◌ {A = WeightList} (record { count = used; entries = xs }) (weights_from count words)
  unfolding weights_from
  all_held {i = i} count h d e = rw (← e, ← d, weights-taken i words, h)
