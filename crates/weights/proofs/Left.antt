-- What is left in the words of the weights: the lists of a table that is read, and no more entries than are read where bits are added behind.
use Prim.Native.Nat.{ℕ, ◌≤◌}
use mathlib.Core.Path.{◌≡◌, refl, ap, sym, ◌∙◌}
use mathlib.Core.List.{List, [], ◌++◌, flat_map}
use mathlib.Core.Bool.{Bool, false}
use native.Mathlib.Omega.{arith}
use lib.IntN.{ℤ}
use lib.ListN.{length}
use lib.Seq.{sets}
use Rattle.bits.specs.Refusals.{Res, got, pick}
use Rattle.bits.specs.Bits.{Bits}
use Rattle.bits.proofs.Results.{cases, under}
use Rattle.fmt.specs.Fmt.{shaped, times}
use Rattle.fmt.specs.Leaves.{ue}
use Rattle.fmt.specs.Arrays.{pad}
use Rattle.fmt.proofs.Arrays.{unpad-pad}
use Rattle.fmt.proofs.Leaves.{ue-lawful}
use Rattle.syntax.specs.Absent.{no_table}
use Rattle.syntax.specs.Context.{is_b, has_chroma, is_weighted}
use Rattle.syntax.specs.Marks.{number_if}
use Rattle.syntax.specs.SliceHeader.{weight, no_weight, weight_list, pred_weight_table}
use Rattle.syntax.specs.declared.context.Context.{Context}
use Rattle.syntax.specs.declared.record.Weight.{Weight}
use Rattle.syntax.specs.declared.record.WeightList.{WeightList}
use Rattle.syntax.specs.declared.record.PredWeightTable.{PredWeightTable}
use Rattle.syntax.proofs.Absent.{number_if-lawful}
use Rattle.syntax.proofs.Weights.{weight-lawful, weight_list-lawful}
use Rattle.lists.specs.Begun.{times_begun}
use Rattle.lists.specs.Leaves.{Covered}
use Rattle.lists.proofs.Begun.{after-all, after-few, times-all, times-few}
use Rattle.lists.proofs.Fronts.{length-flat, sets_over}
use Rattle.weights.specs.WeightsLent.{entry_words, weight_words, entries_begun, l0_begun, l1_begun}
use Rattle.weights.proofs.Tables.{table-absent, table-there}

-- ---- a list

-- its words are those of the entries that were read
list-is : (l : List Weight) → weight_words (record { count = length l; entries = pad no_weight 32 l }) ≡ flat_map entry_words l
unfolding weight_words
list-is l = ap (flat_map entry_words) (unpad-pad no_weight 32 l)

module _ (chroma : Bool) (n : ℕ) (s : Bits) (at : ℕ) where
  list_all : (w : WeightList) (e : ℕ) → (weight_list chroma n).read s at ≡ got w e → entries_begun chroma n s at ≡ weight_words w
  unfolding weight_list shaped
  list_all w e h =
      under ((times n (weight chroma)).read s at) _ h (λ l d hl j.
      let v : record { count = length l; entries = pad no_weight 32 l } ≡ w = cc in
      rw (← v, list-is l) (ap (flat_map entry_words) (times-all (weight chroma) s n at l d hl)))

  list-few : (t : Bits) → at ≤ length s → (w : WeightList) (e : ℕ) → (weight_list chroma n).read (s ++ t) at ≡ got w e
      → length (entries_begun chroma n s at) ≤ length (weight_words w)
  unfolding weight_list shaped
  list-few t m w e h =
      under ((times n (weight chroma)).read (s ++ t) at) _ h (λ l d hl j.
      let v : record { count = length l; entries = pad no_weight 32 l } ≡ w = cc in
      rw (← v, list-is l)
      (omega (
        arith,
        length-flat entry_words 8 (λ _. refl) (times_begun n (weight chroma) s at),
        length-flat entry_words 8 (λ _. refl) l,
        times-few (weight chroma) s (weight-lawful chroma) t n at m l d hl,
      )))

-- ---- the table

module _ (x : Context) (k m n : ℕ) (s : Bits) (at : ℕ) where
  abbrev c : Bool
  c = has_chroma x

  abbrev table : Res PredWeightTable
  table = (pred_weight_table x k m n).read s at

  -- a table that is absent has no list
  none-0 : is_weighted x k ≡ false → (t : PredWeightTable) (e : ℕ) → (pred_weight_table x k m n).read s at ≡ got t e → [] ≡ weight_words t.l0
  unfolding weight_words flat_map
  none-0 h t e q = let v : got no_table at ≡ got t e = sym (table-absent x k m n s at h) ∙ q in let w : no_table ≡ t = cc in rw (← w)

  none_1 : is_weighted x k ≡ false → (t : PredWeightTable) (e : ℕ) → (pred_weight_table x k m n).read s at ≡ got t e → [] ≡ weight_words t.l1
  unfolding weight_words flat_map
  none_1 h t e q = let v : got no_table at ≡ got t e = sym (table-absent x k m n s at h) ∙ q in let w : no_table ≡ t = cc in rw (← w)

  -- the lists of a table that is read
  pub l0-all : (t : PredWeightTable) (e : ℕ) → (pred_weight_table x k m n).read s at ≡ got t e → l0_begun x k m s at ≡ weight_words t.l0
  unfolding l0_begun
  l0-all t e q =
      cases (is_weighted x k)
      (λ h.
      rw h
      (after-all ue s at _ _ (weight_words t.l0) (sym (table-there x k m n s at h c refl) ∙ q) (λ v b hv q₁.
      after-all (number_if c ue) s b _ _ (weight_words t.l0) q₁ (λ w d hw q₂.
      under ((weight_list c m).read s d) _ q₂ (λ l f hl q₃.
      under ((weight_list c (pick (is_b k) n 0)).read s f) _ q₃ (λ o g ho q₄.
      let r : l ≡ t.l0 = cc in
      list_all c m s d l f hl ∙ ap weight_words r))))))
      (λ h. rw h (none-0 h t e q))

  pub l1-all : (t : PredWeightTable) (e : ℕ) → (pred_weight_table x k m n).read s at ≡ got t e → l1_begun x k m n s at ≡ weight_words t.l1
  unfolding l1_begun
  l1-all t e q =
      cases (is_weighted x k)
      (λ h.
      rw h
      (after-all ue s at _ _ (weight_words t.l1) (sym (table-there x k m n s at h c refl) ∙ q) (λ v b hv q₁.
      after-all (number_if c ue) s b _ _ (weight_words t.l1) q₁ (λ w d hw q₂.
      after-all (weight_list c m) s d _ _ (weight_words t.l1) q₂ (λ l f hl q₃.
      under ((weight_list c (pick (is_b k) n 0)).read s f) _ q₃ (λ o g ho q₄.
      let r : o ≡ t.l1 = cc in
      list_all c (pick (is_b k) n 0) s f o g ho ∙ ap weight_words r))))))
      (λ h. rw h (none_1 h t e q))

  -- where bits are added behind
  module _ (small : m ≤ 32) (r : Bits) (b : at ≤ length s) (t : PredWeightTable) (e : ℕ) (q : (pred_weight_table x k m n).read (s ++ r) at ≡ got t e) where
    l0-few : length (l0_begun x k m s at) ≤ length (weight_words t.l0)
    unfolding l0_begun
    l0-few =
        cases (is_weighted x k)
        (λ h.
        rw h
        (after-few ue s at _ ue-lawful r b _ _ (sym (table-there x k m n (s ++ r) at h c refl) ∙ q) (λ v d i q₁.
        after-few (number_if c ue) s d _ (number_if-lawful c ue ue-lawful) r i _ _ q₁ (λ w f j q₂.
        under ((weight_list c m).read (s ++ r) f) _ q₂ (λ l g hl q₃.
        under ((weight_list c (pick (is_b k) n 0)).read (s ++ r) g) _ q₃ (λ o p ho q₄.
        let u : l ≡ t.l0 = cc in
        rw (← u) (list-few c m s f r j l g hl)))))))
        (λ h. rw h (omega arith))

    l1-few : length (l1_begun x k m n s at) ≤ length (weight_words t.l1)
    unfolding l1_begun
    l1-few =
        cases (is_weighted x k)
        (λ h.
        rw h
        (after-few ue s at _ ue-lawful r b _ _ (sym (table-there x k m n (s ++ r) at h c refl) ∙ q) (λ v d i q₁.
        after-few (number_if c ue) s d _ (number_if-lawful c ue ue-lawful) r i _ _ q₁ (λ w f j q₂.
        after-few (weight_list c m) s f _ (weight_list-lawful c m small) r j _ _ q₂ (λ l g y q₃.
        under ((weight_list c (pick (is_b k) n 0)).read (s ++ r) g) _ q₃ (λ o p ho q₄.
        let u : o ≡ t.l1 = cc in
        rw (← u) (list-few c (pick (is_b k) n 0) s g r y o p ho)))))))
        (λ h. rw h (omega arith))

  -- a longer input's lists stand over what was left in the words
  module _ (small : m ≤ 32) (before words : List ℤ) where
    pub l0-covered : words ≡ sets before 0 (l0_begun x k m s at) → Covered (λ t. weight_words t.l0) (pred_weight_table x k m n) s at before words
    unfolding Covered
    l0-covered w b r t e q = rw w (sets_over before 0 (l0_begun x k m s at) (weight_words t.l0) (l0-few small r b t e q))

    pub l1-covered : words ≡ sets before 0 (l1_begun x k m n s at) → Covered (λ t. weight_words t.l1) (pred_weight_table x k m n) s at before words
    unfolding Covered
    l1-covered w b r t e q = rw w (sets_over before 0 (l1_begun x k m n s at) (weight_words t.l1) (l1-few small r b t e q))
