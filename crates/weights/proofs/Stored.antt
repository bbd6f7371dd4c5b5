-- The loop that stores a list's entries in words, and the table's answer and words, by cases.
use Prim.Native.Nat.{ℕ, ◌+◌, ◌-◌, ◌*◌, ◌≤◌, ◌<◌}
use mathlib.Core.Path.{◌≡◌, refl, ap, sym, ◌∙◌}
use mathlib.Core.List.{List, [], ◌∷◌, ◌++◌, flat_map, append-nil, append_assoc}
use mathlib.Core.Bool.{Bool, true, false}
use native.Mathlib.Omega.{arith}
use lib.IntN.{ℤ}
use lib.ListN.{length, length-append}
use lib.Seq.{sets}
use Rattle.bits.specs.declared.refusals.Refusal.{Refusal}
use Rattle.bits.specs.declared.read.Cursor.{Cursor}
use Rattle.bits.specs.Refusals.{Res, got, no, pick}
use Rattle.bits.specs.Bits.{Bits}
use Rattle.fmt.specs.Fmt.{shaped}
use Rattle.fmt.specs.Leaves.{ue}
use Rattle.fmt.proofs.Loops.{Counted, none-counted, one-counted, all-counted, element-refused}
use Rattle.syntax.specs.Context.{is_b, has_chroma, is_weighted}
use Rattle.syntax.specs.Marks.{number_if}
use Rattle.syntax.specs.SliceHeader.{weight, weight_list, pred_weight_table}
use Rattle.syntax.specs.declared.context.Context.{Context}
use Rattle.syntax.specs.declared.record.Weight.{Weight}
use Rattle.syntax.specs.declared.record.WeightList.{WeightList}
use Rattle.lists.specs.Begun.{times_begun}
use Rattle.lists.proofs.Begun.{times-refused, times-next}
use Rattle.lists.proofs.Fronts.{front-next}
use Rattle.weights.specs.WeightsLent.{entry_words, weights_step, list_step, entries_begun, l0_begun, l1_begun}
use Rattle.weights.proofs.Tables.{present, table-absent, table-there}
use Rattle.std.specs.Prelude.{Ok, Err}
use Rattle.bits.specs.Answers.{Read}
use Rattle.bits.proofs.Unique.{one-answer}
use Rattle.syntax.specs.declared.marks.Marked.{Marked}
use Rattle.weights.specs.declared.weight_words.WeightsShort.{WeightsShort}

-- ---- the loop

module _ (chroma : Bool) (n : ℕ) (s : Bits) (from : ℕ) (before : List ℤ) where
  -- i entries have been read and are written over the words' front, and the next is at `at`
  pub record Stored (words : List ℤ) (i at : ℕ) : Type 0 where
    pub room : n ≤ 32
    pub list : List Weight
    pub many : length list ≡ i
    pub along : Counted (weight chroma) n s from list at
    pub begun : times_begun n (weight chroma) s from ≡ list ++ times_begun (n - i) (weight chroma) s at
    pub front : words ≡ sets before 0 (flat_map entry_words list)

  pub stored-none : n ≤ 32 → Stored before 0 from
  unfolding flat_map
  stored-none h =
      record { room = h; list = []; many = refl; along = none-counted (weight chroma) n s from; begun = ap (λ (k : ℕ). times_begun k (weight chroma) s from) (omega arith); front = refl }

  -- the loop's answer, and what it leaves in the words
  abbrev Told : Read ℕ → List ℤ → Type 0
  Told r words = (r ≡ list_step ((weight_list chroma n).read s from)) × (words ≡ sets before 0 (entries_begun chroma n s from))

  module _ {words : List ℤ} {i at : ℕ} (f : Stored words i at) where
    -- no entry follows those in the words
    all : times_begun (n - i) (weight chroma) s at ≡ [] → words ≡ sets before 0 (entries_begun chroma n s from)
    all e = f.front ∙ ap (λ (l : List Weight). sets before 0 (flat_map entry_words l)) (sym (f.begun ∙ ap (λ (l : List Weight). f.list ++ l) e ∙ append-nil f.list))

    pub stored_refused : i < n → {r : Refusal} → (weight chroma).read s at ≡ no r → Told (Err r) words
    unfolding weight_list shaped
    stored_refused h {r} u =
        (rw (element-refused (weight chroma) n s from f.along (omega (arith, f.many)) r u), all (times-refused (weight chroma) s (n - i) at u))

    pub stored-all : n ≤ i → Told (Ok (n, record { at = at })) words
    unfolding weight_list shaped times_begun
    stored-all h =
        let e : length f.list ≡ n = omega (arith, f.many, f.along.few) in
        let z : n - i ≡ 0 = omega arith in
        (rw (all-counted (weight chroma) n s from f.along (omega (arith, f.many)), e), all (rw z))

    pub stored_more : i < n → {w : Weight} {e : ℕ} {v : List ℤ} → (weight chroma).read s at ≡ got w e → v ≡ sets words (8 * i) (entry_words w) → Stored v (i + 1) e
    stored_more h {w} {e} {v} u k =
        record {
          room = f.room;
          list = f.list ++ (w ∷ []);
          many = omega (arith, f.many, length-append f.list (w ∷ []));
          along = one-counted (weight chroma) n s from f.along (omega (arith, f.many)) w e u;
          begun =
              f.begun
              ∙ ap (λ (l : List Weight). f.list ++ l) (times-next (weight chroma) s (n - i) (n - (i + 1)) at (omega arith) u)
              ∙ sym (append_assoc f.list (w ∷ []) (times_begun (n - (i + 1)) (weight chroma) s e));
          front = k ∙ rw (f.front, ← f.many) (front-next entry_words 8 (λ w. refl) before f.list w);
        }

-- ---- a list as a call left it

pub record Listed (m : Res WeightList) (k at : ℕ) : Type 0 where
  pub list : WeightList
  pub read : m ≡ got list at
  pub many : list.count ≡ k

pub list-taken : {m : Res WeightList} {a : Read ℕ} {k : ℕ} {c : Cursor} → a ≡ list_step m → a ≡ Ok (k, c) → Listed m k c.at
list-taken {m = got l e} p q =
    let g = one-answer (sym p ∙ q) in
    record { list = l; read = ap (λ (x : Cursor). got l x.at) g.1; many = g.0 }
list-taken {m = no r} p q = let z : ◌≡◌ {A = ℕ} 0 1 = cc in absurd (omega arith)

pub list-none : {m : Res WeightList} {a : Read ℕ} {r : Refusal} → a ≡ list_step m → a ≡ Err r → m ≡ no r
list-none {m = got l e} p q = cc
list-none {m = no r} p q = cc

-- ---- the table's answer and words, by what each of its parts gives

module _ (x : Context) (k m n : ℕ) (s : Bits) (at : ℕ) (b0 b1 : List ℤ) where
  -- an answer, beside the words after it
  abbrev Answer : Read WeightsShort → List ℤ → List ℤ → Type 0
  Answer a v0 v1 = (a ≡ weights_step ((pred_weight_table x k m n).read s at)) × ((v0 ≡ sets b0 0 (l0_begun x k m s at)) × (v1 ≡ sets b1 0 (l1_begun x k m n s at)))

  -- a table that is absent
  pub none : is_weighted x k ≡ false
      → Answer
      (Ok (record { there = false; luma_log2_weight_denom = 0; chroma_log2_weight_denom = record { there = false; value = 0 }; l0 = 0; l1 = 0 }, record { at = at }))
      b0
      b1
  unfolding l0_begun l1_begun
  none h = (rw (table-absent x k m n s at h), (rw h, rw h))

  -- one that is there
  module _ (h : is_weighted x k ≡ true) (chroma : Bool) (g : chroma ≡ has_chroma x) where
    abbrev there : (pred_weight_table x k m n).read s at ≡ present x k m n s at chroma
    there = table-there x k m n s at h chroma g

    pub there-1 : {r : Refusal} → ue.read s at ≡ no r → Answer (Err r) b0 b1
    unfolding l0_begun l1_begun
    there-1 e = (rw (there, e), (rw (h, e), rw (h, e)))

    module _ {v c : ℕ} (e1 : ue.read s at ≡ got v c) where
      pub there-2 : {r : Refusal} → (number_if chroma ue).read s c ≡ no r → Answer (Err r) b0 b1
      unfolding l0_begun l1_begun
      there-2 e = (rw (there, e1, e), (rw (h, ← g, e1, e), rw (h, ← g, e1, e)))

      module _ {w : (Marked ℕ)} {d : ℕ} (e2 : (number_if chroma ue).read s c ≡ got w d) {v0 : List ℤ} (h0 : v0 ≡ sets b0 0 (entries_begun chroma m s d)) where
        l0-is : v0 ≡ sets b0 0 (l0_begun x k m s at)
        unfolding l0_begun
        l0-is = rw (h, ← g, e1, e2) h0

        pub there-3 : {r : Refusal} → (weight_list chroma m).read s d ≡ no r → Answer (Err r) v0 b1
        unfolding l1_begun
        there-3 e = (rw (there, e1, e2, e), (l0-is, rw (h, ← g, e1, e2, e)))

        module _ {k0 f : ℕ} (l : Listed ((weight_list chroma m).read s d) k0 f) {v1 : List ℤ} (h1 : v1 ≡ sets b1 0 (entries_begun chroma (pick (is_b k) n 0) s f)) where
          l1-is : v1 ≡ sets b1 0 (l1_begun x k m n s at)
          unfolding l1_begun
          l1-is = rw (h, ← g, e1, e2, l.read) h1

          pub there-4 : {r : Refusal} → (weight_list chroma (pick (is_b k) n 0)).read s f ≡ no r → Answer (Err r) v0 v1
          there-4 e = (rw (there, e1, e2, l.read, e), (l0-is, l1-is))

          pub there-all : {k1 j : ℕ} → Listed ((weight_list chroma (pick (is_b k) n 0)).read s f) k1 j
              → Answer
              (Ok (record { there = true; luma_log2_weight_denom = v; chroma_log2_weight_denom = w; l0 = k0; l1 = k1 }, record { at = j }))
              v0
              v1
          there-all o = (rw (there, e1, e2, l.read, o.read, ← l.many, ← o.many), (l0-is, l1-is))
