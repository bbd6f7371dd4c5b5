-- An answer beside its words, taken apart: the part that was read, or the refusal.
use Prim.Native.Nat.{ℕ}
use native.Mathlib.Omega.{arith}
use mathlib.Core.Path.{◌≡◌, refl, sym, ap, subst, ◌∙◌}
use mathlib.Core.List.{List, ◌++◌}
use lib.IntN.{ℤ}
use lib.Seq.{sets}
use Rattle.bits.specs.declared.refusals.Refusal.{Refusal}
use Rattle.bits.specs.declared.read.Cursor.{Cursor}
use Rattle.bits.specs.Refusals.{Res, got, no}
use Rattle.bits.specs.Bits.{Bits}
use Rattle.syntax.specs.declared.context.Context.{Context}
use Rattle.syntax.specs.SliceHeader.{pred_weight_table}
use Rattle.syntax.specs.declared.record.ActiveCounts.{ActiveCounts}
use Rattle.syntax.specs.declared.record.PredWeightTable.{PredWeightTable}
use Rattle.syntax.specs.declared.record.Modifications.{Modifications}
use Rattle.syntax.specs.declared.record.DecRefPicMarking.{DecRefPicMarking}
use Rattle.syntax.specs.declared.record.SliceHeader.{SliceHeader}
use Rattle.lists.specs.ListsLent.{list_words}
use Rattle.weights.specs.WeightsLent.{weights_step, l0_begun, l1_begun, weight_words, weights_short}
use Rattle.weights.proofs.Left.{l0-all, l1-all}
use Rattle.header.specs.Short.{lists_of, marks_of, order_signed, quantiser_numbers, quantiser_signed, filter_numbers, filter_signed, HeaderWords, emptied, header_in, zeros, header_end, header_left}
use Rattle.header.specs.Told.{front_numbers, FrontTold, BackTold, ListsTold, MarksTold, Filled}
use Rattle.header.specs.Stages.{FrontParts, BackParts}
use Rattle.weights.specs.declared.weight_words.WeightsShort.{WeightsShort}
use Rattle.header.specs.declared.slice.Lists.{Lists}
use Rattle.header.specs.declared.slice.Marks.{Marks}
use Rattle.std.specs.Prelude.{Result, Ok, Err}
use Rattle.bits.specs.Answers.{Read}
use Rattle.bits.proofs.Unique.{one-answer}

-- what was read up to the place e, and what holds of it
pub record ReadTo {A : Type 0} (m : Res A) (e : ℕ) (P : A → Type 0) : Type 0 where
  pub value : A
  pub read : m ≡ got value e
  pub holds : P value

-- ---- the parts without lists

pub front-got : (m : Res FrontParts) {a : Read ActiveCounts} (n : List ℕ) (z : List ℤ) (o : List ℕ) (y : List ℤ) {v : ActiveCounts} {c : Cursor} → FrontTold m a n z o y → a ≡ Ok (v, c)
    → ReadTo m c.at (λ f. (v ≡ f.active_counts) × ((o ≡ sets n 4 (front_numbers f)) × (y ≡ sets z 0 (order_signed f.order_count))))
unfolding FrontTold
front-got (got f e) n z o y h g = let q = one-answer (sym h.0 ∙ g) in record { value = f; read = ap (λ (x : Cursor). got f x.at) q.1; holds = (sym q.0, h.1) }
front-got (no r) n z o y h g = let z : ◌≡◌ {A = ℕ} 0 1 = cc in absurd (omega arith)

pub front-refused : (m : Res FrontParts) {a : Read ActiveCounts} (n : List ℕ) (z : List ℤ) (o : List ℕ) (y : List ℤ) {r : Refusal} → FrontTold m a n z o y → a ≡ Err r → m ≡ no r
unfolding FrontTold
front-refused (got f e) n z o y h g = let h₀ = h.0 in let z : ◌≡◌ {A = ℕ} 0 1 = cc in absurd (omega arith)
front-refused (no r) n z o y h g = cc

pub back-got : (m : Res BackParts) {a : Result Cursor Refusal} (n : List ℕ) (z : List ℤ) (o : List ℕ) (y : List ℤ) {c : Cursor} → BackTold m a n z o y → a ≡ Ok c
    → ReadTo m c.at (λ b. (o ≡ sets n 46 (quantiser_numbers b.quantiser ++ filter_numbers b.filter)) × (y ≡ sets z 3 (quantiser_signed b.quantiser ++ filter_signed b.filter)))
unfolding BackTold
back-got (got b e) n z o y {c = c} h g = let h₀ = h.0 in let p : e ≡ c.at = cc in record { value = b; read = cc; holds = h.1 }
back-got (no r) n z o y h g = let z : ◌≡◌ {A = ℕ} 0 1 = cc in absurd (omega arith)

pub back-refused : (m : Res BackParts) {a : Result Cursor Refusal} (n : List ℕ) (z : List ℤ) (o : List ℕ) (y : List ℤ) {r : Refusal} → BackTold m a n z o y → a ≡ Err r → m ≡ no r
unfolding BackTold
back-refused (got b e) n z o y h g = let h₀ = h.0 in let z : ◌≡◌ {A = ℕ} 0 1 = cc in absurd (omega arith)
back-refused (no r) n z o y h g = cc

-- ---- the weights

pub weights-got : (x : Context) (k i j : ℕ) (s : Bits) (at : ℕ) (b0 b1 : List ℤ) {a : Read WeightsShort} {w0 w1 : List ℤ} {n : WeightsShort} {c : Cursor}
    → a ≡ weights_step ((pred_weight_table x k i j).read s at) → w0 ≡ sets b0 0 (l0_begun x k i s at) → w1 ≡ sets b1 0 (l1_begun x k i j s at) → a ≡ Ok (n, c)
    → ReadTo ((pred_weight_table x k i j).read s at) c.at (λ t. (n ≡ weights_short t) × ((w0 ≡ sets b0 0 (weight_words t.l0)) × (w1 ≡ sets b1 0 (weight_words t.l1))))
weights-got x k i j s at b0 b1 {a} {w0} {w1} {n} {c} h k0 k1 g = go ((pred_weight_table x k i j).read s at) refl
  where
    go : (m : Res PredWeightTable) → (pred_weight_table x k i j).read s at ≡ m
        → ReadTo ((pred_weight_table x k i j).read s at) c.at (λ t. (n ≡ weights_short t) × ((w0 ≡ sets b0 0 (weight_words t.l0)) × (w1 ≡ sets b1 0 (weight_words t.l1))))
    go (got t e) q =
        let z : Ok (n, c) ≡ Ok ((weights_short t), record { at = e }) = sym g ∙ h ∙ ap weights_step q in
        let p = one-answer z in
        record { value = t; read = q ∙ ap (λ (x : Cursor). got t x.at) (sym p.1); holds = (p.0, (k0 ∙ ap (sets b0 0) (l0-all x k i j s at t e q), k1 ∙ ap (sets b1 0) (l1-all x k i j s at t e q))) }
    go (no r) q = let y : Ok (n, c) ≡ Err r = sym g ∙ h ∙ ap weights_step q in let z : ◌≡◌ {A = ℕ} 0 1 = cc in absurd (omega arith)

pub weights-refused : (m : Res PredWeightTable) {a : Read WeightsShort} {r : Refusal} → a ≡ weights_step m → a ≡ Err r → m ≡ no r
weights-refused (got t e) h g = let z : ◌≡◌ {A = ℕ} 0 1 = cc in absurd (omega arith)
weights-refused (no r) h g = cc

-- ---- both lists

pub lists-got : (m : Res Modifications) {a : Read Lists} (b0 b1 l0 l1 : List ℕ) {n : Lists} {c : Cursor} → ListsTold m a b0 b1 l0 l1 → a ≡ Ok (n, c)
    → ReadTo m c.at (λ o. (n ≡ lists_of o) × ((l0 ≡ sets b0 0 (list_words o.l0.operations)) × (l1 ≡ sets b1 0 (list_words o.l1.operations))))
unfolding ListsTold
lists-got (got o e) b0 b1 l0 l1 h g = let q = one-answer (sym h.0 ∙ g) in record { value = o; read = ap (λ (x : Cursor). got o x.at) q.1; holds = (sym q.0, h.1) }
lists-got (no r) b0 b1 l0 l1 h g = let z : ◌≡◌ {A = ℕ} 0 1 = cc in absurd (omega arith)

pub lists-refused : (m : Res Modifications) {a : Read Lists} (b0 b1 l0 l1 : List ℕ) {r : Refusal} → ListsTold m a b0 b1 l0 l1 → a ≡ Err r → m ≡ no r
unfolding ListsTold
lists-refused (got o e) b0 b1 l0 l1 h g = let h₀ = h.0 in let z : ◌≡◌ {A = ℕ} 0 1 = cc in absurd (omega arith)
lists-refused (no r) b0 b1 l0 l1 h g = cc

pub told-lists-no : {m : Res Modifications} {a : Read Lists} (b0 b1 l0 l1 : List ℕ) {r : Refusal} → m ≡ no r → a ≡ Err r → ListsTold m a b0 b1 l0 l1
unfolding ListsTold
told-lists-no b0 b1 l0 l1 h g = rw h g

pub told-lists : {m : Res Modifications} {a : Read Lists} (b0 b1 : List ℕ) {l0 l1 : List ℕ} {o : Modifications} {e : ℕ} → m ≡ got o e → a ≡ Ok ((lists_of o), record { at = e })
    → l0 ≡ sets b0 0 (list_words o.l0.operations) → l1 ≡ sets b1 0 (list_words o.l1.operations) → ListsTold m a b0 b1 l0 l1
unfolding ListsTold
told-lists b0 b1 h g k0 k1 = rw h (g, (k0, k1))

-- ---- the marking

pub marks-got : (m : Res DecRefPicMarking) {a : Read Marks} (b w : List ℕ) {n : Marks} {c : Cursor} → MarksTold m a b w → a ≡ Ok (n, c)
    → ReadTo m c.at (λ d. (n ≡ marks_of d) × (w ≡ sets b 0 (list_words d.operations)))
unfolding MarksTold
marks-got (got d e) b w h g = let q = one-answer (sym h.0 ∙ g) in record { value = d; read = ap (λ (x : Cursor). got d x.at) q.1; holds = (sym q.0, h.1) }
marks-got (no r) b w h g = let z : ◌≡◌ {A = ℕ} 0 1 = cc in absurd (omega arith)

pub marks-refused : (m : Res DecRefPicMarking) {a : Read Marks} (b w : List ℕ) {r : Refusal} → MarksTold m a b w → a ≡ Err r → m ≡ no r
unfolding MarksTold
marks-refused (got d e) b w h g = let h₀ = h.0 in let z : ◌≡◌ {A = ℕ} 0 1 = cc in absurd (omega arith)
marks-refused (no r) b w h g = cc

pub told-marks-no : {m : Res DecRefPicMarking} {a : Read Marks} (b w : List ℕ) {r : Refusal} → m ≡ no r → a ≡ Err r → MarksTold m a b w
unfolding MarksTold
told-marks-no b w h g = rw h g

pub told-marks : {m : Res DecRefPicMarking} {a : Read Marks} (b : List ℕ) {w : List ℕ} {d : DecRefPicMarking} {e : ℕ} → m ≡ got d e → a ≡ Ok ((marks_of d), record { at = e })
    → w ≡ sets b 0 (list_words d.operations) → MarksTold m a b w
unfolding MarksTold
told-marks b h g k = rw h (g, k)

-- ---- the header

pub filled-no : (b w : HeaderWords) {m : Res SliceHeader} {a : Result Cursor Refusal} {r : Refusal} → m ≡ no r → a ≡ Err r → Filled m a b w
unfolding Filled
filled-no b w h g = rw h g

pub filled-got : (b : HeaderWords) {w : HeaderWords} {m : Res SliceHeader} {h : SliceHeader} {e : ℕ} → m ≡ got h e → w ≡ header_in h b → Filled m (Ok (record { at = e })) b w
unfolding Filled
filled-got b h k = rw h (refl, k)

pub filled-as : (a : Result Cursor Refusal) (b w : HeaderWords) {m n : Res SliceHeader} → m ≡ n → Filled n a b w → Filled m a b w
filled-as a b w e f = subst (λ (r : Res SliceHeader). Filled r a b w) (sym e) f

-- over words that differ only in what a header writes over
pub filled-over : (a : Result Cursor Refusal) (b v w : HeaderWords) → ((h : SliceHeader) → header_in h v ≡ header_in h b) → (m : Res SliceHeader) → Filled m a v w → Filled m a b w
unfolding Filled
filled-over a b v w k (got h e) f = (f.0, f.1 ∙ k h)
filled-over a b v w k (no r) f = f

-- what the public function says: the words, which were b, were emptied first
pub left-got : (m : Res SliceHeader) (b v w : HeaderWords) {a : Result Cursor Refusal} {c : Cursor} → v ≡ emptied b → Filled m a v w → a ≡ Ok c → (a ≡ header_end m) × (w ≡ header_left m b)
unfolding Filled header_end header_left
left-got (got h e) b v w k f g = (f.0, f.1 ∙ ap (header_in h) k)
left-got (no r) b v w k f g = let z : ◌≡◌ {A = ℕ} 0 1 = cc in absurd (omega arith)

-- and cleared after a refusal
pub left-no : (m : Res SliceHeader) (b v w x : HeaderWords) {a : Result Cursor Refusal} {r : Refusal} → Filled m a v w → a ≡ Err r → x ≡ zeros → (a ≡ header_end m) × (x ≡ header_left m b)
unfolding Filled header_end header_left
left-no (got h e) b v w x f g z = let f₀ = f.0 in let z : ◌≡◌ {A = ℕ} 0 1 = cc in absurd (omega arith)
left-no (no r) b v w x f g z = (f, z)
