-- Reading the header by its parts: the part that refuses it, nothing that follows it, or its record.
use Prim.Native.Nat.{ℕ, ◌+◌, ◌≤◌}
use native.Mathlib.Omega.{arith}
use mathlib.Core.Path.{◌≡◌, refl, ap, ◌∙◌}
use mathlib.Core.Bool.{true, false}
use mathlib.Core.List.{List, [], ◌∷◌, ◌++◌, append-nil}
use lib.IntN.{ℤ, pos}
use lib.ListN.{length, take, drop, drop_of_length-le}
use lib.Seq.{sets, sets-eq, take_at}
use Rattle.bits.specs.declared.refusals.Refusal.{Refusal}
use Rattle.bits.specs.Refusals.{Res, got, no, bind, refusal_at}
use Rattle.bits.specs.Bits.{Bits}
use Rattle.bits.proofs.Results.{bind-bind}
use Rattle.fmt.specs.Fmt.{seq, shaped}
use Rattle.table.specs.declared.table.Table.{Table}
use Rattle.syntax.specs.declared.context.UnitKind.{UnitKind}
use Rattle.syntax.specs.declared.record.Frame.{Frame}
use Rattle.syntax.specs.declared.record.OrderCount.{OrderCount}
use Rattle.syntax.specs.declared.record.ActiveCounts.{ActiveCounts}
use Rattle.syntax.specs.declared.record.Quantiser.{Quantiser}
use Rattle.syntax.specs.declared.record.Filter.{Filter}
use Rattle.syntax.specs.declared.record.Modifications.{Modifications}
use Rattle.syntax.specs.declared.record.PredWeightTable.{PredWeightTable}
use Rattle.syntax.specs.declared.record.DecRefPicMarking.{DecRefPicMarking}
use Rattle.syntax.specs.declared.record.SliceHeader.{SliceHeader}
use Rattle.syntax.specs.Context.{context_for, sequence_id_for}
use Rattle.syntax.specs.SliceHeader.{lead, header, modifications, pred_weight_table, dec_ref_pic_marking, read_header, active_l0, active_l1, any_set}
use Rattle.weights.specs.Counts.{at_most32}
use Rattle.header.specs.declared.lead.Led.{Led}
use Rattle.header.specs.Lead.{led_of}
use Rattle.header.specs.Stages.{FrontParts, BackParts, context_of, header_of, front_at, back_at}
use Rattle.weights.specs.WeightsLent.{weights_short, weight_words}
use Rattle.lists.specs.ListsLent.{list_words}
use Rattle.header.specs.Short.{lists_of, marks_of, frame_numbers, order_numbers, count_numbers, list_numbers, weight_numbers, mark_numbers, quantiser_numbers, filter_numbers, order_signed, quantiser_signed, filter_signed, numbers_of, signed_of, HeaderWords, header_in}
use Rattle.header.specs.Told.{front_numbers, behind_front, behind, FrontIn}
use Rattle.weights.specs.declared.weight_words.WeightsShort.{WeightsShort}
use Rattle.header.specs.declared.slice.Lists.{Lists}
use Rattle.header.specs.declared.slice.Marks.{Marks}
use Rattle.header.proofs.Split.{parts-split}
use Rattle.header.proofs.Counts.{led_at, counts_same}

module _ (n : UnitKind) (s : Bits) where
  -- what follows the first fields
  abbrev rest : Led → ℕ → Res SliceHeader
  rest l c =
      bind (front_at (context_of n l) l.slice_type s c) (λ f c1.
      behind_front n l f (active_l0 (context_of n l) f.active_counts) (active_l1 (context_of n l) f.active_counts) s c1)

  header-parts : (t : Table) → read_header t n s ≡ bind (bind ((lead t).read s 0) (λ v e. got (led_of t v) e)) rest
  unfolding read_header header shaped seq context_for sequence_id_for
  header-parts t = simp (bind-bind, parts-split)

module _ (t : Table) (n : UnitKind) (s : Bits) where
  pub lead-no : {r : Refusal} → led_at t s 0 ≡ no r → read_header t n s ≡ no r
  lead-no z = rw (header-parts n s t, z)

  module _ {l : Led} {c : ℕ} (hl : led_at t s 0 ≡ got l c) where
    pub front-no : {r : Refusal} → front_at (context_of n l) l.slice_type s c ≡ no r → read_header t n s ≡ no r
    front-no z = rw (header-parts n s t, hl, z)

    pub front_read : {f : FrontParts} {c1 : ℕ} → front_at (context_of n l) l.slice_type s c ≡ got f c1 → read_header t n s ≡ behind n l f s c1
    front_read {f} hf =
        let k = counts_same t n s 0 hl hf in
        rw (header-parts n s t, hl, hf, k.0, k.1)

module _ (n : UnitKind) (l : Led) (f : FrontParts) (s : Bits) (c1 : ℕ) where
  pub lists-no : {r : Refusal} → (modifications (context_of n l) l.slice_type).read s c1 ≡ no r → behind n l f s c1 ≡ no r
  lists-no z = rw z

  module _ {m : Modifications} {c2 : ℕ} (hm : (modifications (context_of n l) l.slice_type).read s c1 ≡ got m c2) where
    abbrev weights_read : Res PredWeightTable
    weights_read =
        (pred_weight_table (context_of n l) l.slice_type
        (at_most32 (active_l0 (context_of n l) f.active_counts)) (at_most32 (active_l1 (context_of n l) f.active_counts))).read s c2

    pub weights-no : {r : Refusal} → weights_read ≡ no r → behind n l f s c1 ≡ no r
    weights-no z = rw (hm, z)

    module _ {w : PredWeightTable} {c3 : ℕ} (hw : weights_read ≡ got w c3) where
      pub marks-no : {r : Refusal} → (dec_ref_pic_marking (context_of n l)).read s c3 ≡ no r → behind n l f s c1 ≡ no r
      marks-no z = rw (hm, hw, z)

      module _ {d : DecRefPicMarking} {c4 : ℕ} (hd : (dec_ref_pic_marking (context_of n l)).read s c3 ≡ got d c4) where
        pub back-no : {r : Refusal} → back_at (context_of n l) l.slice_type s c4 ≡ no r → behind n l f s c1 ≡ no r
        back-no z = rw (hm, hw, hd, z)

        module _ {b : BackParts} {e : ℕ} (hb : back_at (context_of n l) l.slice_type s c4 ≡ got b e) where
          pub follows_no : any_set (drop (e + 1) s) ≡ false → behind n l f s c1 ≡ no (refusal_at 22 (pos 0) e)
          follows_no z = rw (hm, hw, hd, hb, z)

          pub whole-read : any_set (drop (e + 1) s) ≡ true → behind n l f s c1 ≡ got (header_of l f m w d b) e
          whole-read z = rw (hm, hw, hd, hb, z)

-- ---- the words that the stages leave are the header's

-- a part that ends where the array ends, behind those before it
laid_on : {A : Type 0} (l p v : List A) (k : ℕ) → take k l ≡ p → length l ≡ k + length v → sets l k v ≡ p ++ v
laid_on l p v k h e =
    sets-eq v l k (omega (arith, e))
    ∙ ap (λ (r : List _). (r ++ v) ++ drop (k + length v) l) h
    ∙ ap (λ (r : List _). (p ++ v) ++ r) (drop_of_length-le l {i = k + length v} (omega (arith, e)))
    ∙ append-nil (p ++ v)

-- parts one behind the other

pub front-laid : (f : Frame) (o : OrderCount) (a : ActiveCounts) (n : List ℕ) {n1 n2 n3 : List ℕ} → n1 ≡ sets n 4 (frame_numbers f) → n2 ≡ sets n1 13 (order_numbers o) → n3 ≡ sets n2 19 (count_numbers a)
    → n3 ≡ sets n 4 (frame_numbers f ++ (order_numbers o ++ count_numbers a))
front-laid f o a n h1 h2 h3 = rw (h3, h2, h1)

pub back-laid : (q : Quantiser) (f : Filter) (n : List ℕ) {n1 n2 : List ℕ} → n1 ≡ sets n 46 (quantiser_numbers q) → n2 ≡ sets n1 51 (filter_numbers f) → n2 ≡ sets n 46 (quantiser_numbers q ++ filter_numbers f)
back-laid q f n h1 h2 = rw (h2, h1)

pub back-signed : (q : Quantiser) (f : Filter) (z : List ℤ) {z1 z2 : List ℤ} → z1 ≡ sets z 3 (quantiser_signed q) → z2 ≡ sets z1 5 (filter_signed f) → z2 ≡ sets z 3 (quantiser_signed q ++ filter_signed f)
back-signed q f z h1 h2 = rw (h2, h1)

-- a part at the array's start
begun : {A : Type 0} (l v : List A) (k : ℕ) → length v ≡ k → k ≤ length l → take k (sets l 0 v) ≡ v
begun l v k e h = ap (take k) (sets-eq v l 0 (omega (arith, e, h))) ∙ take_at v _ k e

pub front-in : (l : Led) (f : FrontParts) (before w : HeaderWords) {n : List ℕ} → length before.numbers ≡ 57 → length before.signed ≡ 7
    → n ≡ sets before.numbers 0 (l.first_mb_in_slice ∷ l.slice_type ∷ l.pic_parameter_set_id ∷ l.picture.seq_parameter_set_id ∷ [])
    → w.numbers ≡ sets n 4 (front_numbers f) → w.signed ≡ sets before.signed 0 (order_signed f.order_count) → FrontIn l f w
unfolding FrontIn
front-in l f before w e0 e1 h0 h1 h2 =
    (rw (h1, h0) (begun before.numbers _ 27 refl (omega (arith, e0))), rw h2 (begun before.signed _ 3 refl (omega (arith, e1))))

module _ (l : Led) (f : FrontParts) (m : Modifications) (w : PredWeightTable) (d : DecRefPicMarking) (b : BackParts) where
  -- each part behind the one before it
  pub numbers-laid : {o : Lists} {n : WeightsShort} {k : Marks} → o ≡ lists_of m → n ≡ weights_short w → k ≡ marks_of d
      → (before : HeaderWords) → FrontIn l f before → length before.numbers ≡ 57 → {n1 n2 n3 n4 : List ℕ}
      → n1 ≡ sets before.numbers 27 (list_numbers o) → n2 ≡ sets n1 33 (weight_numbers n) → n3 ≡ sets n2 39 (mark_numbers k)
      → n4 ≡ sets n3 46 (quantiser_numbers b.quantiser ++ filter_numbers b.filter)
      → n4 ≡ numbers_of (header_of l f m w d b)
  unfolding FrontIn numbers_of
  numbers-laid p q r before i e h1 h2 h3 h4 =
      rw (h4, h3, h2, h1, p, q, r)
      (laid_on before.numbers _ (list_numbers (lists_of m) ++ (weight_numbers (weights_short w) ++ (mark_numbers (marks_of d) ++ (quantiser_numbers b.quantiser ++ filter_numbers b.filter)))) 27 i.0 e)

  pub signed-laid : (before : HeaderWords) → FrontIn l f before → length before.signed ≡ 7 → {z : List ℤ}
      → z ≡ sets before.signed 3 (quantiser_signed b.quantiser ++ filter_signed b.filter) → z ≡ signed_of (header_of l f m w d b)
  unfolding FrontIn signed_of
  signed-laid before i e h = h ∙ laid_on before.signed _ (quantiser_signed b.quantiser ++ filter_signed b.filter) 3 i.1 e

  pub laid : (before : HeaderWords) {numbers : List ℕ} {signed : List ℤ} {v0 v1 v : List ℕ} {u0 u1 : List ℤ}
      → numbers ≡ numbers_of (header_of l f m w d b) → signed ≡ signed_of (header_of l f m w d b)
      → v0 ≡ sets before.l0 0 (list_words m.l0.operations) → v1 ≡ sets before.l1 0 (list_words m.l1.operations) → v ≡ sets before.marking 0 (list_words d.operations)
      → u0 ≡ sets before.w0 0 (weight_words w.l0) → u1 ≡ sets before.w1 0 (weight_words w.l1)
      → ◌≡◌ {A = HeaderWords} (record { numbers = numbers; signed = signed; l0 = v0; l1 = v1; marking = v; w0 = u0; w1 = u1 }) (header_in (header_of l f m w d b) before)
  laid before e0 e1 e2 e3 e4 e5 e6 = rw (e0, e1, e2, e3, e4, e5, e6)
