-- Storing an entry's words as the code does, one index at a time, and what a put answers.
use mathlib.Core.Path.{◌≡◌, refl, sym, ap, ◌∙◌}
use mathlib.Core.Bool.{Bool, true, false, ◌&&◌, and-false}
use mathlib.Core.List.{List, [], ◌∷◌}
use Prim.Native.Nat.{ℕ, suc, ◌+◌, ◌*◌, ◌≤◌, ◌<◌}
use native.Mathlib.Omega.{arith}
use borrow.Author.Tests.{le-leb, lt-leb}
use lib.Dec.{leb}
use lib.IntN.{pos, nat_abs, ◌+ℤ◌}
use lib.ListN.{set}
use lib.Seq.{sets}
use Rattle.bits.specs.Refusals.{refusal}
use Rattle.table.specs.declared.sets.Picture.{Picture}
use Rattle.table.specs.declared.sets.Sequence.{Sequence}
use Rattle.table.specs.Sets.{sequence_fits, picture_fits}
use Rattle.table.specs.Tables.{Put, put_words, table_field, sequence_marks, sequence_words, sequence_put, renewed, widths_after, cycle_width, sequence_in, picture_marks, picture_words, picture_put}
use Rattle.std.specs.Prelude.{Ok, Err, Option}

abbrev store_from : List ℕ → ℕ → ℕ → List ℕ → List ℕ
store_from t k j [] = t
store_from t k j (a ∷ w) = store_from (set t (k + j) a) k (suc j) w

-- a at index k, and the words w after it
abbrev pub store_at : List ℕ → ℕ → ℕ → List ℕ → List ℕ
store_at t k a w = store_from (set t k a) k 1 w

stores : (w t : List ℕ) (k j : ℕ) → sets t (k + j) w ≡ store_from t k j w
stores [] t k j = refl
stores (a ∷ w) t k j = ap (λ (i : ℕ). sets (set t (k + j) a) i w) (omega arith) ∙ stores w (set t (k + j) a) k (suc j)

stored : (t : List ℕ) (k a : ℕ) (w : List ℕ) → sets t k (a ∷ w) ≡ store_at t k a w
stored t k a w = ap (λ (i : ℕ). sets (set t k a) i w) (omega arith) ∙ stores w (set t k a) k 1

-- ---- what a put of the words w gives, for any kind of entry

abbrev pub refused : List ℕ → Put
refused t = record { answer = Err (refusal table_field (pos 0)); left = t }

-- what is given, part by part
pub parts : {p q : Put} → p ≡ q → (q.answer ≡ p.answer) × (q.left ≡ p.left)
parts e = (sym (ap (λ (x : Put). x.answer) e), sym (ap (λ (x : Put). x.left) e))

module _ (last id : ℕ) (good : Bool) (t : List ℕ) (at : ℕ) (w : List ℕ) where
  pub put-past : last < id → put_words (leb id last && good) t at w ≡ refused t
  put-past h = rw (lt-leb id last h)

  pub put-unfit : good ≡ false → put_words (leb id last && good) t at w ≡ refused t
  put-unfit h = rw (h, and-false (leb id last))

  pub put-done : id ≤ last → good ≡ true → put_words (leb id last && good) t at w ≡ record { answer = Ok tt; left = sets t at w }
  put-done h g = rw (le-leb id last h, g)

  -- the words that the code stores, one by one
  pub put-stored : id ≤ last → good ≡ true → (a : ℕ) (v : List ℕ) → a ∷ v ≡ w
      → put_words (leb id last && good) t at w ≡ record { answer = Ok tt; left = store_at t at a v }
  put-stored h g a v e = put-done h g ∙ ap (λ (l : List ℕ). record { answer = Ok tt; left = l }) (ap (λ (u : List ℕ). sets t at u) (sym e) ∙ stored t at a v)

-- ---- sequence sets

module _ (t : List ℕ) (id : ℕ) (s : Sequence) where
  pub sequence-put-past : 31 < id → sequence_put t id s ≡ refused t
  unfolding sequence_put
  sequence-put-past = put-past 31 id (sequence_fits s) t (id * 7) (sequence_words s)

  pub sequence-put-unfit : sequence_fits s ≡ false → sequence_put t id s ≡ refused t
  unfolding sequence_put
  sequence-put-unfit = put-unfit 31 id (sequence_fits s) t (id * 7) (sequence_words s)

  pub sequence-put-stored : id ≤ 31 → sequence_fits s ≡ true → (m : ℕ) (v : List ℕ) → m ∷ v ≡ sequence_words s
      → sequence_put t id s ≡ record { answer = Ok tt; left = store_at t (id * 7) m v }
  unfolding sequence_put
  sequence-put-stored h g = put-stored 31 id (sequence_fits s) t (id * 7) (sequence_words s) h g

-- the picture sets then
module _ (t : List ℕ) (id : ℕ) (s : Sequence) where
  pub widths-past : 31 < id → widths_after t id s ≡ t
  unfolding widths_after
  widths-past h = rw (lt-leb id 31 h)

  pub widths-unfit : sequence_fits s ≡ false → widths_after t id s ≡ t
  unfolding widths_after
  widths-unfit h = rw (h, and-false (leb id 31))

  pub widths-done : id ≤ 31 → sequence_fits s ≡ true → widths_after t id s ≡ renewed id s.pic_size_in_map_units t 256
  unfolding widths_after
  widths-done h g = rw (le-leb id 31 h, g)

-- what a put answers and leaves, of both arrays
pub with-widths : {p q : Put} {v w : List ℕ} → p ≡ q → v ≡ w → (q.answer ≡ p.answer) × ((q.left ≡ p.left) × (w ≡ v))
with-widths e f = ((parts e).0, ((parts e).1, sym f))

-- the words, with the first as a call gives it
pub sequence-words : (s : Sequence) {m : ℕ} → m ≡ sequence_marks s
    → m ∷ s.chroma_format_idc ∷ s.bit_depth_luma_minus8 ∷ s.log2_max_frame_num ∷ s.pic_order_cnt_type ∷ s.log2_max_pic_order_cnt_lsb_minus4
    ∷ s.pic_size_in_map_units ∷ [] ≡ sequence_words s
unfolding sequence_words
sequence-words s em = rw em

-- ---- picture sets

module _ (s t : List ℕ) (id : ℕ) (p : Picture) where
  -- the words that are put
  abbrev pub words : List ℕ
  words = picture_words p (cycle_width (sequence_in s p.seq_parameter_set_id) p.slice_group_change_rate)

  pub picture-put-past : 255 < id → picture_put s t id p ≡ refused t
  unfolding picture_put
  picture-put-past = put-past 255 id (picture_fits p) t (id * 9) words

  pub picture-put-unfit : picture_fits p ≡ false → picture_put s t id p ≡ refused t
  unfolding picture_put
  picture-put-unfit = put-unfit 255 id (picture_fits p) t (id * 9) words

  pub picture-put-stored : id ≤ 255 → picture_fits p ≡ true → (m : ℕ) (v : List ℕ) → m ∷ v ≡ words
      → picture_put s t id p ≡ record { answer = Ok tt; left = store_at t (id * 9) m v }
  unfolding picture_put
  picture-put-stored h g = put-stored 255 id (picture_fits p) t (id * 9) words h g

-- the words, with each signed field's and the width as a call gives it
pub picture-words : (s : List ℕ) (p : Picture) {m qp qs width : ℕ} {found : Option Sequence}
    → m ≡ picture_marks p → qp ≡ nat_abs (p.pic_init_qp_minus26 +ℤ pos 62) → qs ≡ nat_abs (p.pic_init_qs_minus26 +ℤ pos 26)
    → width ≡ cycle_width found p.slice_group_change_rate → found ≡ sequence_in s p.seq_parameter_set_id
    → m ∷ p.seq_parameter_set_id ∷ p.num_ref_idx_l0_default_active_minus1 ∷ p.num_ref_idx_l1_default_active_minus1
    ∷ p.weighted_bipred_idc ∷ qp ∷ qs ∷ p.slice_group_change_rate ∷ width ∷ []
    ≡ picture_words p (cycle_width (sequence_in s p.seq_parameter_set_id) p.slice_group_change_rate)
unfolding picture_words
picture-words s p em eqp eqs ew ef = rw (em, eqp, eqs, ew, ef)
