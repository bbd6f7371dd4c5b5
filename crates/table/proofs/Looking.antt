-- The words of an entry as the code reads them, one index at a time, and what the look-ups find in them.
use mathlib.Core.Path.{◌≡◌, refl, sym, ap, ◌∙◌}
use mathlib.Core.Bool.{Bool, true, false, ◌&&◌, and-false, true≢false}
use mathlib.Core.List.{List, [], ◌∷◌}
use Prim.Native.Nat.{ℕ, zero, suc, ◌+◌, ◌*◌, ◌≤◌, ◌<◌}
use native.Mathlib.Omega.{arith}
use borrow.Author.Tests.{le-leb, lt-leb, leb-true, leb-false}
use lib.Dec.{leb, lit<}
use lib.IntN.{ℤ, pos, negsuc, ◌-ℤ◌}
use lib.Signed.{le_z}
use lib.ListN.{get_or, drop}
use lib.Seq.{get_or-drop}
use Rattle.bits.specs.Refusals.{pick}
use Rattle.table.specs.declared.sets.Picture.{Picture}
use Rattle.table.specs.Sets.{between, all, picture_fits}
use Rattle.table.specs.Tables.{found_picture, flag_in, sequence_of, sequence_tests, sequence_entry, sequence_in, width_in, picture_of, picture_tests, picture_entry, picture_in}
use Rattle.table.proofs.Tests.{both, one-fails, next, but_last}
use Rattle.table.proofs.Signs.{lowered-high}
use Rattle.std.specs.Prelude.{Some, None}

-- ---- reading word by word

abbrev read_from : List ℕ → ℕ → ℕ → ℕ → List ℕ
read_from t k j zero = []
read_from t k j (suc n) = get_or t (k + j) 0 ∷ read_from t k (suc j) n

-- the word at index k, and n more
abbrev pub entry_at : List ℕ → ℕ → ℕ → List ℕ
entry_at t k n = get_or t k 0 ∷ read_from t k 1 n

module _ (t : List ℕ) (k : ℕ) where
  read_word : (j n i : ℕ) → i < n → get_or (read_from t k j n) i 0 ≡ get_or t (k + (j + i)) 0
  read_word j zero i h = absurd (omega arith)
  read_word j (suc n) zero h = ap (λ (x : ℕ). get_or t x 0) (omega arith)
  read_word j (suc n) (suc i) h = read_word (suc j) n i (omega arith) ∙ ap (λ (x : ℕ). get_or t x 0) (omega arith)

  entry-word : (n i : ℕ) → i < suc n → get_or (drop k t) i 0 ≡ get_or (entry_at t k n) i 0
  entry-word n zero h = get_or-drop k t zero 0 ∙ ap (λ (x : ℕ). get_or t x 0) (omega arith)
  entry-word n (suc i) h =
      get_or-drop k t (suc i) 0 ∙ ap (λ (x : ℕ). get_or t x 0) (omega arith) ∙ sym (read_word 1 n i (omega arith))

-- ---- looking up, for any kind of entry

-- what an entry holds is in its first n words
abbrev pub Local : {F : Type 0} → ℕ → (List ℕ → F) → Type 0
Local n entry = (w v : List ℕ) → ((i : ℕ) → i < n → get_or w i 0 ≡ get_or v i 0) → entry w ≡ entry v

abbrev pub look : {F : Type 0} → ℕ → ℕ → (List ℕ → F) → F → List ℕ → ℕ → F
look width last entry absent t id = pick (leb id last) (entry (drop (id * width) t)) absent

pub look-past : {F : Type 0} (width last : ℕ) (entry : List ℕ → F) (absent : F) (t : List ℕ) (id : ℕ) → last < id → look width last entry absent t id ≡ absent
look-past width last entry absent t id h = rw (lt-leb id last h)

-- an entry that passes its tests holds a set
abbrev pub entry_by : {F : Type 0} → (List ℕ → List Bool) → (List ℕ → F) → F → List ℕ → F
entry_by tests found absent w = pick (all (tests w)) (found w) absent

module _ {F : Type 0} (n last : ℕ) (tests : List ℕ → List Bool) (found : List ℕ → F) (absent : F) (same : Local (suc n) (entry_by tests found absent))
    (t : List ℕ) (id : ℕ) (h : id ≤ last) where
  look-read : look (suc n) last (entry_by tests found absent) absent t id ≡ entry_by tests found absent (entry_at t (id * suc n) n)
  look-read = rw (le-leb id last h) (same (drop (id * suc n) t) (entry_at t (id * suc n) n) (entry-word t (id * suc n) n))

  pub look_none : all (tests (entry_at t (id * suc n) n)) ≡ false → look (suc n) last (entry_by tests found absent) absent t id ≡ absent
  look_none e = look-read ∙ rw e

  pub look-there : all (tests (entry_at t (id * suc n) n)) ≡ true → look (suc n) last (entry_by tests found absent) absent t id ≡ found (entry_at t (id * suc n) n)
  look-there e = look-read ∙ rw e

-- ---- sequence sets

pub same-sequence : Local 7 sequence_entry
unfolding sequence_entry sequence_of
same-sequence w v h =
    rw
    (h 0 (lit< tt), h 1 (lit< tt), h 2 (lit< tt), h 3 (lit< tt), h 4 (lit< tt), h 5 (lit< tt), h 6 (lit< tt))

pub sequence-past : (t : List ℕ) (id : ℕ) → 31 < id → sequence_in t id ≡ None
unfolding sequence_in
sequence-past = look-past 7 31 sequence_entry None

module _ (t : List ℕ) (id : ℕ) (h : id ≤ 31) where
  pub sequence-none : all (sequence_tests (entry_at t (id * 7) 6)) ≡ false → sequence_in t id ≡ None
  unfolding sequence_in sequence_entry
  sequence-none = look_none 6 31 sequence_tests (λ w. Some (sequence_of w)) None same-sequence t id h

  pub sequence-there : all (sequence_tests (entry_at t (id * 7) 6)) ≡ true → sequence_in t id ≡ Some (sequence_of (entry_at t (id * 7) 6))
  unfolding sequence_in sequence_entry
  sequence-there = look-there 6 31 sequence_tests (λ w. Some (sequence_of w)) None same-sequence t id h

-- ---- picture sets

-- the set is in the words before the width
pub same_set : Local 8 picture_of
unfolding picture_of
same_set w v h =
    rw
    (h 0 (lit< tt), h 1 (lit< tt), h 2 (lit< tt), h 3 (lit< tt), h 4 (lit< tt), h 5 (lit< tt), h 6 (lit< tt), h 7 (lit< tt))

pub same-picture : Local 9 picture_entry
unfolding picture_entry
same-picture w v h = rw (h 0 (lit< tt), same_set w v (λ i l. h i (omega arith)), h 8 (lit< tt))

pub picture-past : (t : List ℕ) (id : ℕ) → 255 < id → picture_in t id ≡ None
unfolding picture_in
picture-past = look-past 9 255 picture_entry None

module _ (t : List ℕ) (id : ℕ) (h : id ≤ 255) where
  pub picture-none : all (picture_tests (entry_at t (id * 9) 8)) ≡ false → picture_in t id ≡ None
  unfolding picture_in picture_entry
  picture-none = look_none 8 255 picture_tests (λ w. (found_picture (picture_of w) (width_in w))) None same-picture t id h

  pub picture-there : all (picture_tests (entry_at t (id * 9) 8)) ≡ true → picture_in t id ≡ (found_picture (picture_of (entry_at t (id * 9) 8)) (width_in (entry_at t (id * 9) 8)))
  unfolding picture_in picture_entry
  picture-there = look-there 8 255 picture_tests (λ w. (found_picture (picture_of w) (width_in w))) None same-picture t id h

-- the words' set, with the signed fields as they were made
abbrev pub made_picture : List ℕ → ℤ → ℤ → Picture
made_picture w qp qs =
    record {
      seq_parameter_set_id = get_or w 1 0;
      entropy_coding_mode_flag = flag_in 4 (get_or w 0 0);
      bottom_field_pic_order_in_frame_present_flag = flag_in 3 (get_or w 0 0);
      num_ref_idx_l0_default_active_minus1 = get_or w 2 0;
      num_ref_idx_l1_default_active_minus1 = get_or w 3 0;
      weighted_pred_flag = flag_in 2 (get_or w 0 0);
      weighted_bipred_idc = get_or w 4 0;
      pic_init_qp_minus26 = qp;
      pic_init_qs_minus26 = qs;
      deblocking_filter_control_present_flag = flag_in 1 (get_or w 0 0);
      redundant_pic_cnt_present_flag = flag_in 0 (get_or w 0 0);
      slice_group_change_rate = get_or w 7 0;
    }

pub made : (w : List ℕ) (qp qs : ℤ) → qp ≡ pos (get_or w 5 0) -ℤ pos 62 → qs ≡ pos (get_or w 6 0) -ℤ pos 26 → made_picture w qp qs ≡ picture_of w
unfolding picture_of
made w qp qs e f = rw (e, f)

-- a word too large for its field
qp-high : (w : List ℕ) → leb (get_or w 5 0) 87 ≡ false → picture_fits (picture_of w) ≡ false
unfolding picture_fits picture_of
qp-high w h = one-fails _ 4 (rw (lowered-high (get_or w 5 0) 62 (leb-false _ 87 h)) (and-false (le_z (negsuc 61) (pos (get_or w 5 0) -ℤ pos 62))))

qs-high : (w : List ℕ) → leb (get_or w 6 0) 51 ≡ false → picture_fits (picture_of w) ≡ false
unfolding picture_fits picture_of
qs-high w h = one-fails _ 5 (rw (lowered-high (get_or w 6 0) 26 (leb-false _ 51 h)) (and-false (le_z (negsuc 25) (pos (get_or w 6 0) -ℤ pos 26))))

-- the tests that are made before the signed fields are
abbrev pub plausible : List ℕ → Bool
plausible w = between 32 63 (get_or w 0 0) && (leb (get_or w 5 0) 87 && (leb (get_or w 6 0) 51 && leb (width_in w) 25))

pub picture-unmade : (w : List ℕ) → plausible w ≡ false → all (picture_tests w) ≡ false
picture-unmade w h = by (between 32 63 (get_or w 0 0)) (leb (get_or w 5 0) 87) (leb (get_or w 6 0) 51) (leb (width_in w) 25) refl refl refl refl h
  where
    by : (a b c d : Bool) → between 32 63 (get_or w 0 0) ≡ a → leb (get_or w 5 0) 87 ≡ b → leb (get_or w 6 0) 51 ≡ c → leb (width_in w) 25 ≡ d → a && (b && (c && d)) ≡ false
        → all (picture_tests w) ≡ false
    by false b c d ea eb ec ed h = one-fails _ 0 ea
    by true false c d ea eb ec ed h = one-fails _ 1 (qp-high w eb)
    by true true false d ea eb ec ed h = one-fails _ 1 (qs-high w ec)
    by true true true false ea eb ec ed h = one-fails _ 2 ed
    by true true true true ea eb ec ed h = absurd (true≢false h)

-- and what they leave
pub record Plausible (w : List ℕ) : Type 0 where
  pub rest : all (picture_tests w) ≡ picture_fits (picture_of w)
  pub qp : get_or w 5 0 ≤ 87
  pub qs : get_or w 6 0 ≤ 51

pub picture-made : (w : List ℕ) → plausible w ≡ true → Plausible w
picture-made w h =
    let a = both (between 32 63 (get_or w 0 0)) _ h in
    let b = both (leb (get_or w 5 0) 87) _ a.1 in
    let c = both (leb (get_or w 6 0) 51) (leb (width_in w) 25) b.1 in
    record { rest = next _ a.0 ∙ but_last _ c.1; qp = leb-true _ 87 b.0; qs = leb-true _ 51 c.0 }
