-- The laws of the parameter table, for the crates above: what is found after a put, what is known of a set that is found, and that a new table is empty.
use mathlib.Core.Path.{◌≡◌, refl, ap, ◌∙◌}
use mathlib.Core.Bool.{Bool, true, false, ◌&&◌, and-true}
use mathlib.Core.List.{List, [], ◌∷◌}
use Prim.Native.Nat.{ℕ, zero, suc, ◌+◌, ◌-◌, ◌*◌, ◌≤◌, ◌<◌, ◌^◌}
use native.Mathlib.Omega.{arith}
use lib.Dec.{leb}
use lib.ListN.{length, get_or, length-replicate}
use borrow.Author.Tests.{leb-true, le-leb}
use Rattle.bits.specs.Bits.{Bits, digits, number_of}
use Rattle.bits.specs.Width.{change_cycle_width}
use Rattle.bits.proofs.Digits.{number_lt, digits_number}
use Rattle.bits.proofs.Widths.{width-least}
use Rattle.table.specs.declared.sets.Picture.{Picture}
use Rattle.table.specs.declared.sets.Sequence.{Sequence}
use Rattle.table.specs.declared.table.Table.{Table}
use Rattle.table.specs.Sets.{between, all, sequence_fits, picture_fits}
use Rattle.table.specs.Tables.{found_picture, Put, cycle_width, width_in, sequence_marks, sequence_words, sequence_of, sequence_tests, sequence_entry, sequence_in, sequence_put, picture_marks, picture_words, picture_of, picture_tests, picture_entry, picture_in, picture_put, empty_table, sequence_at, picture_at, put_picture}
use Rattle.table.specs.Made.{BlankSequences, BlankPictures}
use Rattle.table.proofs.Tests.{both, each, next, last, joined}
use Rattle.table.proofs.Signs.{raised-back}
use Rattle.table.proofs.Ranges.{SequenceRanges, sequence-ranges, PictureRanges, picture-ranges}
use Rattle.table.proofs.Looking.{same-sequence, same-picture}
use Rattle.table.proofs.Storing.{refused}
use Rattle.table.proofs.Arrays.{Kind, put_in, look-same, put-length, put-there, put_other, put_refused, put-answer, put-blank, found_within, empty-absent, empty-blank}
use Rattle.std.specs.Prelude.{Ok, Option, Some, None}

-- ---- the two kinds

-- a first word's digits are the flags
flag-back : (l : Bits) (k : ℕ) → get_or (digits (length l) (number_of l)) k false ≡ get_or l k false
flag-back l k = ap (λ (x : Bits). get_or x k false) (digits_number l)

-- a one before n flags
mark-fits : (l : Bits) → between (2 ^ length l) (2 ^ length l + 2 ^ length l - 1) (number_of (true ∷ l)) ≡ true
unfolding number_of
mark-fits l = rw (le-leb (2 ^ length l) (2 ^ length l + number_of l) (omega arith), le-leb (2 ^ length l + number_of l) (2 ^ length l + 2 ^ length l - 1) (omega (arith, number_lt l)))

-- so it is not zero
marked : (low high w : ℕ) → between (suc low) high w ≡ true → 1 ≤ w
marked low high w h = omega (arith, leb-true (suc low) w (both _ _ h).0)

sequence-back : (s : Sequence) → sequence_of (sequence_words s) ≡ s
unfolding sequence_of sequence_words sequence_marks digits
sequence-back s =
    let f = flag-back (true ∷ s.separate_colour_plane_flag ∷ s.delta_pic_order_always_zero_flag ∷ s.frame_mbs_only_flag ∷ []) in
    rw (f 1, f 2, f 3)

sequence-passes : (s : Sequence) → sequence_fits s ≡ true → all (sequence_tests (sequence_words s)) ≡ true
unfolding sequence_words sequence_marks
sequence-passes s g =
    next _ (mark-fits (s.separate_colour_plane_flag ∷ s.delta_pic_order_always_zero_flag ∷ s.frame_mbs_only_flag ∷ []))
    ∙ last _
    ∙ ap sequence_fits (sequence-back s)
    ∙ g

one-sequence : (r s : Sequence) → Some r ≡ Some s → r ≡ s
one-sequence r s h = cc

no-sequence : (s : Sequence) → None ≡ Some s → ⊥
no-sequence s h = let z : ◌≡◌ {A = ℕ} 0 1 = cc in omega arith

abbrev sequences : Kind Sequence (Option Sequence)
unfolding sequence_entry sequence_words
sequences =
    record {
      width = 7;
      last = 31;
      there = Some;
      absent = None;
      tests = sequence_tests;
      of = sequence_of;
      words = sequence_words;
      fits = sequence_fits;
      same = same-sequence;
      sized = λ s. refl;
      passes = sequence-passes;
      back = λ s g. sequence-back s;
      tested = λ w h. let e = each (sequence_tests w) h in (marked 7 15 _ e.0, e.1.0);
      one = one-sequence;
      apart = no-sequence;
    }

abbrev flags : Picture → Bits
flags p =
    p.entropy_coding_mode_flag ∷ p.bottom_field_pic_order_in_frame_present_flag ∷ p.weighted_pred_flag ∷ p.deblocking_filter_control_present_flag ∷ p.redundant_pic_cnt_present_flag ∷ []

picture-back : (p : Picture) (w : ℕ) → picture_fits p ≡ true → picture_of (picture_words p w) ≡ p
unfolding picture_of picture_words picture_marks digits
picture-back p w g =
    let f = flag-back (true ∷ flags p) in
    rw (
      f 1,
      f 2,
      f 3,
      raised-back 62 p.pic_init_qp_minus26 (picture-ranges p g).qp,
      raised-back 26 p.pic_init_qs_minus26 (picture-ranges p g).qs,
      f 4,
      f 5,
    )

-- a picture set with its width
abbrev Wide : Type 0
Wide = Picture × ℕ

abbrev wide_fits : Wide → Bool
wide_fits v = picture_fits v.0 && leb v.1 25

picture-passes : (v : Wide) → wide_fits v ≡ true → all (picture_tests (picture_words v.0 v.1)) ≡ true
unfolding picture_words picture_marks
picture-passes v g =
    let h = both (picture_fits v.0) _ g in
    next _ (mark-fits (flags v.0)) ∙ next _ (ap picture_fits (picture-back v.0 v.1 h.0) ∙ h.0) ∙ last _ ∙ h.1

wide_back : (v : Wide) → wide_fits v ≡ true → (picture_of (picture_words v.0 v.1), width_in (picture_words v.0 v.1)) ≡ v
unfolding picture_words
wide_back v g = let e = picture-back v.0 v.1 (both (picture_fits v.0) _ g).0 in λ i. (e i, v.1)

one-picture : (v u : Wide) → (found_picture v.0 v.1) ≡ found_picture u.0 u.1 → v ≡ u
one-picture v u h =
    let e : v.0 ≡ u.0 = cc in
    let f : v.1 ≡ u.1 = cc in
    λ i. (e i, f i)

-- what is found alike is alike
module _ {p q : Picture} {w v : ℕ} (e : found_picture p w ≡ found_picture q v) where
  pub one-found : p ≡ q
  one-found = ap (λ (x : Wide). x.0) (one-picture (p, w) (q, v) e)

  pub one-width : w ≡ v
  one-width = ap (λ (x : Wide). x.1) (one-picture (p, w) (q, v) e)

no-picture : (v : Wide) → None ≡ found_picture v.0 v.1 → ⊥
no-picture v h = let z : ◌≡◌ {A = ℕ} 0 1 = cc in omega arith

abbrev pictures : Kind Wide (Option (Picture × ℕ))
unfolding picture_entry picture_words
pictures =
    record {
      width = 9;
      last = 255;
      there = λ v. (found_picture v.0 v.1);
      absent = None;
      tests = picture_tests;
      of = λ w. (picture_of w, width_in w);
      words = λ v. picture_words v.0 v.1;
      fits = wide_fits;
      same = same-picture;
      sized = λ v. refl;
      passes = picture-passes;
      back = wide_back;
      tested = λ w h. let e = each (picture_tests w) h in (marked 31 63 _ e.0, joined e.1.0 e.1.1.0);
      one = one-picture;
      apart = no-picture;
    }

-- ---- sequence sets

module _ (t : List ℕ) (id : ℕ) (s : Sequence) where
  -- the named entry holds the new set
  pub put-sequence-there : length t ≡ 224 → id ≤ 31 → sequence_fits s ≡ true → sequence_in (sequence_put t id s).left id ≡ Some s
  unfolding sequence_in sequence_put sequence_entry sequence_words
  put-sequence-there = put-there sequences t id s

  -- each other entry is as before, whatever is answered
  pub put-sequence-other : (j : ℕ) → (j ≡ id → ⊥) → sequence_in (sequence_put t id s).left j ≡ sequence_in t j
  unfolding sequence_in sequence_put sequence_entry sequence_words
  put-sequence-other j = put_other sequences t id j s

  pub put-sequence-length : length (sequence_put t id s).left ≡ length t
  unfolding sequence_put sequence_entry sequence_words
  put-sequence-length = put-length sequences t id s

  pub put-sequence-done : id ≤ 31 → sequence_fits s ≡ true → (sequence_put t id s).answer ≡ Ok tt
  unfolding sequence_put sequence_entry sequence_words
  put-sequence-done = put-answer sequences t id s

  -- refused, nothing changes
  pub put-sequence-refused : leb id 31 && sequence_fits s ≡ false → sequence_put t id s ≡ refused t
  unfolding sequence_put sequence_entry sequence_words
  put-sequence-refused = put_refused sequences t id s

  pub put-sequence-blank : length t ≡ 224 → BlankSequences t → BlankSequences (sequence_put t id s).left
  unfolding sequence_put sequence_in sequence_entry sequence_words
  put-sequence-blank = put-blank sequences t id s

  -- what is found is within the ranges
  pub found-sequence : sequence_in t id ≡ Some s → (id ≤ 31) × (sequence_fits s ≡ true)
  unfolding sequence_in sequence_entry sequence_words
  found-sequence = found_within sequences t id s

  pub found-sequence-ranges : sequence_in t id ≡ Some s → SequenceRanges s
  found-sequence-ranges h = sequence-ranges s (found-sequence h).1

-- ---- picture sets

-- a set within the ranges has a width of at most 25, whatever the sequence set
pub width-most : (size rate : ℕ) → size ≤ 16777216 → change_cycle_width size rate ≤ 25
unfolding change_cycle_width
width-most size zero h = omega arith
width-most size (suc r) h = width-least size (suc r) 25 (omega arith) (omega arith) (omega arith)

pub cycle-most : (s : List ℕ) (id rate : ℕ) → cycle_width (sequence_in s id) rate ≤ 25
cycle-most s id rate = by (sequence_in s id) refl
  where
    by : (f : Option Sequence) → sequence_in s id ≡ f → cycle_width f rate ≤ 25
    by (Some q) e = width-most _ rate (found-sequence-ranges s id q e).units-most
    by None e = omega arith

module _ (s t : List ℕ) (id : ℕ) (p : Picture) where
  -- the width that is put
  abbrev pub put_width : ℕ
  put_width = cycle_width (sequence_in s p.seq_parameter_set_id) p.slice_group_change_rate

  fits-wide : (b : Bool) → b && leb put_width 25 ≡ b
  fits-wide b = rw (le-leb put_width 25 (cycle-most s _ _)) (and-true b)

  -- a put of the set is a put of the set with its width
  put-wide : picture_put s t id p ≡ put_in pictures t id (p, put_width)
  unfolding picture_put picture_entry picture_words
  put-wide = rw (fits-wide (picture_fits p))

  -- the named entry holds the new set
  pub put-picture-there : length t ≡ 2304 → id ≤ 255 → picture_fits p ≡ true → picture_in (picture_put s t id p).left id ≡ found_picture p put_width
  unfolding picture_in picture_entry picture_words
  put-picture-there z h g =
      ap (λ (x : Put). picture_in x.left id) put-wide ∙ put-there pictures t id (p, put_width) z h (fits-wide (picture_fits p) ∙ g)

  -- each other entry is as before, whatever is answered
  pub put-picture-other : (j : ℕ) → (j ≡ id → ⊥) → picture_in (picture_put s t id p).left j ≡ picture_in t j
  unfolding picture_in picture_entry picture_words
  put-picture-other j h = ap (λ (x : Put). picture_in x.left j) put-wide ∙ put_other pictures t id j (p, put_width) h

  pub put-picture-length : length (picture_put s t id p).left ≡ length t
  unfolding picture_entry picture_words
  put-picture-length = ap (λ (x : Put). length x.left) put-wide ∙ put-length pictures t id (p, put_width)

  pub put-picture-done : id ≤ 255 → picture_fits p ≡ true → (picture_put s t id p).answer ≡ Ok tt
  unfolding picture_entry picture_words
  put-picture-done h g = ap (λ (x : Put). x.answer) put-wide ∙ put-answer pictures t id (p, put_width) h (fits-wide (picture_fits p) ∙ g)

  -- refused, nothing changes
  pub put-picture-refused : leb id 255 && picture_fits p ≡ false → picture_put s t id p ≡ refused t
  unfolding picture_put
  put-picture-refused h = rw h

  pub put-picture-blank : length t ≡ 2304 → BlankPictures t → BlankPictures (picture_put s t id p).left
  unfolding picture_in picture_entry picture_words
  put-picture-blank z h = rw put-wide (put-blank pictures t id (p, put_width) z h)

-- an entry is what its words say
pub same-words : (t u : List ℕ) (j : ℕ) → ((i : ℕ) → i < 9 → get_or t (j * 9 + i) 0 ≡ get_or u (j * 9 + i) 0) → picture_in t j ≡ picture_in u j
unfolding picture_in picture_entry picture_words
same-words = look-same pictures

module _ (t : List ℕ) (id : ℕ) (p : Picture) (w : ℕ) where
  -- what is found is within the ranges, and its width is at most 25
  pub found-picture : picture_in t id ≡ found_picture p w → (id ≤ 255) × ((picture_fits p ≡ true) × (w ≤ 25))
  unfolding picture_in picture_entry picture_words
  found-picture h =
      let f = found_within pictures t id (p, w) h in
      let g = both (picture_fits p) (leb w 25) f.1 in
      (f.0, (g.0, leb-true w 25 g.1))

  pub found-picture-ranges : picture_in t id ≡ found_picture p w → PictureRanges p
  found-picture-ranges h = picture-ranges p (found-picture h).1.0

-- ---- the table

-- the arrays have an entry for each id
pub record Sized (t : Table) : Type 0 where
  pub sequences-long : length t.sequences ≡ 224
  pub pictures-long : length t.pictures ≡ 2304

-- a put of a picture set leaves the sequence sets alone; Renewed says what a put of a sequence set leaves of the picture sets
pub put-picture-sequences : (t : Table) (id j : ℕ) (p : Picture) → sequence_at (put_picture t id p).table j ≡ sequence_at t j
put-picture-sequences t id j p = refl

-- a new table holds nothing
pub empty-sequence : (id : ℕ) → sequence_at empty_table id ≡ None
unfolding sequence_in sequence_entry sequence_words
empty-sequence = empty-absent sequences 224

pub empty-picture : (id : ℕ) → picture_at empty_table id ≡ None
unfolding picture_in picture_entry picture_words
empty-picture = empty-absent pictures 2304

pub empty-sized : Sized empty_table
empty-sized = record { sequences-long = length-replicate {A = ℕ} 224 0; pictures-long = length-replicate {A = ℕ} 2304 0 }

pub empty-blank-sequences : BlankSequences empty_table.sequences
unfolding sequence_in sequence_entry sequence_words
empty-blank-sequences = empty-blank sequences 224

pub empty-blank-pictures : BlankPictures empty_table.pictures
unfolding picture_in picture_entry picture_words
empty-blank-pictures = empty-blank pictures 2304
