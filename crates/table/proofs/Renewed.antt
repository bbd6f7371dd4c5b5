-- What a new sequence set leaves of the picture sets: each is as before in every field but its width, which is the new one where it names the sequence set.
use mathlib.Core.Path.{◌≡◌, refl, sym, ap, ◌∙◌}
use mathlib.Core.Bool.{Bool, true, false, ◌&&◌}
use mathlib.Core.List.{List}
use Prim.Native.Nat.{ℕ, zero, suc, ◌+◌, ◌*◌, ◌≤◌, ◌<◌}
use native.Mathlib.Omega.{arith}
use native.Mathlib.Decide.{dec_lt}
use borrow.Author.Tests.{le-leb, ne_eqb}
use lib.Dec.{leb, eqb, lit<}
use lib.ListN.{length, get_or, drop, set, length-set}
use lib.Seq.{get_or-drop, get_or-set_other, get_or-set_same}
use Rattle.bits.specs.Refusals.{pick}
use Rattle.bits.specs.Width.{change_cycle_width}
use Rattle.table.specs.declared.sets.Picture.{Picture}
use Rattle.table.specs.declared.sets.Sequence.{Sequence}
use Rattle.table.specs.declared.table.Table.{Table}
use Rattle.table.specs.Sets.{between, all, picture_fits, sequence_fits}
use Rattle.table.specs.Tables.{found_picture, width_in, picture_of, picture_tests, picture_entry, picture_in, renewed_by, renewed, widths_after, picture_at, put_sequence, empty_table}
use Rattle.table.specs.Made.{BlankPictures}
use Rattle.table.proofs.Tests.{both, is-it, each, next, last}
use Rattle.table.proofs.Ranges.{sequence-ranges}
use Rattle.table.proofs.Looking.{same_set, picture-past}
use Rattle.table.proofs.Entries.{one-found, same-words, width-most, found-picture, Sized, put-sequence-length, empty-picture}
use Rattle.std.specs.Prelude.{Option, None}

-- ---- one width set

module _ (t : List ℕ) (k v : ℕ) where
  -- the words of other entries, and the other words of this one, are as before
  word-beside : (j i : ℕ) → i < 9 → (j ≡ k → i ≡ 8 → ⊥) → get_or (set t (k * 9 + 8) v) (j * 9 + i) 0 ≡ get_or t (j * 9 + i) 0
  word-beside j i l h = get_or-set_other t (k * 9 + 8) (j * 9 + i) v 0 (λ e. h (omega arith) (omega arith))

  pub set-beside : (j : ℕ) → (j ≡ k → ⊥) → picture_in (set t (k * 9 + 8) v) j ≡ picture_in t j
  set-beside j h = same-words _ t j (λ i l. word-beside j i l (λ e f. h e))

  -- the entry holds the same set, with the new width
  abbrev old : List ℕ
  old = drop (k * 9) t

  abbrev new : List ℕ
  new = drop (k * 9) (set t (k * 9 + 8) v)

  kept : (i : ℕ) → i < 8 → get_or new i 0 ≡ get_or old i 0
  kept i l = get_or-drop (k * 9) (set t (k * 9 + 8) v) i 0 ∙ word-beside k i (omega arith) (λ a b. omega arith) ∙ sym (get_or-drop (k * 9) t i 0)

  wide : k * 9 + 8 < length t → width_in new ≡ v
  wide r = get_or-drop (k * 9) (set t (k * 9 + 8) v) 8 0 ∙ get_or-set_same t (k * 9 + 8) v 0 r

  passing : k * 9 + 8 < length t → v ≤ 25 → all (picture_tests old) ≡ true → all (picture_tests new) ≡ true
  passing r m h =
      let tests = each (picture_tests old) h in
      next _ (ap (between 32 63) (kept 0 (lit< tt)) ∙ tests.0)
      ∙ next _ (ap picture_fits (same_set new old kept) ∙ tests.1.0)
      ∙ last _ ∙ ap (λ (x : ℕ). leb x 25) (wide r) ∙ le-leb v 25 m

  pub set_here : (p : Picture) (w : ℕ) → k * 9 + 8 < length t → v ≤ 25 → picture_in t k ≡ found_picture p w → picture_in (set t (k * 9 + 8) v) k ≡ found_picture p v
  unfolding picture_in picture_entry
  set_here p w r m e =
      let low = le-leb k 255 (found-picture t k p w e).0 in
      rw low (by (all (picture_tests old)) refl (rw low at e))
    where
      by : (b : Bool) → all (picture_tests old) ≡ b → pick b (found_picture (picture_of old) (width_in old)) None ≡ found_picture p w
          → pick (all (picture_tests new)) (found_picture (picture_of new) (width_in new)) None ≡ found_picture p v
      by true h f =
          let same : picture_of old ≡ p = one-found f in
          rw (passing r m h, wide r) (ap (λ (x : Picture). (found_picture x v)) (same_set new old kept ∙ same))
      by false h f = absurd (let z : ◌≡◌ {A = ℕ} 0 1 = (cc f) in omega arith)

-- ---- all of them

-- what is found, once the sequence set is put
abbrev pub renewed_set : ℕ → ℕ → Option (Picture × ℕ) → Option (Picture × ℕ)
renewed_set id size (found_picture p w) =
    (found_picture p (pick (eqb p.seq_parameter_set_id id) (change_cycle_width size p.slice_group_change_rate) w))
renewed_set id size None = None

module _ (id size : ℕ) where
  by_length : (t : List ℕ) (n : ℕ) (f : Option (Picture × ℕ)) → length (renewed_by id size t n f) ≡ length t
  by_length t n (found_picture p w) = go (eqb p.seq_parameter_set_id id)
    where
      go : (b : Bool) → length (pick b (set t (n * 9 + 8) (change_cycle_width size p.slice_group_change_rate)) t) ≡ length t
      go true = length-set t (n * 9 + 8) _
      go false = refl
  by_length t n None = refl

  by-beside : (t : List ℕ) (n j : ℕ) (f : Option (Picture × ℕ)) → (j ≡ n → ⊥) → picture_in (renewed_by id size t n f) j ≡ picture_in t j
  by-beside t n j (found_picture p w) h = go (eqb p.seq_parameter_set_id id)
    where
      go : (b : Bool) → picture_in (pick b (set t (n * 9 + 8) (change_cycle_width size p.slice_group_change_rate)) t) j ≡ picture_in t j
      go true = set-beside t n _ j h
      go false = refl
  by-beside t n j None h = refl

  by-here : (t : List ℕ) (n : ℕ) (f : Option (Picture × ℕ)) → length t ≡ 2304 → size ≤ 16777216 → picture_in t n ≡ f → picture_in (renewed_by id size t n f) n ≡ renewed_set id size f
  by-here t n (found_picture p w) z m e = go (eqb p.seq_parameter_set_id id)
    where
      go : (b : Bool) → picture_in (pick b (set t (n * 9 + 8) (change_cycle_width size p.slice_group_change_rate)) t) n
          ≡ (found_picture p (pick b (change_cycle_width size p.slice_group_change_rate) w))
      go true = set_here t n _ p w (omega (arith, z, (found-picture t n p w e).0)) (width-most size _ m) e
      go false = e
  by-here t n None z m e = e

  -- an entry that holds nothing keeps its words
  by-words : (t : List ℕ) (n j : ℕ) (f : Option (Picture × ℕ)) → picture_in t n ≡ f → picture_in t j ≡ None → (i : ℕ) → i < 9
      → get_or (renewed_by id size t n f) (j * 9 + i) 0 ≡ get_or t (j * 9 + i) 0
  by-words t n j (found_picture p w) e a i l = go (eqb p.seq_parameter_set_id id)
    where
      apart : j ≡ n → ⊥
      apart q = let h : None ≡ found_picture p w = sym a ∙ ap (picture_in t) q ∙ e in let z : ◌≡◌ {A = ℕ} 0 1 = (cc h) in omega arith

      go : (b : Bool) → get_or (pick b (set t (n * 9 + 8) (change_cycle_width size p.slice_group_change_rate)) t) (j * 9 + i) 0 ≡ get_or t (j * 9 + i) 0
      go true = word-beside t n _ j i l (λ q r. apart q)
      go false = refl
  by-words t n j None e a i l = refl

  module _ (t : List ℕ) where
    pub renewed-length : (n : ℕ) → length (renewed id size t n) ≡ length t
    unfolding renewed
    renewed-length zero = refl
    renewed-length (suc n) = by_length (renewed id size t n) n (picture_in (renewed id size t n) n) ∙ renewed-length n

    -- entries that are still to come
    later : (n j : ℕ) → n ≤ j → picture_in (renewed id size t n) j ≡ picture_in t j
    unfolding renewed
    later zero j h = refl
    later (suc n) j h = by-beside (renewed id size t n) n j (picture_in (renewed id size t n) n) (λ e. omega arith) ∙ later n j (omega arith)

    module _ (z : length t ≡ 2304) (m : size ≤ 16777216) where
      -- entries that are done
      done : (n j : ℕ) → j < n → picture_in (renewed id size t n) j ≡ renewed_set id size (picture_in t j)
      unfolding renewed
      done zero j h = absurd (omega arith)
      done (suc n) j h = go (is-it j n) (done n j)
        where
          go : Dec (j ≡ n) → (j < n → picture_in (renewed id size t n) j ≡ renewed_set id size (picture_in t j)) → picture_in (renewed_by id size (renewed id size t n) n (picture_in (renewed id size t n) n)) j ≡ renewed_set id size (picture_in t j)
          go (yes e) ih =
              rw e
              (by-here (renewed id size t n) n (picture_in (renewed id size t n) n) (renewed-length n ∙ z) m refl ∙ ap (renewed_set id size) (later n n (omega arith)))
          go (no e) ih = by-beside (renewed id size t n) n j (picture_in (renewed id size t n) n) e ∙ ih (omega arith)

      pub renewed-all : (j : ℕ) → picture_in (renewed id size t 256) j ≡ renewed_set id size (picture_in t j)
      renewed-all j = go (dec_lt j 256)
        where
          go : Dec (j < 256) → picture_in (renewed id size t 256) j ≡ renewed_set id size (picture_in t j)
          go (yes h) = done 256 j h
          go (no h) = picture-past _ j (omega arith) ∙ sym (ap (renewed_set id size) (picture-past t j (omega arith)))

    -- an entry that holds nothing keeps its words
    pub renewed-words : (n j : ℕ) → picture_in t j ≡ None → (i : ℕ) → i < 9 → get_or (renewed id size t n) (j * 9 + i) 0 ≡ get_or t (j * 9 + i) 0
    unfolding renewed
    renewed-words zero j a i l = refl
    renewed-words (suc n) j a i l =
        by-words (renewed id size t n) n j (picture_in (renewed id size t n) n) refl (same-words (renewed id size t n) t j (renewed-words n j a) ∙ a) i l
        ∙ renewed-words n j a i l

  -- where there is no picture set, nothing changes
  pub renewed-none : (t : List ℕ) → ((j : ℕ) → picture_in t j ≡ None) → (n : ℕ) → renewed id size t n ≡ t
  unfolding renewed
  renewed-none t a zero = refl
  renewed-none t a (suc n) = rw (renewed-none t a n, a n)

-- ---- and of a table

-- a new table has no width to set
pub empty-widths : (id : ℕ) (s : Sequence) → widths_after empty_table.pictures id s ≡ empty_table.pictures
unfolding widths_after
empty-widths id s = by (leb id 31 && sequence_fits s)
  where
    by : (b : Bool) → pick b (renewed id s.pic_size_in_map_units empty_table.pictures 256) empty_table.pictures ≡ empty_table.pictures
    by true = renewed-none id _ empty_table.pictures empty-picture 256
    by false = refl

module _ (t : Table) (z : Sized t) (id : ℕ) (s : Sequence) where
  abbrev after : Table
  after = (put_sequence t id s).table

  pub put-sequence-pictures : leb id 31 && sequence_fits s ≡ true → (j : ℕ) → picture_at after j ≡ renewed_set id s.pic_size_in_map_units (picture_at t j)
  unfolding widths_after
  put-sequence-pictures g j =
      rw g
      (renewed-all id s.pic_size_in_map_units t.pictures z.pictures-long (sequence-ranges s (both (leb id 31) _ g).1).units-most j)

  pub put-sequence-still : leb id 31 && sequence_fits s ≡ false → after.pictures ≡ t.pictures
  unfolding widths_after
  put-sequence-still g = rw g

  -- whatever is answered: each picture set is there as before, in every field but its width
  pub put-sequence-same : (j : ℕ) (p : Picture) (w : ℕ) → picture_at t j ≡ found_picture p w → (v : ℕ) × (picture_at after j ≡ found_picture p v)
  put-sequence-same j p w e = by (leb id 31 && sequence_fits s) refl
    where
      by : (b : Bool) → leb id 31 && sequence_fits s ≡ b → (v : ℕ) × (picture_at after j ≡ found_picture p v)
      by true g = (_, put-sequence-pictures g j ∙ ap (renewed_set id s.pic_size_in_map_units) e)
      by false g = (w, ap (λ (l : List ℕ). picture_in l j) (put-sequence-still g) ∙ e)

  -- the width too, where it names another sequence set
  pub put-sequence-unnamed : (j : ℕ) (p : Picture) (w : ℕ) → picture_at t j ≡ found_picture p w → (p.seq_parameter_set_id ≡ id → ⊥) → picture_at after j ≡ found_picture p w
  put-sequence-unnamed j p w e h = by (leb id 31 && sequence_fits s) refl
    where
      by : (b : Bool) → leb id 31 && sequence_fits s ≡ b → picture_at after j ≡ found_picture p w
      by true g =
          put-sequence-pictures g j ∙ ap (renewed_set id s.pic_size_in_map_units) e
          ∙ ap (λ (b : Bool). (found_picture p (pick b (change_cycle_width s.pic_size_in_map_units p.slice_group_change_rate) w))) (ne_eqb _ id h)
      by false g = ap (λ (l : List ℕ). picture_in l j) (put-sequence-still g) ∙ e

  pub put-sequence-absent : (j : ℕ) → picture_at t j ≡ None → picture_at after j ≡ None
  put-sequence-absent j e = by (leb id 31 && sequence_fits s) refl
    where
      by : (b : Bool) → leb id 31 && sequence_fits s ≡ b → picture_at after j ≡ None
      by true g = put-sequence-pictures g j ∙ ap (renewed_set id s.pic_size_in_map_units) e
      by false g = ap (λ (l : List ℕ). picture_in l j) (put-sequence-still g) ∙ e

  pub put-sequence-sized : Sized after
  unfolding widths_after
  put-sequence-sized = record { sequences-long = put-sequence-length t.sequences id s ∙ z.sequences-long; pictures-long = by (leb id 31 && sequence_fits s) refl ∙ z.pictures-long }
    where
      by : (b : Bool) → leb id 31 && sequence_fits s ≡ b → length after.pictures ≡ length t.pictures
      by true g = rw g (renewed-length id s.pic_size_in_map_units t.pictures 256)
      by false g = ap (λ (l : List ℕ). length l) (put-sequence-still g)

  pub put-sequence-picture-blank : BlankPictures t.pictures → BlankPictures after.pictures
  unfolding widths_after
  put-sequence-picture-blank h = by (leb id 31 && sequence_fits s) refl
    where
      was : (f : Option (Picture × ℕ)) → renewed_set id s.pic_size_in_map_units f ≡ None → f ≡ None
      was (found_picture p w) e = absurd (let q : ◌≡◌ {A = ℕ} 0 1 = (cc e) in omega arith)
      was None e = refl

      words : leb id 31 && sequence_fits s ≡ true → (j : ℕ) → picture_at t j ≡ None → (i : ℕ) → i < 9
          → get_or after.pictures (j * 9 + i) 0 ≡ get_or t.pictures (j * 9 + i) 0
      words g j e i l = rw g (renewed-words id s.pic_size_in_map_units t.pictures 256 j e i l)

      by : (b : Bool) → leb id 31 && sequence_fits s ≡ b → BlankPictures after.pictures
      by true g = λ j m a i l. let e : picture_at t j ≡ None = was (picture_at t j) (sym (put-sequence-pictures g j) ∙ a) in words g j e i l ∙ h j m e i l
      by false g = rw (put-sequence-still g) h
