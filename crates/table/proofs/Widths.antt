-- After any list of puts from the empty table, refused ones among them, each picture set's width is the true one, and entries that hold nothing are all zero.
use mathlib.Core.Path.{◌≡◌, refl, sym, ap, ◌∙◌}
use mathlib.Core.Bool.{Bool, true, false, ◌&&◌}
use mathlib.Core.List.{List, [], ◌∷◌}
use Prim.Native.Nat.{ℕ}
use native.Mathlib.Omega.{arith}
use borrow.Author.Tests.{leb-true, eqb-true, eqb-false}
use lib.Dec.{leb, eqb}
use Rattle.bits.specs.Refusals.{pick}
use Rattle.bits.specs.Width.{change_cycle_width}
use Rattle.table.specs.declared.sets.Picture.{Picture}
use Rattle.table.specs.declared.sets.Sequence.{Sequence}
use Rattle.table.specs.declared.table.Table.{Table}
use Rattle.table.specs.Sets.{sequence_fits, picture_fits}
use Rattle.table.specs.Tables.{found_picture, Put, cycle_width, picture_in, sequence_at, picture_at, put_sequence, put_picture, empty_table}
use Rattle.table.specs.Made.{TrueWidths, BlankSequences, BlankPictures, Change, sequence_set, picture_set, changed, made_from, made}
use Rattle.table.proofs.Tests.{both, is-it}
use Rattle.table.proofs.Entries.{one-found, one-width, Sized, put-sequence-there, put-sequence-other, put-sequence-blank, put-sequence-refused, put-picture-there, put-picture-other, put-picture-length, put-picture-blank, put-picture-refused, empty-picture, empty-sized, empty-blank-sequences, empty-blank-pictures}
use Rattle.table.proofs.Renewed.{renewed_set, put-sequence-pictures, put-sequence-still, put-sequence-sized, put-sequence-picture-blank}
use Rattle.std.specs.Prelude.{Option, Some, None}

-- what every put keeps
pub record Sound (t : Table) : Type 0 where
  pub sized : Sized t
  pub widths : TrueWidths t
  pub blank-sequences : BlankSequences t.sequences
  pub blank-pictures : BlankPictures t.pictures

pub empty-sound : Sound empty_table
empty-sound =
    record {
      sized = empty-sized;
      widths = λ id p w e. absurd (let h : None ≡ found_picture p w = sym (empty-picture id) ∙ e in let z : ◌≡◌ {A = ℕ} 0 1 = (cc h) in omega arith);
      blank-sequences = empty-blank-sequences;
      blank-pictures = empty-blank-pictures;
    }

-- ---- a sequence set is put

module _ (t : Table) (v : Sound t) (id : ℕ) (s : Sequence) where
  abbrev next : Table
  next = (put_sequence t id s).table

  -- a set that names it has the new width, and each other one the width that it had, by the same sequence set
  found-true : leb id 31 && sequence_fits s ≡ true → (f : Option (Picture × ℕ)) (j : ℕ) → picture_at t j ≡ f → (p : Picture) (w : ℕ)
      → renewed_set id s.pic_size_in_map_units f ≡ found_picture p w → w ≡ cycle_width (sequence_at next p.seq_parameter_set_id) p.slice_group_change_rate
  found-true g (found_picture q x) j e p w h = by (eqb q.seq_parameter_set_id id) refl
    where
      there : sequence_at next id ≡ Some s
      there = let k = both (leb id 31) (sequence_fits s) g in put-sequence-there t.sequences id s v.sized.sequences-long (leb-true id 31 k.0) k.1

      is : q ≡ p
      is = one-found h

      width : pick (eqb q.seq_parameter_set_id id) (change_cycle_width s.pic_size_in_map_units q.slice_group_change_rate) x ≡ w
      width = one-width h

      true_of : (y : ℕ) → pick (eqb q.seq_parameter_set_id id) (change_cycle_width s.pic_size_in_map_units q.slice_group_change_rate) x ≡ y
          → y ≡ cycle_width (sequence_at next q.seq_parameter_set_id) q.slice_group_change_rate
          → w ≡ cycle_width (sequence_at next p.seq_parameter_set_id) p.slice_group_change_rate
      true_of y a b = sym width ∙ a ∙ b ∙ ap (λ (z : Picture). cycle_width (sequence_at next z.seq_parameter_set_id) z.slice_group_change_rate) is

      by : (b : Bool) → eqb q.seq_parameter_set_id id ≡ b → w ≡ cycle_width (sequence_at next p.seq_parameter_set_id) p.slice_group_change_rate
      by true n =
          true_of (change_cycle_width s.pic_size_in_map_units q.slice_group_change_rate) (rw n)
          (sym (ap (λ (z : Option Sequence). cycle_width z q.slice_group_change_rate) (ap (sequence_at next) (eqb-true _ id n) ∙ there)))
      by false n =
          true_of x (rw n)
          (v.widths j q x e ∙ sym (ap (λ (z : Option Sequence). cycle_width z q.slice_group_change_rate) (put-sequence-other t.sequences id s q.seq_parameter_set_id (eqb-false _ id n))))
  found-true g None j e p w h = absurd (let z : ◌≡◌ {A = ℕ} 0 1 = (cc h) in omega arith)

  sequence-widths : TrueWidths next
  sequence-widths = by (leb id 31 && sequence_fits s) refl
    where
      by : (b : Bool) → leb id 31 && sequence_fits s ≡ b → TrueWidths next
      by true g j p w e = found-true g (picture_at t j) j refl p w (sym (put-sequence-pictures t v.sized id s g j) ∙ e)
      by false g j p w e =
          v.widths j p w (sym (ap (λ (l : List ℕ). picture_in l j) (put-sequence-still t v.sized id s g)) ∙ e)
          ∙ sym (ap (λ (x : Put). cycle_width (sequence_at (record { sequences = x.left; pictures = t.pictures }) p.seq_parameter_set_id) p.slice_group_change_rate) (put-sequence-refused t.sequences id s g))

  pub sequence-sound : Sound next
  sequence-sound =
      record {
        sized = put-sequence-sized t v.sized id s;
        widths = sequence-widths;
        blank-sequences = put-sequence-blank t.sequences id s v.sized.sequences-long v.blank-sequences;
        blank-pictures = put-sequence-picture-blank t v.sized id s v.blank-pictures;
      }

-- ---- a picture set is put

module _ (t : Table) (v : Sound t) (id : ℕ) (p : Picture) where
  abbrev then : Table
  then = (put_picture t id p).table

  picture-widths : TrueWidths then
  picture-widths = by (leb id 255 && picture_fits p) refl
    where
      one : leb id 255 && picture_fits p ≡ true → (j : ℕ) → Dec (j ≡ id) → (q : Picture) (w : ℕ) → picture_at then j ≡ found_picture q w
          → w ≡ cycle_width (sequence_at t q.seq_parameter_set_id) q.slice_group_change_rate
      one g j (yes n) q w e =
          let k = both (leb id 255) (picture_fits p) g in
          let h = sym (put-picture-there t.sequences t.pictures id p v.sized.pictures-long (leb-true id 255 k.0) k.1) ∙ ap (picture_at then) (sym n) ∙ e in
          let is : p ≡ q = one-found h in
          let width : cycle_width (sequence_at t p.seq_parameter_set_id) p.slice_group_change_rate ≡ w = one-width h in
          sym width ∙ ap (λ (z : Picture). cycle_width (sequence_at t z.seq_parameter_set_id) z.slice_group_change_rate) is
      one g j (no n) q w e = v.widths j q w (sym (put-picture-other t.sequences t.pictures id p j n) ∙ e)

      by : (b : Bool) → leb id 255 && picture_fits p ≡ b → TrueWidths then
      by true g j q w e = one g j (is-it j id) q w e
      by false g j q w e = v.widths j q w (sym (ap (λ (x : Put). picture_in x.left j) (put-picture-refused t.sequences t.pictures id p g)) ∙ e)

  pub picture-sound : Sound then
  picture-sound =
      record {
        sized = record { sequences-long = v.sized.sequences-long; pictures-long = put-picture-length t.sequences t.pictures id p ∙ v.sized.pictures-long };
        widths = picture-widths;
        blank-sequences = v.blank-sequences;
        blank-pictures = put-picture-blank t.sequences t.pictures id p v.sized.pictures-long v.blank-pictures;
      }

-- ---- any list of puts

pub changed-sound : (t : Table) → Sound t → (c : Change) → Sound (changed t c)
changed-sound t v (sequence_set id s) = sequence-sound t v id s
changed-sound t v (picture_set id p) = picture-sound t v id p

pub from-sound : (t : Table) → Sound t → (l : List Change) → Sound (made_from t l)
from-sound t v [] = v
from-sound t v (c ∷ l) = from-sound (changed t c) (changed-sound t v c) l

pub made-sound : (l : List Change) → Sound (made l)
made-sound = from-sound empty_table empty-sound

pub made-true : (l : List Change) → TrueWidths (made l)
made-true l = (made-sound l).widths
