-- The tables that puts make from the empty one, refused puts among them, and widths that are true.
use Rattle.std.specs.Prelude.{◌≡◌, List, [], ◌∷◌, ℕ, ◌+◌, ◌*◌, ◌≤◌, ◌<◌, get_or}
use Rattle.table.specs.declared.sets.Picture.{Picture}
use Rattle.table.specs.declared.sets.Sequence.{Sequence}
use Rattle.table.specs.declared.table.Table.{Table}
use Rattle.table.specs.Tables.{found_picture, cycle_width, sequence_in, picture_in, sequence_at, picture_at, put_sequence, put_picture, empty_table}
use Rattle.std.specs.Prelude.{None}

-- what is put, under which id
pub data Change : Type 0 where
  sequence_set : ℕ → Sequence → Change
  picture_set : ℕ → Picture → Change

abbrev pub changed : Table → Change → Table
changed t (sequence_set id s) = (put_sequence t id s).table
changed t (picture_set id p) = (put_picture t id p).table

-- one put after the other
abbrev pub made_from : Table → List Change → Table
made_from t [] = t
made_from t (c ∷ l) = made_from (changed t c) l

abbrev pub made : List Change → Table
made = made_from empty_table

-- each picture set's width is the one that its change rate and its sequence set give
abbrev pub TrueWidths : Table → Type 0
TrueWidths t =
    (id : ℕ) (p : Picture) (w : ℕ) → picture_at t id ≡ found_picture p w
    → w ≡ cycle_width (sequence_at t p.seq_parameter_set_id) p.slice_group_change_rate

-- entries that hold no set are all zero
abbrev pub BlankSequences : List ℕ → Type 0
BlankSequences t = (id : ℕ) → id ≤ 31 → sequence_in t id ≡ None → (i : ℕ) → i < 7 → get_or t (id * 7 + i) 0 ≡ 0

abbrev pub BlankPictures : List ℕ → Type 0
BlankPictures t = (id : ℕ) → id ≤ 255 → picture_in t id ≡ None → (i : ℕ) → i < 9 → get_or t (id * 9 + i) 0 ≡ 0
