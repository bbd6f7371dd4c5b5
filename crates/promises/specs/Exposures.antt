-- The exposures of a recording (docs/RULES.md, 'Exposures'): what is taken of a walk's reports, and which exposures demand 3 speaks of.
use Rattle.std.specs.Prelude.{ℕ, ◌+◌, ◌-◌, List, [], ◌∷◌, map, Bool, true, ◌&&◌, leb, length, take, drop}
use Rattle.nal.specs.declared.header.NalHeader.{NalHeader}
use Rattle.nal.specs.Header.{nal_ref_idc}
use Rattle.table.specs.declared.table.Table.{Table}
use Rattle.unit.specs.declared.answer.UnitRead.{UnitRead}
use Rattle.unit.specs.Begin.{type_in}
use Rattle.walk.specs.Units.{Report}
use Rattle.walk.specs.Walked.{table_after}
use Rattle.walk.specs.Reports.{reports, sift, starts_from, starts_before, ends_before, table_at}
use Rattle.exposures.specs.declared.slice.Slice.{Slice}
use Rattle.exposures.specs.declared.slice.Item.{Item}
use Rattle.exposures.specs.declared.exposure.Exposure.{Exposure}
use Rattle.exposures.specs.Pictures.{Picture, slices_in, exposures}
use Rattle.exposures.specs.Torn.{goes_on}
use Rattle.exposures.specs.Moved.{move_exposure}
use Rattle.stacking.specs.Item.{item_of}
use Rattle.promises.specs.Demands.{one_of, first_of}

-- the first byte of a report's unit, which stands in the recording s
abbrev pub head_in : List ℕ → Report UnitRead → NalHeader
head_in s u = record { 0 = first_of (take u.size (drop u.place s)) }

-- a report's item, by its place, its unit's head, its answer and header, and the table t by which the unit was read
abbrev pub item_at : List ℕ → Table → Report UnitRead → Item
item_at s t u = item_of t u.place (type_in (head_in s u)) (nal_ref_idc (head_in s u)) u.read.answer u.read.header

-- those of reports in order: each by the table that the reports before it leave
abbrev pub items_of : List ℕ → Table → List (Report UnitRead) → List Item
items_of s t [] = []
items_of s t (u ∷ us) = item_at s t u ∷ items_of s (table_after t u.read.answer) us

-- of a walk over the recording s: its items, and its exposures
abbrev pub items : Table → List ℕ → List ℕ → List Item
items t scratch s = items_of s t (reports t scratch s)

abbrev pub exposures_in : Table → List ℕ → List ℕ → List Exposure
exposures_in t scratch s = exposures (items t scratch s)

-- ---- what begins at k or later

-- the units whose start code lies wholly before k, and those whose start code begins at k or later
abbrev pub items_before : Table → List ℕ → List ℕ → ℕ → List Item
items_before t scratch s k = items_of s t (starts_before k (reports t scratch s))

abbrev pub items_from : Table → List ℕ → List ℕ → ℕ → List Item
items_from t scratch s k = items_of s (table_at t scratch s k) (starts_from k (reports t scratch s))

-- the first slice from k on is alike to the last before k: a picture goes on across k
abbrev pub goes_across : Table → List ℕ → List ℕ → ℕ → Bool
goes_across t scratch s k = goes_on (items_before t scratch s k) (items_from t scratch s k)

-- all slices of a picture lie from k on

abbrev pub each_slice : (ℕ → Bool) → List Slice → Bool
each_slice q [] = true
each_slice q (a ∷ r) = q a.place && each_slice q r

abbrev pub lies_from : ℕ → Picture → Bool
lies_from k p = each_slice (leb (k + 3)) (slices_in p)

-- the exposures of such pictures: they stand from k on (`exposures-whole`). Places are counted from the recording's end
abbrev pub late_exposures : Table → List ℕ → List ℕ → ℕ → List Exposure
late_exposures t scratch s k = map (move_exposure (λ p. length s - p)) (sift (λ (e : Exposure). leb (k + 3) e.place) (exposures_in t scratch s))

-- of exposures es, those at whose place one of fs begins too
abbrev pub in_both : List Exposure → List Exposure → List Exposure
in_both es fs = sift (λ (e : Exposure). one_of (map (λ (f : Exposure). f.place) fs) e.place) es

-- ---- what ends before k

-- the units whose end mark lies wholly before k
abbrev pub items_ended : Table → List ℕ → List ℕ → ℕ → List Item
items_ended t scratch s k = items_of s t (ends_before k (reports t scratch s))

-- the recording's exposures of their pictures, but the last, which may go on
abbrev pub early_exposures : Table → List ℕ → List ℕ → ℕ → List Exposure
early_exposures t scratch s k = take (length (exposures (items_ended t scratch s k)) - 1) (exposures_in t scratch s)
