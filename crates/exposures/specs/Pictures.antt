-- The pictures of a list of units, and their exposures (docs/RULES.md, 'Exposures').
use Rattle.std.specs.Prelude.{ℕ, Bool, false, List, [], ◌∷◌, ◌++◌, eqb, length}
use Rattle.bits.specs.Refusals.{pick}
use Rattle.exposures.specs.declared.slice.Slice.{Slice}
use Rattle.exposures.specs.declared.slice.Kind.{Kind}
use Rattle.exposures.specs.declared.slice.Item.{Item}
use Rattle.exposures.specs.declared.counts.Counts.{Counts}
use Rattle.exposures.specs.declared.exposure.Exposure.{Exposure}
use Rattle.exposures.specs.Compare.{differ, gap_after}
use Rattle.exposures.specs.Exposure.{held, exposure_of}

-- ---- parts of a list of units

abbrev pub slices_of : List Item → List Slice
slices_of [] = []
slices_of (Item.Slice s ∷ r) = s ∷ slices_of r
slices_of (Item.Unit k ∷ r) = slices_of r

-- a number for each kind, to tell them apart by
abbrev pub kind_number : Kind → ℕ
kind_number Kind.Redundant = 0
kind_number Kind.Refused = 1
kind_number Kind.«Prefix» = 2
kind_number Kind.View = 3
kind_number Kind.Other = 4

abbrev pub same : Kind → Kind → Bool
same k j = eqb (kind_number k) (kind_number j)

-- those that are not grouped, and of one kind
abbrev pub those : Kind → List Item → List Kind
those j [] = []
those j (Item.Slice s ∷ r) = those j r
those j (Item.Unit k ∷ r) = pick (same k j) (k ∷ those j r) (those j r)

-- how many there are of each kind
unfoldable pub counts_of : List Item → Counts
counts_of l =
    record {
      slices = held (length (slices_of l));
      redundant = held (length (those Kind.Redundant l));
      refused = held (length (those Kind.Refused l));
      prefixes = held (length (those Kind.«Prefix» l));
      views = held (length (those Kind.View l));
      others = held (length (those Kind.Other l));
    }

-- ---- pictures

-- a picture: its first slice, and what stands behind that, up to the next picture's first slice or the end
pub record Picture : Type 0 where
  pub first : Slice
  pub behind : List Item

-- its slices: the first and the rest
abbrev pub rest_of : Picture → List Slice
rest_of p = slices_of p.behind

abbrev pub slices_in : Picture → List Slice
slices_in p = p.first ∷ rest_of p

-- the last of a slice and those behind it
abbrev pub last_of : Slice → List Slice → Slice
last_of x [] = x
last_of x (a ∷ r) = last_of a r

abbrev pub last_in : Picture → Slice
last_in p = last_of p.first (rest_of p)

-- a list cut where pictures begin: what stands before the first slice, and the pictures
pub record Cut : Type 0 where
  pub lead : List Item
  pub pictures : List Picture

-- a slice, what stands behind it up to the next slice, and the pictures from that on: the next slice begins a picture of its own if the two differ
abbrev pub joined : Slice → List Item → List Picture → List Picture
joined a l [] = record { first = a; behind = l } ∷ []
joined a l (p ∷ ps) =
    pick (differ a p.first) (record { first = a; behind = l } ∷ p ∷ ps)
    (record { first = a; behind = l ++ Item.Slice p.first ∷ p.behind } ∷ ps)

abbrev pub cut : List Item → Cut
cut [] = record { lead = []; pictures = [] }
cut (Item.Slice a ∷ r) = record { lead = []; pictures = joined a (cut r).lead (cut r).pictures }
cut (Item.Unit k ∷ r) = record { lead = Item.Unit k ∷ (cut r).lead; pictures = (cut r).pictures }

-- ---- exposures

abbrev pub refused_in : List Item → ℕ
refused_in l = length (those Kind.Refused l)

-- whether frames are missing between a picture and the next
abbrev pub gap_to : Picture → List Picture → Bool
gap_to p [] = false
gap_to p (q ∷ qs) = gap_after p.first.frame_num q.first

-- of pictures one after another: before the first of them frames are missing or not, and so many units were refused
abbrev pub exposures_from : Bool → ℕ → List Picture → List Exposure
exposures_from gap before [] = []
exposures_from gap before (p ∷ ps) = exposure_of gap before p.first (rest_of p) ∷ exposures_from (gap_to p ps) (refused_in p.behind) ps

-- of all pictures of a list: before the first no frame is missing
unfoldable pub exposures : List Item → List Exposure
exposures l = exposures_from false (refused_in (cut l).lead) (cut l).pictures
