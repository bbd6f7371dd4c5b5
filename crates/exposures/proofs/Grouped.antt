-- The pictures of a list: they hold all of it in order, their slices are its slices, neighbours in a picture are alike, and pictures part where they are not.
use mathlib.Core.Path.{◌≡◌, refl, sym, ap, ◌∙◌}
use mathlib.Core.Bool.{Bool, true, false}
use mathlib.Core.List.{List, [], ◌∷◌, ◌++◌, append_assoc}
use Rattle.bits.specs.Refusals.{pick}
use Rattle.exposures.specs.declared.slice.Slice.{Slice}
use Rattle.exposures.specs.declared.slice.Item.{Item}
use Rattle.exposures.specs.Compare.{differ}
use Rattle.exposures.specs.Pictures.{slices_of, Picture, rest_of, slices_in, last_of, last_in, joined, cut}
use Rattle.exposures.proofs.Lists.{slices-append}

-- ---- all of the list

-- the units of pictures, one picture after another
abbrev pub units_in : List Picture → List Item
units_in [] = []
units_in (p ∷ ps) = Item.Slice p.first ∷ (p.behind ++ units_in ps)

-- and their slices
abbrev pub slices_in_all : List Picture → List Slice
slices_in_all [] = []
slices_in_all (p ∷ ps) = slices_in p ++ slices_in_all ps

joined-units : (a : Slice) (l : List Item) (ps : List Picture) → units_in (joined a l ps) ≡ Item.Slice a ∷ (l ++ units_in ps)
joined-units a l [] = refl
joined-units a l (p ∷ ps) = go (differ a p.first)
  where
    go : (b : Bool) → units_in (pick b (record { first = a; behind = l } ∷ p ∷ ps) (record { first = a; behind = l ++ Item.Slice p.first ∷ p.behind } ∷ ps))
        ≡ Item.Slice a ∷ (l ++ units_in (p ∷ ps))
    go true = refl
    go false = rw (append_assoc l (Item.Slice p.first ∷ p.behind) (units_in ps))

-- what stands before the first slice, and the pictures' units, are the list
pub pictures-whole : (l : List Item) → (cut l).lead ++ units_in (cut l).pictures ≡ l
pictures-whole [] = refl
pictures-whole (Item.Slice a ∷ r) = joined-units a (cut r).lead (cut r).pictures ∙ ap (λ (m : List Item). Item.Slice a ∷ m) (pictures-whole r)
pictures-whole (Item.Unit k ∷ r) = ap (λ (m : List Item). Item.Unit k ∷ m) (pictures-whole r)

-- no slice stands before the first
pub lead-none : (l : List Item) → slices_of (cut l).lead ≡ []
lead-none [] = refl
lead-none (Item.Slice a ∷ r) = refl
lead-none (Item.Unit k ∷ r) = lead-none r

units-slices : (ps : List Picture) → slices_of (units_in ps) ≡ slices_in_all ps
units-slices [] = refl
units-slices (p ∷ ps) = rw (slices-append p.behind (units_in ps), units-slices ps)

-- the pictures' slices, joined in order, are the list's slices, each once
pub pictures-partition : (l : List Item) → slices_in_all (cut l).pictures ≡ slices_of l
pictures-partition l =
    sym (units-slices (cut l).pictures) ∙ sym (ap (λ (m : List Slice). m ++ slices_of (units_in (cut l).pictures)) (lead-none l))
    ∙ sym (slices-append (cut l).lead (units_in (cut l).pictures)) ∙ ap slices_of (pictures-whole l)

-- ---- neighbours

-- each slice is alike to the one before it
abbrev pub Alike : Slice → List Slice → Type 0
Alike x [] = Unit {0}
Alike x (a ∷ r) = (differ x a ≡ false) × Alike a r

-- the last slice of a picture is not alike to the first of the next
abbrev pub Parts : Picture → List Picture → Type 0
Parts p [] = Unit {0}
Parts p (q ∷ qs) = differ (last_in p) q.first ≡ true

-- so it is in each picture, and between each and the next
abbrev pub Grouped : List Picture → Type 0
Grouped [] = Unit {0}
Grouped (p ∷ ps) = Alike p.first (rest_of p) × Parts p ps × Grouped ps

parts-by : (p q : Picture) (ps : List Picture) → last_in p ≡ last_in q → Parts q ps → Parts p ps
parts-by p q [] e h = tt
parts-by p q (r ∷ rs) e h = rw e h

joined-grouped : (a : Slice) (l : List Item) (ps : List Picture) → slices_of l ≡ [] → Grouped ps → Grouped (joined a l ps)
joined-grouped a l [] e g = (rw e tt, tt, tt)
joined-grouped a l (p ∷ ps) e g = go (differ a p.first) refl
  where
    m : slices_of (l ++ Item.Slice p.first ∷ p.behind) ≡ p.first ∷ rest_of p
    m = slices-append l (Item.Slice p.first ∷ p.behind) ∙ ap (λ (x : List Slice). x ++ p.first ∷ rest_of p) e

    go : (b : Bool) → differ a p.first ≡ b
        → Grouped (pick b (record { first = a; behind = l } ∷ p ∷ ps) (record { first = a; behind = l ++ Item.Slice p.first ∷ p.behind } ∷ ps))
    go true h = (rw e tt, rw e h, g)
    go false h = (
      rw m (h, g.0),
      parts-by (record { first = a; behind = l ++ Item.Slice p.first ∷ p.behind }) p ps (ap (last_of a) m) g.1,
      g.2,
    )

-- for every list: neighbouring slices of a picture are alike by the comparison, and the first of the next is not alike to the last of the one before
pub pictures-grouped : (l : List Item) → Grouped (cut l).pictures
pictures-grouped [] = tt
pictures-grouped (Item.Slice a ∷ r) = joined-grouped a (cut r).lead (cut r).pictures (lead-none r) (pictures-grouped r)
pictures-grouped (Item.Unit k ∷ r) = pictures-grouped r
