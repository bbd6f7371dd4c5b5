-- Units at other places have the same exposures at other places: pictures do not go by places.
use Prim.Native.Nat.{ℕ, zero, suc}
use mathlib.Core.Path.{◌≡◌, refl, sym, ap}
use mathlib.Core.Bool.{Bool, true, false}
use mathlib.Core.List.{List, [], ◌∷◌, ◌++◌, map, map-append}
use lib.IntN.{ℤ}
use lib.ListN.{length, drop, length-map}
use Rattle.bits.specs.Refusals.{pick}
use Rattle.exposures.specs.declared.slice.Slice.{Slice}
use Rattle.exposures.specs.declared.slice.Kind.{Kind}
use Rattle.exposures.specs.declared.slice.Item.{Item}
use Rattle.exposures.specs.Compare.{frames, fields, references, counts0, counts1, idrs, differ, gap_after}
use Rattle.exposures.specs.Exposure.{lesser, greater, plus, over, exposure_of}
use Rattle.exposures.specs.Pictures.{slices_of, last_of, same, those, Picture, rest_of, joined, cut, refused_in, gap_to, exposures_from, exposures}
use Rattle.exposures.specs.Torn.{joins, goes_on, begun_in}
use Rattle.exposures.specs.Moved.{move_slice, move_item, move_exposure}

pub drop-map : {A B : Type 0} (f : A → B) (n : ℕ) (l : List A) → map f (drop n l) ≡ drop n (map f l)
drop-map f zero l = refl
drop-map f (suc n) [] = refl
drop-map f (suc n) (x ∷ l) = drop-map f n l

module _ (f : ℕ → ℕ) where
  abbrev move_picture : Picture → Picture
  move_picture p = record { first = move_slice f p.first; behind = map (move_item f) p.behind }

  differ-moved : (a b : Slice) → differ (move_slice f a) (move_slice f b) ≡ differ a b
  unfolding differ frames fields references counts0 counts1 idrs
  differ-moved a b = refl

  slices-moved : (l : List Item) → slices_of (map (move_item f) l) ≡ map (move_slice f) (slices_of l)
  slices-moved [] = refl
  slices-moved (Item.Slice s ∷ r) = rw (slices-moved r)
  slices-moved (Item.Unit k ∷ r) = slices-moved r

  those-moved : (j : Kind) (l : List Item) → those j (map (move_item f) l) ≡ those j l
  those-moved j [] = refl
  those-moved j (Item.Slice s ∷ r) = those-moved j r
  those-moved j (Item.Unit k ∷ r) = ap (λ (m : List Kind). pick (same k j) (k ∷ m) m) (those-moved j r)

  over-moved : (g : ℤ → ℤ → ℤ) (x : ℤ) (l : List Slice) → over g x (map (move_slice f) l) ≡ over g x l
  over-moved g x [] = refl
  over-moved g x (a ∷ r) = over-moved g (g x a.qp) r

  joined-moved : (a : Slice) (l : List Item) (ps : List Picture) → joined (move_slice f a) (map (move_item f) l) (map move_picture ps) ≡ map move_picture (joined a l ps)
  joined-moved a l [] = refl
  joined-moved a l (p ∷ ps) = rw (differ-moved a p.first) (go (differ a p.first))
    where
      go : (b : Bool)
          → pick b (record { first = move_slice f a; behind = map (move_item f) l } ∷ move_picture p ∷ map move_picture ps)
          (record { first = move_slice f a; behind = map (move_item f) l ++ Item.Slice (move_slice f p.first) ∷ map (move_item f) p.behind } ∷ map move_picture ps)
          ≡ map move_picture (pick b (record { first = a; behind = l } ∷ p ∷ ps) (record { first = a; behind = l ++ Item.Slice p.first ∷ p.behind } ∷ ps))
      go true = refl
      go false = rw (map-append (move_item f) l (Item.Slice p.first ∷ p.behind))

  cut_moved : (l : List Item) → cut (map (move_item f) l) ≡ record { lead = map (move_item f) (cut l).lead; pictures = map move_picture (cut l).pictures }
  cut_moved [] = refl
  cut_moved (Item.Slice a ∷ r) = rw (cut_moved r, joined-moved a (cut r).lead (cut r).pictures)
  cut_moved (Item.Unit k ∷ r) = rw (cut_moved r)

  gap-moved : (p : Picture) (ps : List Picture) → gap_to (move_picture p) (map move_picture ps) ≡ gap_to p ps
  unfolding gap_after
  gap-moved p [] = refl
  gap-moved p (q ∷ qs) = refl

  one-moved : (g : Bool) (n : ℕ) (p : Picture) → exposure_of g n (move_slice f p.first) (rest_of (move_picture p)) ≡ move_exposure f (exposure_of g n p.first (rest_of p))
  unfolding exposure_of
  one-moved g n p =
      rw (
        slices-moved p.behind,
        over-moved lesser p.first.qp (rest_of p),
        over-moved greater p.first.qp (rest_of p),
        over-moved plus p.first.qp (rest_of p),
        length-map (rest_of p) (move_slice f),
      )

  all_moved : (g : Bool) (n : ℕ) (ps : List Picture) → exposures_from g n (map move_picture ps) ≡ map (move_exposure f) (exposures_from g n ps)
  all_moved g n [] = refl
  all_moved g n (p ∷ ps) = rw (one-moved g n p, gap-moved p ps, those-moved Kind.Refused p.behind, all_moved (gap_to p ps) (refused_in p.behind) ps)

  -- for every list: moved, it has the same exposures, moved
  pub exposures-moved : (l : List Item) → exposures (map (move_item f) l) ≡ map (move_exposure f) (exposures l)
  unfolding exposures
  exposures-moved l = rw (cut_moved l, those-moved Kind.Refused (cut l).lead) (all_moved false (refused_in (cut l).lead) (cut l).pictures)

  -- so has the part that begins behind another list
  pub begun-moved : (X S : List Item) → begun_in (map (move_item f) X) (map (move_item f) S) ≡ map (move_exposure f) (begun_in X S)
  begun-moved X S =
      rw (← map-append (move_item f) X S, exposures-moved X, exposures-moved (X ++ S), length-map (exposures X) (move_exposure f)) (sym (drop-map (move_exposure f) (length (exposures X)) (exposures (X ++ S))))

  last-moved : (a : Slice) (l : List Slice) → last_of (move_slice f a) (map (move_slice f) l) ≡ move_slice f (last_of a l)
  last-moved a [] = refl
  last-moved a (b ∷ l) = last-moved b l

  -- and it goes on with that list where it did
  pub goes_moved : (X S : List Item) → goes_on (map (move_item f) X) (map (move_item f) S) ≡ goes_on X S
  goes_moved X S = rw (slices-moved X, slices-moved S) (go (slices_of X) (slices_of S))
    where
      go : (l m : List Slice) → joins (map (move_slice f) l) (map (move_slice f) m) ≡ joins l m
      go [] m = refl
      go (a ∷ l) [] = refl
      go (a ∷ l) (b ∷ m) = rw (last-moved a l, differ-moved (last_of a l) b)
