-- Taking a list's units one by one gives the exposures of its pictures.
use Prim.Native.Nat.{ℕ, suc}
use mathlib.Core.Path.{◌≡◌, refl, ap, ◌∙◌}
use mathlib.Core.Bool.{Bool, true, false}
use mathlib.Core.List.{List, [], ◌∷◌, ◌++◌, append-nil, append_assoc}
use native.Mathlib.Omega.{arith}
use lib.ListN.{length, length-append}
use Rattle.bits.specs.Refusals.{pick}
use Rattle.bits.proofs.Results.{cases}
use Rattle.exposures.specs.declared.slice.Slice.{Slice}
use Rattle.exposures.specs.declared.slice.Kind.{Kind}
use Rattle.exposures.specs.declared.slice.Item.{Item}
use Rattle.exposures.specs.declared.counts.Counts.{Counts}
use Rattle.exposures.specs.Compare.{differ, gap_after}
use Rattle.exposures.specs.Exposure.{held, lesser, greater, plus, exposure_of, one_slice, more}
use Rattle.exposures.specs.Pictures.{slices_of, same, those, Picture, rest_of, last_in, joined, cut, refused_in, gap_to, exposures_from, exposures}
use Rattle.exposures.specs.Take.{State, no_slice, no_counts, start, counted, still, opened, slice_taken, refused_with, unit_taken, take_of, finish_of, run}
use Rattle.exposures.proofs.Lists.{slices-append, those-append, over-append, last-append, held-suc}
use Rattle.std.specs.Prelude.{Some}

-- ---- a picture so far

-- its first slice alone
abbrev pub alone : Slice → Picture
alone a = record { first = a; behind = [] }

-- with units behind it
abbrev pub grown : Picture → List Item → Picture
grown p l = record { first = p.first; behind = p.behind ++ l }

-- the state while it is the last picture
abbrev pub during : Bool → ℕ → Picture → Counts → State
during gap before p c =
    record {
      begun = true;
      exposure = exposure_of gap before p.first (rest_of p);
      last = last_in p;
      refused_since = held (refused_in p.behind);
      counts = c;
    }

-- as it begins
pub opened-is : (gap : Bool) (n : ℕ) (a : Slice) (c : Counts) → opened a gap (held n) c ≡ during gap n (alone a) c
unfolding opened one_slice exposure_of held
opened-is gap n a c = refl

-- one slice more
one_more : (gap : Bool) (n : ℕ) (f a : Slice) (l : List Slice) → more (exposure_of gap n f l) a ≡ exposure_of gap n f (l ++ (a ∷ []))
unfolding more exposure_of
one_more gap n f a l =
    let e : length (l ++ (a ∷ [])) ≡ suc (length l) = simp length-append (omega arith) in
    rw (over-append lesser f.qp l (a ∷ []), over-append greater f.qp l (a ∷ []), over-append plus f.qp l (a ∷ []), e, held-suc (suc (length l)))

-- a slice behind a picture leaves its refused units as they were
refused-slice : (l : List Item) (a : Slice) → refused_in (l ++ (Item.Slice a ∷ [])) ≡ refused_in l
refused-slice l a = rw (those-append Kind.Refused l (Item.Slice a ∷ []), append-nil)

-- a unit that is not grouped leaves its slices as they were
pub rest-unit : (l : List Item) (k : Kind) → slices_of (l ++ (Item.Unit k ∷ [])) ≡ slices_of l
rest-unit l k = rw (slices-append l (Item.Unit k ∷ []), append-nil)

pub refused-unit : (l : List Item) (k : Kind) → refused_with (held (refused_in l)) k ≡ held (refused_in (l ++ (Item.Unit k ∷ [])))
refused-unit l k = rw (those-append Kind.Refused l (Item.Unit k ∷ [])) (go (same k Kind.Refused))
  where
    go : (b : Bool) → pick b (held (suc (held (refused_in l)))) (held (refused_in l)) ≡ held (length (those Kind.Refused l ++ pick b (k ∷ []) []))
    go true = let e : length (those Kind.Refused l ++ (k ∷ [])) ≡ suc (refused_in l) = simp length-append (omega arith) in rw (e, held-suc (refused_in l))
    go false = rw append-nil

-- ---- a step

module _ (gap : Bool) (before : ℕ) (p : Picture) (c : Counts) where
  pub alike : (a : Slice) → differ (last_in p) a ≡ false
      → take_of (during gap before p c) (Item.Slice a) ≡ still (during gap before (grown p (Item.Slice a ∷ [])) (counted c (Item.Slice a)))
  unfolding slice_taken
  alike a h =
      rw (h, one_more gap before p.first a (rest_of p), slices-append p.behind (Item.Slice a ∷ []), refused-slice p.behind a, last-append p.first (rest_of p) (a ∷ []))

  pub new : (a : Slice) → differ (last_in p) a ≡ true
      → take_of (during gap before p c) (Item.Slice a)
      ≡ record {
        state = during (gap_after p.first.frame_num a) (refused_in p.behind) (alone a) (counted c (Item.Slice a));
        closed = Some (exposure_of gap before p.first (rest_of p));
      }
  unfolding slice_taken opened held exposure_of one_slice
  new a h = rw h

  pub passed : (k : Kind) → take_of (during gap before p c) (Item.Unit k) ≡ still (during gap before (grown p (Item.Unit k ∷ [])) (counted c (Item.Unit k)))
  unfolding unit_taken
  passed k = rw (rest-unit p.behind k, refused-unit p.behind k)

-- ---- units one after another

-- the pictures of what comes behind a picture, with l before the first slice of it
abbrev pub onto : Picture → List Item → List Picture → List Picture
onto p l [] = grown p l ∷ []
onto p l (q ∷ qs) = pick (differ (last_in p) q.first) (grown p l ∷ q ∷ qs) (grown p (l ++ Item.Slice q.first ∷ q.behind) ∷ qs)

onto-alone : (a : Slice) (l : List Item) (ps : List Picture) → onto (alone a) l ps ≡ joined a l ps
onto-alone a l [] = refl
onto-alone a l (q ∷ qs) = refl

grown-nil : (p : Picture) → grown p [] ≡ p
grown-nil p = rw (append-nil p.behind)

grown-grown : (p : Picture) (x : Item) (l : List Item) → grown (grown p (x ∷ [])) l ≡ grown p (x ∷ l)
grown-grown p x l = rw (append_assoc p.behind (x ∷ []) l)

-- a unit that is not grouped may stand behind the picture or before what comes
onto-unit : (p : Picture) (k : Kind) (l : List Item) (ps : List Picture) → onto (grown p (Item.Unit k ∷ [])) l ps ≡ onto p (Item.Unit k ∷ l) ps
onto-unit p k l [] = rw (grown-grown p (Item.Unit k) l)
onto-unit p k l (q ∷ qs) = rw (rest-unit p.behind k, grown-grown p (Item.Unit k) l, grown-grown p (Item.Unit k) (l ++ Item.Slice q.first ∷ q.behind))

-- and so a slice that is alike
onto-slice : (p : Picture) (a : Slice) (l : List Item) (ps : List Picture) → differ (last_in p) a ≡ false → onto (grown p (Item.Slice a ∷ [])) l ps ≡ onto p [] (joined a l ps)
onto-slice p a l [] h = rw (h, grown-grown p (Item.Slice a) l)
onto-slice p a l (q ∷ qs) h = rw (slices-append p.behind (Item.Slice a ∷ []), last-append p.first (rest_of p) (a ∷ [])) (go (differ a q.first))
  where
    go : (b : Bool) → pick b (grown (grown p (Item.Slice a ∷ [])) l ∷ q ∷ qs) (grown (grown p (Item.Slice a ∷ [])) (l ++ Item.Slice q.first ∷ q.behind) ∷ qs)
        ≡ onto p [] (pick b (record { first = a; behind = l } ∷ q ∷ qs) (record { first = a; behind = l ++ Item.Slice q.first ∷ q.behind } ∷ qs))
    go true = rw (h, grown-grown p (Item.Slice a) l)
    go false = rw (h, grown-grown p (Item.Slice a) (l ++ Item.Slice q.first ∷ q.behind))

-- a slice that differs begins the next picture
onto-new : (p : Picture) (a : Slice) (l : List Item) (ps : List Picture) → differ (last_in p) a ≡ true → onto p [] (joined a l ps) ≡ p ∷ joined a l ps
onto-new p a l [] h = rw (h, grown-nil p)
onto-new p a l (q ∷ qs) h = go (differ a q.first)
  where
    go : (b : Bool) → onto p [] (pick b (record { first = a; behind = l } ∷ q ∷ qs) (record { first = a; behind = l ++ Item.Slice q.first ∷ q.behind } ∷ qs))
        ≡ p ∷ pick b (record { first = a; behind = l } ∷ q ∷ qs) (record { first = a; behind = l ++ Item.Slice q.first ∷ q.behind } ∷ qs)
    go true = rw (h, grown-nil p)
    go false = rw (h, grown-nil p)

-- the gap before joined pictures is that before their first slice
gap-joined : (p : Picture) (a : Slice) (l : List Item) (ps : List Picture) → gap_to p (joined a l ps) ≡ gap_after p.first.frame_num a
gap-joined p a l [] = refl
gap-joined p a l (q ∷ qs) = go (differ a q.first)
  where
    go : (b : Bool) → gap_to p (pick b (record { first = a; behind = l } ∷ q ∷ qs) (record { first = a; behind = l ++ Item.Slice q.first ∷ q.behind } ∷ qs)) ≡ gap_after p.first.frame_num a
    go true = refl
    go false = refl

-- from a picture on
pub along : (gap : Bool) (before : ℕ) (p : Picture) (c : Counts) (l : List Item) → run (during gap before p c) l ≡ exposures_from gap before (onto p (cut l).lead (cut l).pictures)
unfolding finish_of
along gap before p c [] = rw (append-nil p.behind)
along gap before p c (Item.Unit k ∷ r) =
    rw (passed gap before p c k)
    (along gap before (grown p (Item.Unit k ∷ [])) (counted c (Item.Unit k)) r ∙ ap (exposures_from gap before) (onto-unit p k (cut r).lead (cut r).pictures))
along gap before p c (Item.Slice a ∷ r) =
    cases (differ (last_in p) a)
    (λ h. rw (
      new gap before p c a h,
      along (gap_after p.first.frame_num a) (refused_in p.behind) (alone a) (counted c (Item.Slice a)) r,
      onto-alone a (cut r).lead (cut r).pictures,
      onto-new p a (cut r).lead (cut r).pictures h,
      gap-joined p a (cut r).lead (cut r).pictures,
    ))
    (λ h. rw (alike gap before p c a h)
    (along gap before (grown p (Item.Slice a ∷ [])) (counted c (Item.Slice a)) r ∙ ap (exposures_from gap before) (onto-slice p a (cut r).lead (cut r).pictures h)))

-- before the first slice, with l taken
abbrev pub waiting : List Item → Counts → State
waiting l c = record { begun = false; exposure = one_slice false 0 no_slice; last = no_slice; refused_since = held (refused_in l); counts = c }

pub from_start : (k : List Item) (c : Counts) (l : List Item) → run (waiting k c) l ≡ exposures_from false (refused_in (k ++ (cut l).lead)) (cut l).pictures
unfolding finish_of slice_taken unit_taken
from_start k c [] = refl
from_start k c (Item.Unit j ∷ r) =
    rw (refused-unit k j, ← append_assoc k (Item.Unit j ∷ []) (cut r).lead) (from_start (k ++ (Item.Unit j ∷ [])) (counted c (Item.Unit j)) r)
from_start k c (Item.Slice a ∷ r) =
    rw (opened-is false (refused_in k) a (counted c (Item.Slice a)), append-nil k)
    (along false (refused_in k) (alone a) (counted c (Item.Slice a)) r ∙ ap (exposures_from false (refused_in k)) (onto-alone a (cut r).lead (cut r).pictures))

-- for every list: taken one by one from the start, and then the end, its units close the exposures of its pictures, in order
pub taken-exposures : (l : List Item) → run start l ≡ exposures l
unfolding start exposures held
taken-exposures l = from_start [] no_counts l
