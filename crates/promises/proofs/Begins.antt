-- Which exposures begin in S, by places: where slices of X stand at places that a test fails, and those of S at places that pass it, they are the exposures that pass.
use Prim.Native.Nat.{ℕ, zero, suc}
use mathlib.Core.Path.{◌≡◌, refl, sym, ap, ◌∙◌}
use mathlib.Core.List.{List, [], ◌∷◌, ◌++◌}
use mathlib.Core.Bool.{Bool, true, false, true≢false, false≢true}
use lib.ListN.{length, drop}
use Rattle.bits.specs.Refusals.{pick}
use Rattle.walk.specs.Reports.{sift}
use Rattle.exposures.specs.declared.slice.Slice.{Slice}
use Rattle.exposures.specs.declared.slice.Item.{Item}
use Rattle.exposures.specs.declared.exposure.Exposure.{Exposure}
use Rattle.exposures.specs.Compare.{differ}
use Rattle.exposures.specs.Exposure.{exposure_of}
use Rattle.exposures.specs.Pictures.{slices_of, Picture, rest_of, slices_in, joined, cut, refused_in, gap_to, exposures_from, exposures}
use Rattle.exposures.specs.Torn.{begun_in}
use Rattle.exposures.proofs.Lists.{slices-append}
use Rattle.exposures.proofs.Grouped.{lead-none, slices_in_all, pictures-partition}
use Rattle.promises.specs.Exposures.{each_slice}

module _ (q : ℕ → Bool) where
  -- every slice of a list passes, or fails
  abbrev pub Each : Bool → List Item → Type 0
  Each b [] = Unit {0}
  Each b (Item.Slice s ∷ r) = (q s.place ≡ b) × Each b r
  Each b (Item.Unit k ∷ r) = Each b r

  -- all slices of pictures pass; or the first slices of the first n fail
  abbrev Passed : List Picture → Type 0
  Passed [] = Unit {0}
  Passed (p ∷ ps) = (q p.first.place ≡ true) × ((each_slice q (rest_of p) ≡ true) × Passed ps)

  abbrev Split : ℕ → List Picture → Type 0
  Split zero ps = Passed ps
  Split (suc n) [] = ⊥
  Split (suc n) (p ∷ ps) = (q p.first.place ≡ false) × Split n ps

  passed-cut : (l : List Item) → Each true l → Passed (cut l).pictures
  passed-cut [] h = tt
  passed-cut (Item.Unit k ∷ r) h = passed-cut r h
  passed-cut (Item.Slice a ∷ r) h = go (cut r).pictures (passed-cut r h.1)
    where
      pair : (p : Picture) (ps : List Picture) → Passed (p ∷ ps) → (b : Bool)
          → Passed (pick b (record { first = a; behind = (cut r).lead } ∷ p ∷ ps) (record { first = a; behind = (cut r).lead ++ Item.Slice p.first ∷ p.behind } ∷ ps))
      pair p ps g true = (h.0, (rw (lead-none r), g))
      pair p ps g false = (h.0, (rw (slices-append (cut r).lead (Item.Slice p.first ∷ p.behind), lead-none r, g.0) g.1.0, g.1.1))

      go : (ps : List Picture) → Passed ps → Passed (joined a (cut r).lead ps)
      go [] g = (h.0, (rw (lead-none r), tt))
      go (p ∷ ps) g = pair p ps g (differ a p.first)

  -- with more behind it, a list's first picture has the same first slice
  abbrev SameFirst : List Picture → List Picture → Type 0
  SameFirst [] qs = Unit {0}
  SameFirst (p ∷ ps) [] = Unit {0}
  SameFirst (p ∷ ps) (r ∷ rs) = r.first ≡ p.first

  same_first : (r S : List Item) → SameFirst (cut r).pictures (cut (r ++ S)).pictures
  same_first r S = go (cut r).pictures (cut (r ++ S)).pictures (pictures-partition r) (pictures-partition (r ++ S) ∙ slices-append r S)
    where
      go : (ps rs : List Picture) → slices_in_all ps ≡ slices_of r → slices_in_all rs ≡ slices_of r ++ slices_of S → SameFirst ps rs
      go [] rs e f = tt
      go (p ∷ ps) [] e f = tt
      go (p ∷ ps) (x ∷ xs) e f =
          let z : x.first ∷ (rest_of x ++ slices_in_all xs) ≡ p.first ∷ (rest_of p ++ slices_in_all ps ++ slices_of S) = f ∙ ap (λ (l : List Slice). l ++ slices_of S) (sym e) in
          cc

  split-joined : (a : Slice) → q a.place ≡ false → (l m : List Item) (ps rs : List Picture) → SameFirst ps rs → Split (length ps) rs → Split (length (joined a l ps)) (joined a m rs)
  split-joined a h l m [] [] e g = (h, tt)
  split-joined a h l m [] (x ∷ xs) e g = go (differ a x.first)
    where
      go : (b : Bool) → Split 1 (pick b (record { first = a; behind = m } ∷ x ∷ xs) (record { first = a; behind = m ++ Item.Slice x.first ∷ x.behind } ∷ xs))
      go true = (h, g)
      go false = (h, g.1.1)
  split-joined a h l m (p ∷ ps) [] e g = absurd g
  split-joined a h l m (p ∷ ps) (x ∷ xs) e g = go (differ a p.first) (differ a x.first) (ap (differ a) e)
    where
      go : (b c : Bool) → c ≡ b
          → Split (length (pick b (record { first = a; behind = l } ∷ p ∷ ps) (record { first = a; behind = l ++ Item.Slice p.first ∷ p.behind } ∷ ps)))
          (pick c (record { first = a; behind = m } ∷ x ∷ xs) (record { first = a; behind = m ++ Item.Slice x.first ∷ x.behind } ∷ xs))
      go true true k = (h, g)
      go false false k = (h, g.1)
      go true false k = absurd (false≢true k)
      go false true k = absurd (true≢false k)

  split-cut : (X S : List Item) → Each false X → Each true S → Split (length (cut X).pictures) (cut (X ++ S)).pictures
  split-cut [] S h g = passed-cut S g
  split-cut (Item.Unit k ∷ r) S h g = split-cut r S h g
  split-cut (Item.Slice a ∷ r) S h g = split-joined a h.0 (cut r).lead (cut (r ++ S)).lead (cut r).pictures (cut (r ++ S)).pictures (same_first r S) (split-cut r S h.1 g)

  -- an exposure stands at the place of its picture's first slice

  sift-passed : (gap : Bool) (n : ℕ) (ps : List Picture) → Passed ps → sift (λ (e : Exposure). q e.place) (exposures_from gap n ps) ≡ exposures_from gap n ps
  unfolding exposure_of
  sift-passed gap n [] h = refl
  sift-passed gap n (p ∷ ps) h = rw (h.0, sift-passed (gap_to p ps) (refused_in p.behind) ps h.1.1)

  sift-split : (gap : Bool) (n k : ℕ) (ps : List Picture) → Split k ps → sift (λ (e : Exposure). q e.place) (exposures_from gap n ps) ≡ drop k (exposures_from gap n ps)
  unfolding exposure_of
  sift-split gap n zero ps h = sift-passed gap n ps h
  sift-split gap n (suc k) [] h = absurd h
  sift-split gap n (suc k) (p ∷ ps) h = rw h.0 (sift-split (gap_to p ps) (refused_in p.behind) k ps h.1)

  count : (gap : Bool) (n : ℕ) (ps : List Picture) → length (exposures_from gap n ps) ≡ length ps
  count gap n [] = refl
  count gap n (p ∷ ps) = ap suc (count (gap_to p ps) (refused_in p.behind) ps)

  pub begun-there : (X S : List Item) → Each false X → Each true S → sift (λ (e : Exposure). q e.place) (exposures (X ++ S)) ≡ begun_in X S
  unfolding exposures
  begun-there X S h g =
      sift-split false (refused_in (cut (X ++ S)).lead) (length (cut X).pictures) (cut (X ++ S)).pictures (split-cut X S h g)
      ∙ ap (λ (k : ℕ). drop k (exposures (X ++ S))) (sym (count false (refused_in (cut X).lead) (cut X).pictures))

  -- ---- a picture that begins in S has all its slices there

  abbrev Agree : List Picture → Type 0
  Agree [] = Unit {0}
  Agree (p ∷ ps) = (q p.first.place ≡ each_slice q (slices_in p)) × Agree ps

  passed-agree : (ps : List Picture) → Passed ps → Agree ps
  passed-agree [] h = tt
  passed-agree (p ∷ ps) h = (rw h.0 (sym h.1.0), passed-agree ps h.1.1)

  agree-cut : (X S : List Item) → Each false X → Each true S → Agree (cut (X ++ S)).pictures
  agree-cut [] S h g = passed-agree (cut S).pictures (passed-cut S g)
  agree-cut (Item.Unit k ∷ r) S h g = agree-cut r S h g
  agree-cut (Item.Slice a ∷ r) S h g = go (cut (r ++ S)).pictures (agree-cut r S h.1 g)
    where
      pair : (p : Picture) (ps : List Picture) → Agree (p ∷ ps) → (b : Bool)
          → Agree (pick b (record { first = a; behind = (cut (r ++ S)).lead } ∷ p ∷ ps) (record { first = a; behind = (cut (r ++ S)).lead ++ Item.Slice p.first ∷ p.behind } ∷ ps))
      pair p ps g true = (rw h.0, g)
      pair p ps g false = (rw h.0, g.1)

      go : (ps : List Picture) → Agree ps → Agree (joined a (cut (r ++ S)).lead ps)
      go [] g = (rw h.0, tt)
      go (p ∷ ps) g = pair p ps g (differ a p.first)

  sift-agree : (ps : List Picture) → Agree ps → sift (λ (p : Picture). q p.first.place) ps ≡ sift (λ (p : Picture). each_slice q (slices_in p)) ps
  sift-agree [] h = refl
  sift-agree (p ∷ ps) h =
      let begun = sift (λ (r : Picture). q r.first.place) ps in
      ap (λ (b : Bool). pick b (p ∷ begun) begun) h.0 ∙ ap (λ (l : List Picture). pick (each_slice q (slices_in p)) (p ∷ l) l) (sift-agree ps h.1)

  pub begun-whole : (X S : List Item) → Each false X → Each true S
      → sift (λ (p : Picture). q p.first.place) (cut (X ++ S)).pictures ≡ sift (λ (p : Picture). each_slice q (slices_in p)) (cut (X ++ S)).pictures
  begun-whole X S h g = sift-agree (cut (X ++ S)).pictures (agree-cut X S h g)
