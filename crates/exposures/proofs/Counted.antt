-- The counts are lengths of parts of the list taken, and add up to all of it.
use Prim.Native.Nat.{suc, ◌+◌, ◌≤◌}
use mathlib.Core.Path.{◌≡◌, refl, sym, ap, ◌∙◌}
use mathlib.Core.List.{List, [], ◌∷◌, ◌++◌, append-nil, append_assoc}
use native.Mathlib.Omega.{arith}
use lib.ListN.{length, length-append}
use Rattle.bits.proofs.Results.{cases}
use Rattle.exposures.specs.declared.slice.Kind.{Kind}
use Rattle.exposures.specs.declared.slice.Item.{Item}
use Rattle.exposures.specs.declared.counts.Counts.{Counts}
use Rattle.exposures.specs.Compare.{differ}
use Rattle.exposures.specs.Exposure.{held}
use Rattle.exposures.specs.Pictures.{slices_of, those, counts_of}
use Rattle.exposures.specs.Take.{State, start, counted, opened, slice_taken, unit_taken, take_of, state_after}
use Rattle.exposures.proofs.Lists.{slices-append, those-append, held-suc, held-is}

-- a unit counts, whatever it does to pictures
counts_step : (st : State) (x : Item) → (take_of st x).state.counts ≡ counted st.counts x
unfolding slice_taken unit_taken opened
counts_step st (Item.Unit k) = refl
counts_step st (Item.Slice s) =
    cases st.begun (λ h. cases (differ st.last s) (λ d. rw (h, d)) (λ d. rw (h, d))) (λ h. rw h)

up : {A : Type 0} (l : List A) (a : A) → length (l ++ (a ∷ [])) ≡ suc (length l)
up l a = simp length-append (omega arith)

-- a list, and a unit behind it
counted_is : (l : List Item) (x : Item) → counted (counts_of l) x ≡ counts_of (l ++ (x ∷ []))
unfolding counts_of
counted_is l (Item.Slice s) = simp (slices-append, those-append, append-nil, up, held-suc)
counted_is l (Item.Unit k) = go k
  where
    go : (k : Kind) → counted (counts_of l) (Item.Unit k) ≡ counts_of (l ++ (Item.Unit k ∷ []))
    go Kind.Redundant = simp (slices-append, those-append, append-nil, up, held-suc)
    go Kind.Refused = simp (slices-append, those-append, append-nil, up, held-suc)
    go Kind.«Prefix» = simp (slices-append, those-append, append-nil, up, held-suc)
    go Kind.View = simp (slices-append, those-append, append-nil, up, held-suc)
    go Kind.Other = simp (slices-append, those-append, append-nil, up, held-suc)

counts-from : (k : List Item) (st : State) (l : List Item) → st.counts ≡ counts_of k → (state_after st l).counts ≡ counts_of (k ++ l)
counts-from k st [] h = h ∙ ap counts_of (sym (append-nil k))
counts-from k st (x ∷ r) h =
    counts-from (k ++ (x ∷ [])) (take_of st x).state r (counts_step st x ∙ ap (λ (c : Counts). counted c x) h ∙ counted_is k x)
    ∙ ap counts_of (append_assoc k (x ∷ []) r)

-- for every list: the counts after it are those of its parts
pub taken-counts : (l : List Item) → (state_after start l).counts ≡ counts_of l
unfolding start counts_of held
taken-counts l = counts-from [] start l refl

-- the parts are all of the list
pub parts-add-up : (l : List Item)
    → length (slices_of l) + length (those Kind.Redundant l) + length (those Kind.Refused l) + length (those Kind.«Prefix» l) + length (those Kind.View l) + length (those Kind.Other l) ≡ length l
parts-add-up [] = refl
parts-add-up (Item.Slice s ∷ r) = omega (arith, parts-add-up r)
parts-add-up (Item.Unit k ∷ r) = go k (parts-add-up r)
  where
    go : (k : Kind)
        → length (slices_of r) + length (those Kind.Redundant r) + length (those Kind.Refused r) + length (those Kind.«Prefix» r) + length (those Kind.View r) + length (those Kind.Other r) ≡ length r
        → length (slices_of r) + length (those Kind.Redundant (Item.Unit k ∷ r)) + length (those Kind.Refused (Item.Unit k ∷ r)) + length (those Kind.«Prefix» (Item.Unit k ∷ r))
        + length (those Kind.View (Item.Unit k ∷ r)) + length (those Kind.Other (Item.Unit k ∷ r)) ≡ suc (length r)
    go Kind.Redundant ih = omega arith
    go Kind.Refused ih = omega arith
    go Kind.«Prefix» ih = omega arith
    go Kind.View ih = omega arith
    go Kind.Other ih = omega arith

-- and so the counts add up to it, where its length is a machine's
pub counts-add-up : (l : List Item) → length l ≤ 18446744073709551615
    → (counts_of l).slices + (counts_of l).redundant + (counts_of l).refused + (counts_of l).prefixes + (counts_of l).views + (counts_of l).others ≡ length l
unfolding counts_of
counts-add-up l h =
    let s = parts-add-up l in
    rw (
      held-is (length (slices_of l)) (omega arith),
      held-is (length (those Kind.Redundant l)) (omega arith),
      held-is (length (those Kind.Refused l)) (omega arith),
      held-is (length (those Kind.«Prefix» l)) (omega arith),
      held-is (length (those Kind.View l)) (omega arith),
      held-is (length (those Kind.Other l)) (omega arith),
    ) s
