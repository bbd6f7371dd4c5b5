-- The state after a list is that of its last picture; and what a list closes is closed whatever follows.
use Prim.Native.Nat.{ℕ}
use mathlib.Core.Path.{◌≡◌, refl, sym, ap, ◌∙◌}
use mathlib.Core.Bool.{Bool, true, false, true≢false}
use mathlib.Core.List.{List, [], ◌∷◌, ◌++◌, append-nil, append_assoc}
use borrow.Author.Tests.{eqb-true}
use lib.Dec.{eqb}
use Rattle.bits.proofs.Results.{cases}
use Rattle.exposures.specs.declared.slice.Slice.{Slice}
use Rattle.exposures.specs.declared.slice.Kind.{Kind}
use Rattle.exposures.specs.declared.slice.Item.{Item}
use Rattle.exposures.specs.declared.counts.Counts.{Counts}
use Rattle.exposures.specs.declared.exposure.Exposure.{Exposure}
use Rattle.exposures.specs.Compare.{frames, differ}
use Rattle.exposures.specs.Exposure.{held}
use Rattle.exposures.specs.Pictures.{slices_of, Picture, rest_of, last_of, last_in, refused_in}
use Rattle.exposures.specs.Take.{State, Taken, no_counts, start, counted, slice_taken, unit_taken, take_of, said, run, state_after}
use Rattle.exposures.proofs.Lists.{slices-append, last-append}
use Rattle.exposures.proofs.Runs.{alone, grown, during, waiting, opened-is, rest-unit, refused-unit, alike, new, passed}

-- slices that are alike have the same frame_num
pub same-frame : (a b : Slice) → differ a b ≡ false → a.frame_num ≡ b.frame_num
unfolding differ frames
same-frame a b h =
    cases (eqb a.frame_num b.frame_num) (λ e. eqb-true a.frame_num b.frame_num e) (λ e. absurd (true≢false (rw e at h)))

-- a state that a list l leaves: no slice has come, or the last picture is p
pub data Came (l : List Item) (st : State) : Type 0 where
  none : (c : Counts) → slices_of l ≡ [] → st ≡ waiting l c → Came l st
  some : (gap : Bool) (before : ℕ) (p : Picture) (c : Counts) (a : Slice) (r : List Slice)
      → slices_of l ≡ a ∷ r → last_of a r ≡ last_in p → p.first.frame_num ≡ (last_in p).frame_num → st ≡ during gap before p c → Came l st

-- with a unit behind it
came-unit : (l : List Item) (st : State) (k : Kind) → Came l st → Came (l ++ (Item.Unit k ∷ [])) (take_of st (Item.Unit k)).state
unfolding unit_taken
came-unit l st k (none c e h) = none (counted c (Item.Unit k)) (rest-unit l k ∙ e) (ap (λ (s : State). (take_of s (Item.Unit k)).state) h ∙ rw (refused-unit l k))
came-unit l st k (some gap n p c a r e last frame h) =
    some gap n (grown p (Item.Unit k ∷ [])) (counted c (Item.Unit k)) a r (rest-unit l k ∙ e) (rw (rest-unit p.behind k) last) (rw (rest-unit p.behind k) frame)
    (ap (λ (s : State). (take_of s (Item.Unit k)).state) h ∙ ap (λ (t : Taken). t.state) (passed gap n p c k))

came-slice : (l : List Item) (st : State) (b : Slice) → Came l st → Came (l ++ (Item.Slice b ∷ [])) (take_of st (Item.Slice b)).state
unfolding slice_taken
came-slice l st b (none c e h) =
    some false (refused_in l) (alone b) (counted c (Item.Slice b)) b [] (slices-append l (Item.Slice b ∷ []) ∙ ap (λ (m : List Slice). m ++ (b ∷ [])) e) refl refl
    (ap (λ (s : State). (take_of s (Item.Slice b)).state) h ∙ opened-is false (refused_in l) b (counted c (Item.Slice b)))
came-slice l st b (some gap n p c a r e last frame h) = cases (differ (last_in p) b) apart together
  where
    behind : slices_of (l ++ (Item.Slice b ∷ [])) ≡ a ∷ (r ++ (b ∷ []))
    behind = slices-append l (Item.Slice b ∷ []) ∙ ap (λ (m : List Slice). m ++ (b ∷ [])) e

    step : (take_of st (Item.Slice b)).state ≡ (take_of (during gap n p c) (Item.Slice b)).state
    step = ap (λ (s : State). (take_of s (Item.Slice b)).state) h

    end : last_in (grown p (Item.Slice b ∷ [])) ≡ b
    end = ap (last_of p.first) (slices-append p.behind (Item.Slice b ∷ [])) ∙ last-append p.first (rest_of p) (b ∷ [])

    apart : differ (last_in p) b ≡ true → Came (l ++ (Item.Slice b ∷ [])) (take_of st (Item.Slice b)).state
    apart d = some _ _ (alone b) _ a (r ++ (b ∷ [])) behind (last-append a r (b ∷ [])) refl (step ∙ ap (λ (t : Taken). t.state) (new gap n p c b d))

    together : differ (last_in p) b ≡ false → Came (l ++ (Item.Slice b ∷ [])) (take_of st (Item.Slice b)).state
    together d =
        some gap n (grown p (Item.Slice b ∷ [])) _ a (r ++ (b ∷ [])) behind (last-append a r (b ∷ []) ∙ sym end)
        (frame ∙ same-frame (last_in p) b d ∙ ap (λ (s : Slice). s.frame_num) (sym end)) (step ∙ ap (λ (t : Taken). t.state) (alike gap n p c b d))

came_from : (k : List Item) (st : State) (l : List Item) → Came k st → Came (k ++ l) (state_after st l)
came_from k st [] w = rw (append-nil k) w
came_from k st (Item.Unit j ∷ r) w =
    rw (append_assoc k (Item.Unit j ∷ []) r) at (came_from (k ++ (Item.Unit j ∷ [])) (take_of st (Item.Unit j)).state r (came-unit k st j w))
came_from k st (Item.Slice b ∷ r) w =
    rw (append_assoc k (Item.Slice b ∷ []) r) at (came_from (k ++ (Item.Slice b ∷ [])) (take_of st (Item.Slice b)).state r (came-slice k st b w))

pub came : (l : List Item) → Came l (state_after start l)
unfolding start held
came l = came_from [] start l (none no_counts refl refl)

-- ---- one list behind another

-- what a list closes, before its end
abbrev pub closed_in : State → List Item → List Exposure
closed_in st [] = []
closed_in st (x ∷ r) = said (take_of st x).closed ++ closed_in (take_of st x).state r

pub run-append : (st : State) (l m : List Item) → run st (l ++ m) ≡ closed_in st l ++ run (state_after st l) m
run-append st [] m = refl
run-append st (x ∷ r) m = rw (run-append (take_of st x).state r m, append_assoc (said (take_of st x).closed) (closed_in (take_of st x).state r) (run (state_after (take_of st x).state r) m))
