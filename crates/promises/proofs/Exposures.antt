-- M-107 with demand 3: which exposures of a recording damage leaves as they were.
use Prim.Native.Nat.{ℕ, ◌+◌, ◌-◌, ◌≤◌}
use mathlib.Core.Path.{◌≡◌, sym, ap, ◌∙◌}
use mathlib.Core.List.{List, ◌++◌, map}
use mathlib.Core.Bool.{Bool, true, not, ◌&&◌, ◌||◌}
use lib.Dec.{leb}
use lib.ListN.{length, take, drop, replicate}
use Rattle.bits.specs.Refusals.{pick, limit}
use Rattle.table.specs.declared.table.Table.{Table}
use Rattle.walk.specs.Walk.{hit}
use Rattle.walk.specs.Units.{units}
use Rattle.walk.specs.Reports.{sift, table_at}
use Rattle.walk.specs.Headers.{headers_reports}
use Rattle.walk.proofs.Border.{Parted, border}
use Rattle.exposures.specs.declared.slice.Item.{Item}
use Rattle.exposures.specs.declared.exposure.Exposure.{Exposure}
use Rattle.exposures.specs.Pictures.{Picture, cut, exposures}
use Rattle.exposures.specs.Take.{start, run}
use Rattle.exposures.specs.Torn.{goes_on, begun_in, no_refused, own}
use Rattle.exposures.specs.Moved.{move_item, move_exposure}
use Rattle.exposures.proofs.Runs.{taken-exposures}
use Rattle.exposures.proofs.Torn.{shared, torn-early, torn-alike, torn-both, torn-both-first, torn-both-gap}
use Rattle.exposures.proofs.Moved.{begun-moved, goes_moved}
use Rattle.promises.specs.Exposures.{items_of, items, exposures_in, items_before, items_from, goes_across, lies_from, late_exposures, in_both, items_ended, early_exposures}
use Rattle.promises.proofs.Headers.{headers-reports}
use Rattle.promises.proofs.Begins.{begun-there, begun-whole}
use Rattle.promises.proofs.Items.{items-parted, ended-first, late-items, early-items, each_from, each-before}
use Rattle.promises.proofs.Places.{Falls, falls-from, in_both_lem}

-- ---- one recording

-- a walk's units, taken one by one from the start on, and then the end, close its exposures in order. A unit's item is what a host hands of it (`handed-item` in Items.antt)
pub exposures-taken : (t : Table) (c s : List ℕ) → run start (items t c s) ≡ exposures_in t c s
exposures-taken t c s = taken-exposures (items t c s)

-- the walk that reads headers alone has the items of the walk with scratch for all: what follows holds of it
pub exposures-headers : (t : Table) (s : List ℕ) → items_of s t (headers_reports t s) ≡ items t (replicate (length s) 0) s
exposures-headers t s = ap (items_of s t) (headers-reports t s)

module _ (t : Table) (c s : List ℕ) (k : ℕ) (small : length s ≤ limit) where
  -- the exposures that begin from k on are, of the items from k on, those that begin there
  late_is : Parted k (units s) → late_exposures t c s k ≡ begun_in (map (move_item (λ p. length s - p)) (items_before t c s k)) (map (move_item (λ p. length s - p)) (items_from t c s k))
  late_is e =
      ap (λ (l : List Item). map (move_exposure (λ p. length s - p)) (sift (λ (x : Exposure). leb (k + 3) x.place) (exposures l))) (items-parted t c s small k e)
      ∙ ap (map (move_exposure (λ p. length s - p))) (begun-there (leb (k + 3)) (items_before t c s k) (items_from t c s k) (each-before t c s k) (each_from t c s k))
      ∙ sym (begun-moved (λ p. length s - p) (items_before t c s k) (items_from t c s k))

  -- the recording's exposures of the units that end before k, but the last, are those of these units alone
  pub exposures-ended : early_exposures t c s k ≡ take (length (exposures (items_ended t c s k)) - 1) (exposures (items_ended t c s k))
  exposures-ended =
      let w = ended-first t c s small k in
      ap (λ (l : List Item). take (length (exposures (items_ended t c s k)) - 1) (exposures l)) w.joined ∙ torn-early (items_ended t c s k) w.rest

-- the pictures whose slices all lie in S are those that begin in S
pub exposures-whole : (t : Table) (c X S : List ℕ) → length (X ++ S) ≤ limit → hit 1 S ≡ true
    → sift (λ (p : Picture). leb (length X + 3) p.first.place) (cut (items t c (X ++ S))).pictures ≡ sift (lies_from (length X)) (cut (items t c (X ++ S))).pictures
exposures-whole t c X S small code =
    let k = length X in
    let s = X ++ S in
    rw (items-parted t c s small k (border X S code)) (begun-whole (leb (k + 3)) (items_before t c s k) (items_from t c s k) (each-before t c s k) (each_from t c s k))

-- ---- two recordings that end in S, as for demand 3

module _ (t t' : Table) (P M N S c d : List ℕ) (m-limit : length (P ++ M ++ S) ≤ limit) (n-limit : length (P ++ N ++ S) ≤ limit)
    (m-room : length (P ++ M ++ S) ≤ length c) (n_room : length (P ++ N ++ S) ≤ length d) (code : hit 1 S ≡ true)
    (same : table_at t c (P ++ M ++ S) (length (P ++ M)) ≡ table_at t' d (P ++ N ++ S) (length (P ++ N))) where
  -- the items before S in either recording, and those of S in both, at places counted from the end
  abbrev X : List Item
  X = map (move_item (λ p. length (P ++ M ++ S) - p)) (items_before t c (P ++ M ++ S) (length (P ++ M)))

  abbrev Y : List Item
  Y = map (move_item (λ p. length (P ++ N ++ S) - p)) (items_before t' d (P ++ N ++ S) (length (P ++ N)))

  abbrev Z : List Item
  Z = map (move_item (λ p. length (P ++ M ++ S) - p)) (items_from t c (P ++ M ++ S) (length (P ++ M)))

  alike : Z ≡ map (move_item (λ p. length (P ++ N ++ S) - p)) (items_from t' d (P ++ N ++ S) (length (P ++ N)))
  alike = late-items t t' P M N S c d m-limit n-limit m-room n_room code same

  m-late : late_exposures t c (P ++ M ++ S) (length (P ++ M)) ≡ begun_in X Z
  m-late = late_is t c (P ++ M ++ S) (length (P ++ M)) m-limit (border (P ++ M) S code)

  n-late : late_exposures t' d (P ++ N ++ S) (length (P ++ N)) ≡ begun_in Y Z
  n-late = late_is t' d (P ++ N ++ S) (length (P ++ N)) n-limit (border (P ++ N) S code) ∙ sym (ap (begun_in Y) alike)

  m-goes : goes_across t c (P ++ M ++ S) (length (P ++ M)) ≡ goes_on X Z
  m-goes = sym (goes_moved (λ p. length (P ++ M ++ S) - p) (items_before t c (P ++ M ++ S) (length (P ++ M))) (items_from t c (P ++ M ++ S) (length (P ++ M))))

  n-goes : goes_across t' d (P ++ N ++ S) (length (P ++ N)) ≡ goes_on Y Z
  n-goes =
      sym (ap (goes_on Y) alike ∙ goes_moved (λ p. length (P ++ N ++ S) - p) (items_before t' d (P ++ N ++ S) (length (P ++ N))) (items_from t' d (P ++ N ++ S) (length (P ++ N))))

  falls : Falls (length (P ++ M ++ S) - 2) Z
  falls = falls-from t c (P ++ M ++ S) m-limit (length (P ++ M))

  m-both : in_both (late_exposures t c (P ++ M ++ S) (length (P ++ M))) (late_exposures t' d (P ++ N ++ S) (length (P ++ N))) ≡ shared (goes_on X Z) (goes_on Y Z) (begun_in X Z)
  m-both = ap (in_both (late_exposures t c (P ++ M ++ S) (length (P ++ M)))) n-late ∙ ap (λ (es : List Exposure). in_both es (begun_in Y Z)) m-late ∙ in_both_lem _ X Y Z falls

  n-both : in_both (late_exposures t' d (P ++ N ++ S) (length (P ++ N))) (late_exposures t c (P ++ M ++ S) (length (P ++ M))) ≡ shared (goes_on Y Z) (goes_on X Z) (begun_in Y Z)
  n-both = ap (in_both (late_exposures t' d (P ++ N ++ S) (length (P ++ N)))) m-late ∙ ap (λ (es : List Exposure). in_both es (begun_in X Z)) n-late ∙ in_both_lem _ Y X Z falls

  -- of the pictures whose slices all lie in S, in both recordings, all but the first have the same exposures, equally far from the end
  pub exposures-late : drop 1 (in_both (late_exposures t c (P ++ M ++ S) (length (P ++ M))) (late_exposures t' d (P ++ N ++ S) (length (P ++ N))))
      ≡ drop 1 (in_both (late_exposures t' d (P ++ N ++ S) (length (P ++ N))) (late_exposures t c (P ++ M ++ S) (length (P ++ M))))
  exposures-late = ap (drop 1) m-both ∙ torn-both X Y Z ∙ sym (ap (drop 1) n-both)

  -- the first of them has the same place, slices, QPs and frame_num
  pub exposures-first : map own (in_both (late_exposures t c (P ++ M ++ S) (length (P ++ M))) (late_exposures t' d (P ++ N ++ S) (length (P ++ N))))
      ≡ map own (in_both (late_exposures t' d (P ++ N ++ S) (length (P ++ N))) (late_exposures t c (P ++ M ++ S) (length (P ++ M))))
  exposures-first = ap (map own) m-both ∙ torn-both-first X Y Z ∙ sym (ap (map own) n-both)

  -- and the same gap, where the first slice of S goes on with a picture before it in one of the recordings; else its own picture is the first, and looks back
  pub exposures-gap : (goes_across t c (P ++ M ++ S) (length (P ++ M)) || goes_across t' d (P ++ N ++ S) (length (P ++ N))) ≡ true
      → map no_refused (in_both (late_exposures t c (P ++ M ++ S) (length (P ++ M))) (late_exposures t' d (P ++ N ++ S) (length (P ++ N))))
      ≡ map no_refused (in_both (late_exposures t' d (P ++ N ++ S) (length (P ++ N))) (late_exposures t c (P ++ M ++ S) (length (P ++ M))))
  exposures-gap h =
      let g : (goes_on X Z || goes_on Y Z) ≡ true =
      sym (ap (λ (b : Bool). b || goes_across t' d (P ++ N ++ S) (length (P ++ N))) m-goes ∙ ap (λ (b : Bool). goes_on X Z || b) n-goes) ∙ h
      in
      ap (map no_refused) m-both ∙ torn-both-gap X Y Z g ∙ sym (ap (map no_refused) n-both)

  -- those in both recordings are all of this one's, but the first where the first slice of S goes on with a picture before it in the other recording alone
  pub exposures-both : in_both (late_exposures t c (P ++ M ++ S) (length (P ++ M))) (late_exposures t' d (P ++ N ++ S) (length (P ++ N)))
      ≡ drop (pick (goes_across t' d (P ++ N ++ S) (length (P ++ N)) && not (goes_across t c (P ++ M ++ S) (length (P ++ M)))) 1 0) (late_exposures t c (P ++ M ++ S) (length (P ++ M)))
  exposures-both =
      let late = late_exposures t c (P ++ M ++ S) (length (P ++ M)) in
      m-both
      ∙ sym (ap (λ (b : Bool). drop (pick (b && not (goes_across t c (P ++ M ++ S) (length (P ++ M)))) 1 0) late) n-goes
      ∙ ap (λ (b : Bool). drop (pick (goes_on Y Z && not b) 1 0) late) m-goes ∙ ap (drop (pick (goes_on Y Z && not (goes_on X Z)) 1 0)) m-late)

  -- so where it goes on in both or in neither, all exposures in S but the first are the same
  pub exposures-alike : goes_across t c (P ++ M ++ S) (length (P ++ M)) ≡ goes_across t' d (P ++ N ++ S) (length (P ++ N))
      → drop 1 (late_exposures t c (P ++ M ++ S) (length (P ++ M))) ≡ drop 1 (late_exposures t' d (P ++ N ++ S) (length (P ++ N)))
  exposures-alike h = ap (drop 1) m-late ∙ torn-alike X Y Z (sym m-goes ∙ h ∙ n-goes) ∙ sym (ap (drop 1) n-late)

-- ---- two recordings that begin with P

module _ (t : Table) (P M N S c d : List ℕ) (m-limit : length (P ++ M ++ S) ≤ limit) (n-limit : length (P ++ N ++ S) ≤ limit)
    (m-room : length (P ++ M ++ S) ≤ length c) (n_room : length (P ++ N ++ S) ≤ length d) where
  -- all exposures of the units whose end mark lies in P, but the last, are the same, at the same places
  pub exposures-early : early_exposures t c (P ++ M ++ S) (length P) ≡ early_exposures t d (P ++ N ++ S) (length P)
  exposures-early =
      exposures-ended t c (P ++ M ++ S) (length P) m-limit
      ∙ ap (λ (l : List Item). take (length (exposures l) - 1) (exposures l)) (early-items t P M N S c d m-limit n-limit m-room n_room)
      ∙ sym (exposures-ended t d (P ++ N ++ S) (length P) n-limit)
