-- The items of a walk's reports: of two recordings that end in S, those of S are the same, each as far from the end; of two that begin with P, those of the units whose end
-- mark lies in P.
use Prim.Native.Nat.{ℕ, ◌+◌, ◌-◌, ◌≤◌, ◌<◌}
use mathlib.Core.Path.{◌≡◌, refl, sym, ap, ◌∙◌}
use mathlib.Core.List.{List, [], ◌∷◌, ◌++◌, map, append_assoc, Memᴰ}
use mathlib.Core.Bool.{Bool, true, false}
use native.Mathlib.Omega.{arith}
use lib.Dec.{leb}
use lib.ListN.{length, take, drop, length-append, length-drop, drop_of_length-le}
use lib.Seq.{take-append-le, drop-append-le, drop-append-add}
use borrow.Author.Tests.{lt-leb, leb-true, leb-false}
use Rattle.bits.specs.Refusals.{pick, limit}
use Rattle.bits.proofs.Results.{cases}
use Rattle.nal.specs.declared.header.NalHeader.{NalHeader}
use Rattle.nal.specs.Header.{nal_ref_idc}
use Rattle.table.specs.declared.table.Table.{Table}
use Rattle.syntax.specs.declared.record.SliceHeader.{SliceHeader}
use Rattle.unit.specs.declared.answer.UnitAnswer.{UnitAnswer}
use Rattle.unit.specs.declared.answer.UnitRead.{UnitRead}
use Rattle.unit.specs.Begin.{is_plain, type_in}
use Rattle.unit.specs.Unit.{unit_read}
use Rattle.unit.specs.Into.{short_answer, long_answer, Lent, words_after}
use Rattle.walk.specs.Walk.{hit}
use Rattle.walk.specs.Units.{Report, units}
use Rattle.walk.specs.Walked.{table_after}
use Rattle.walk.specs.Reports.{reports, sift, starts_from, starts_before, ends_before, table_by, table_at, to_end}
use Rattle.walk.proofs.Border.{Parted, head_first}
use Rattle.walk.proofs.State.{run, after, run-append, before-with, late-with, early-with}
use Rattle.walk.proofs.Reports.{answer, step, of-run}
use Rattle.walk.proofs.Demand.{demand-3-complete, demand-3-late, demand-3-early}
use Rattle.walk.proofs.Within.{Inside, reports-within}
use Rattle.exposures.specs.declared.slice.Kind.{Kind}
use Rattle.exposures.specs.declared.slice.Item.{Item}
use Rattle.exposures.specs.Moved.{move_item}
use Rattle.stacking.specs.Item.{is_redundant, slice_of, header_item, item_of, held_in}
use Rattle.stacking.proofs.Read.{read-item}
use Rattle.promises.specs.Demands.{first_of}
use Rattle.promises.specs.Exposures.{head_in, item_at, items_of, items, items_before, items_from, items_ended}
use Rattle.promises.proofs.Begins.{Each}

-- ---- a report's item

-- it is a slice at its place, whatever the place, or no slice
pub data Taken (t : Table) (type ref : ℕ) (a : UnitAnswer) (h : SliceHeader) : Type 0 where
  slice : ((p : ℕ) → item_of t p type ref a h ≡ Item.Slice (slice_of t p type ref h)) → Taken t type ref a h
  other : (k : Kind) → ((p : ℕ) → item_of t p type ref a h ≡ Item.Unit k) → Taken t type ref a h

pub taken : (t : Table) (type ref : ℕ) (a : UnitAnswer) (h : SliceHeader) → Taken t type ref a h
unfolding header_item
taken t type ref (UnitAnswer.Slice n) h = go (is_plain type) refl (is_redundant h.order_count.redundant_pic_cnt) refl
  where
    go : (b : Bool) → is_plain type ≡ b → (c : Bool) → is_redundant h.order_count.redundant_pic_cnt ≡ c → Taken t type ref (UnitAnswer.Slice n) h
    go true e true f = other Kind.Redundant (λ p. rw (e, f))
    go true e false f = slice (λ p. rw (e, f))
    go false e c f = other Kind.View (λ p. rw e)
taken t type ref UnitAnswer.«Prefix» h = other Kind.«Prefix» (λ p. refl)
taken t type ref (UnitAnswer.Sequence v) h = other Kind.Other (λ p. refl)
taken t type ref (UnitAnswer.Picture v) h = other Kind.Other (λ p. refl)
taken t type ref (UnitAnswer.Other id) h = other Kind.Other (λ p. refl)
taken t type ref (UnitAnswer.Refused r) h = other Kind.Refused (λ p. refl)

-- at another place it is the same, there
pub item-moved : (f : ℕ → ℕ) (t : Table) (place type ref : ℕ) (a : UnitAnswer) (h : SliceHeader) → move_item f (item_of t place type ref a h) ≡ item_of t (f place) type ref a h
unfolding slice_of
item-moved f t place type ref a h = go (taken t type ref a h)
  where
    go : Taken t type ref a h → move_item f (item_of t place type ref a h) ≡ item_of t (f place) type ref a h
    go (slice e) = ap (move_item f) (e place) ∙ sym (e (f place))
    go (other k e) = ap (move_item f) (e place) ∙ sym (e (f place))

-- ---- reports in two parts

items-append : (s : List ℕ) (t : Table) (us vs : List (Report UnitRead)) → items_of s t (us ++ vs) ≡ items_of s t us ++ items_of s (table_by t us) vs
items-append s t [] vs = refl
items-append s t (u ∷ us) vs = ap (λ (l : List Item). item_at s t u ∷ l) (items-append s (table_after t u.read.answer) us vs)

module _ (t : Table) (scratch s : List ℕ) (small : length s ≤ limit) where
  all-run : reports t scratch s ≡ run (step unit_read scratch) (answer unit_read scratch) t (units s)
  all-run = demand-3-complete t scratch s small ∙ of-run unit_read t scratch (units s)

  -- no start code lies across k: the reports before k come first, then those from k on
  reports-parted : (k : ℕ) → Parted k (units s) → reports t scratch s ≡ starts_before k (reports t scratch s) ++ starts_from k (reports t scratch s)
  reports-parted k e =
      let st = step unit_read scratch in
      let an = answer unit_read scratch in
      let us = units s in
      rw all-run
      (ap (run st an t) e ∙ run-append st an t (starts_before k us) (starts_from k us)
      ∙ sym (ap (λ (rs : List (Report UnitRead)). rs ++ starts_from k (run st an t us)) (before-with st an t k us e)
      ∙ ap (λ (rs : List (Report UnitRead)). run st an t (starts_before k us) ++ rs) (late-with st an t k us e)))

  pub items-parted : (k : ℕ) → Parted k (units s) → items t scratch s ≡ items_before t scratch s k ++ items_from t scratch s k
  items-parted k e =
      ap (items_of s t) (reports-parted k e) ∙ items-append s t (starts_before k (reports t scratch s)) (starts_from k (reports t scratch s))

  -- the units whose end mark lies wholly before k come first
  pub record Ended (k : ℕ) : Type 0 where
    pub rest : List Item
    pub joined : items t scratch s ≡ items_ended t scratch s k ++ rest

  pub ended-first : (k : ℕ) → Ended k
  ended-first k =
      let st = step unit_read scratch in
      let an = answer unit_read scratch in
      let us = units s in
      let f = head_first k s in
      let early = ends_before k us in
      let vs = run st an (after st an t early) f.rest in
      let e : reports t scratch s ≡ ends_before k (reports t scratch s) ++ vs =
      rw all-run
      (ap (run st an t) f.joined ∙ run-append st an t early f.rest
      ∙ sym (ap (λ (rs : List (Report UnitRead)). rs ++ vs) (early-with st an t k us f)))
      in
      record {
        rest = items_of s (table_by t (ends_before k (reports t scratch s))) vs;
        joined = ap (items_of s t) e ∙ items-append s t (ends_before k (reports t scratch s)) vs;
      }

-- ---- the units of S

-- what stands from a place in S on, by its distance from the end
from_end : (X S : List ℕ) (p : ℕ) → length X ≤ p → drop p (X ++ S) ≡ drop (length S - (length (X ++ S) - p)) S
from_end X S p h =
    let n : length (X ++ S) ≡ length X + length S = length-append X S in
    let at : p ≡ length X + (p - length X) = omega arith in
    ap (λ (q : ℕ). drop q (X ++ S)) at ∙ drop-append-add X S (p - length X) ∙ cases (leb p (length (X ++ S))) (inside n) (past n)
  where
    inside : length (X ++ S) ≡ length X + length S → leb p (length (X ++ S)) ≡ true → drop (p - length X) S ≡ drop (length S - (length (X ++ S) - p)) S
    inside n e =
        let l : p ≤ length (X ++ S) = leb-true p (length (X ++ S)) e in
        let q : p - length X ≡ length S - (length (X ++ S) - p) = omega arith in
        ap (λ (k : ℕ). drop k S) q

    past : length (X ++ S) ≡ length X + length S → leb p (length (X ++ S)) ≡ false → drop (p - length X) S ≡ drop (length S - (length (X ++ S) - p)) S
    past n e =
        let l : length (X ++ S) < p = leb-false p (length (X ++ S)) e in
        let a : length S ≤ p - length X = omega arith in
        let b : length S ≤ length S - (length (X ++ S) - p) = omega arith in
        drop_of_length-le S a ∙ sym (drop_of_length-le S b)

-- items of reports whose places are counted from the end of what S ends
abbrev end_items : List ℕ → Table → List (Report UnitRead) → List Item
end_items S t [] = []
end_items S t (v ∷ vs) =
    let h : NalHeader = record { 0 = first_of (take v.size (drop (length S - v.place) S)) } in
    item_of t v.place (type_in h) (nal_ref_idc h) v.read.answer v.read.header ∷ end_items S (table_after t v.read.answer) vs

abbrev From : ℕ → List (Report UnitRead) → Type 0
From k [] = Unit {0}
From k (u ∷ us) = (k ≤ u.place) × From k us

all_from : (k : ℕ) (us : List (Report UnitRead)) → From (k + 3) (starts_from k us)
all_from k [] = tt
all_from k (u ∷ us) = go (leb (k + 3) u.place) refl (all_from k us)
  where
    go : (b : Bool) → leb (k + 3) u.place ≡ b → From (k + 3) (starts_from k us) → From (k + 3) (pick b (u ∷ starts_from k us) (starts_from k us))
    go true e ih = (leb-true (k + 3) u.place e, ih)
    go false e ih = ih

items-end : (X S : List ℕ) (t : Table) (us : List (Report UnitRead)) → From (length X + 3) us
    → map (move_item (λ p. length (X ++ S) - p)) (items_of (X ++ S) t us) ≡ end_items S t (map (to_end (length (X ++ S))) us)
items-end X S t [] h = refl
items-end X S t (u ∷ us) h =
    let a = h.0 in
    let e : drop u.place (X ++ S) ≡ drop (length S - (length (X ++ S) - u.place)) S = from_end X S u.place (omega arith) in
    rw (
      item-moved (λ p. length (X ++ S) - p) t u.place (type_in (head_in (X ++ S) u)) (nal_ref_idc (head_in (X ++ S) u)) u.read.answer u.read.header,
      e,
      items-end X S (table_after t u.read.answer) us h.1,
    )

-- ---- the units of P

abbrev Within : ℕ → List (Report UnitRead) → Type 0
Within k [] = Unit {0}
Within k (u ∷ us) = (u.place + u.size ≤ k) × Within k us

all-within : (s : List ℕ) (k : ℕ) (us : List (Report UnitRead)) → ((u : Report UnitRead) → Memᴰ u us → Inside s u) → Within k (ends_before k us)
all-within s k [] h = tt
all-within s k (u ∷ us) h = go (leb (u.next + 3) k) refl (all-within s k us (λ v m. h v (Memᴰ.tail m)))
  where
    go : (b : Bool) → leb (u.next + 3) k ≡ b → Within k (ends_before k us) → Within k (pick b (u ∷ ends_before k us) (ends_before k us))
    go true e ih =
        let l : u.next + 3 ≤ k = leb-true (u.next + 3) k e in
        let i : u.place + u.size ≤ u.next = (h u (Memᴰ.head refl)).0 in
        (omega arith, ih)
    go false e ih = ih

items-head : (P Y : List ℕ) (t : Table) (us : List (Report UnitRead)) → Within (length P) us → items_of (P ++ Y) t us ≡ items_of P t us
items-head P Y t [] h = refl
items-head P Y t (u ∷ us) h =
    let a = h.0 in
    let e : take u.size (drop u.place (P ++ Y)) ≡ take u.size (drop u.place P) =
    ap (take u.size) (drop-append-le u.place P Y (omega arith)) ∙ take-append-le u.size (drop u.place P) Y (simp length-drop (omega arith))
    in
    rw (e, items-head P Y (table_after t u.read.answer) us h.1)

-- ---- two recordings, as for demand 3

module _ (t t' : Table) (P M N S c d : List ℕ) (m-limit : length (P ++ M ++ S) ≤ limit) (n-limit : length (P ++ N ++ S) ≤ limit)
    (m-room : length (P ++ M ++ S) ≤ length c) (n_room : length (P ++ N ++ S) ≤ length d) where
  pub late-items : hit 1 S ≡ true → table_at t c (P ++ M ++ S) (length (P ++ M)) ≡ table_at t' d (P ++ N ++ S) (length (P ++ N))
      → map (move_item (λ p. length (P ++ M ++ S) - p)) (items_from t c (P ++ M ++ S) (length (P ++ M)))
      ≡ map (move_item (λ p. length (P ++ N ++ S) - p)) (items_from t' d (P ++ N ++ S) (length (P ++ N)))
  late-items code same =
      let ms = starts_from (length (P ++ M)) (reports t c (P ++ M ++ S)) in
      let ns = starts_from (length (P ++ N)) (reports t' d (P ++ N ++ S)) in
      items-end (P ++ M) S (table_at t c (P ++ M ++ S) (length (P ++ M))) ms (all_from (length (P ++ M)) (reports t c (P ++ M ++ S)))
      ∙ ap (end_items S (table_at t c (P ++ M ++ S) (length (P ++ M)))) (demand-3-late t t' P M N S c d m-limit n-limit m-room n_room code same)
      ∙ ap (λ (u : Table). end_items S u (map (to_end (length (P ++ N ++ S))) ns)) same
      ∙ sym (items-end (P ++ N) S (table_at t' d (P ++ N ++ S) (length (P ++ N))) ns (all_from (length (P ++ N)) (reports t' d (P ++ N ++ S))))

-- the items of P alone
ended-in : (t : Table) (P M S c : List ℕ) → items_ended t c (P ++ M ++ S) (length P) ≡ items_of P t (ends_before (length P) (reports t c (P ++ M ++ S)))
ended-in t P M S c =
    let us = ends_before (length P) (reports t c (P ++ M ++ S)) in
    ap (λ (s : List ℕ). items_of s t us) (append_assoc P M S)
    ∙ items-head P (M ++ S) t us (all-within (P ++ M ++ S) (length P) (reports t c (P ++ M ++ S)) (λ u. reports-within (P ++ M ++ S) u t c))

module _ (t : Table) (P M N S c d : List ℕ) (m-limit : length (P ++ M ++ S) ≤ limit) (n-limit : length (P ++ N ++ S) ≤ limit)
    (m-room : length (P ++ M ++ S) ≤ length c) (n_room : length (P ++ N ++ S) ≤ length d) where
  pub early-items : items_ended t c (P ++ M ++ S) (length P) ≡ items_ended t d (P ++ N ++ S) (length P)
  early-items = ended-in t P M S c ∙ ap (items_of P t) (demand-3-early t P M N S c d m-limit n-limit m-room n_room) ∙ sym (ended-in t P N S d)

-- ---- what a host hands to `tuz_take` of a unit: the table after the walk's step to it, its place and head, and the answer and words of that reading

table-after : (t : Table) (place type ref : ℕ) (a : UnitAnswer) (h : SliceHeader) → item_of (table_after t a) place type ref a h ≡ item_of t place type ref a h
table-after t place type ref (UnitAnswer.Slice n) h = refl
table-after t place type ref UnitAnswer.«Prefix» h = refl
table-after t place type ref (UnitAnswer.Sequence v) h = refl
table-after t place type ref (UnitAnswer.Picture v) h = refl
table-after t place type ref (UnitAnswer.Other id) h = refl
table-after t place type ref (UnitAnswer.Refused r) h = refl

-- it is the report's item, whatever the words were before: a slice leaves the table, and of other units the item does not look at it
pub handed-item : (s : List ℕ) (t : Table) (u : Report UnitRead) (b : Lent)
    → item_of (table_after t u.read.answer) u.place (type_in (head_in s u)) (nal_ref_idc (head_in s u)) (long_answer (short_answer u.read))
    (held_in (words_after u.read b).header.numbers (words_after u.read b).header.signed)
    ≡ item_at s t u
handed-item s t u b =
    read-item (table_after t u.read.answer) u.place (type_in (head_in s u)) (nal_ref_idc (head_in s u)) u.read b
    ∙ table-after t u.place (type_in (head_in s u)) (nal_ref_idc (head_in s u)) u.read.answer u.read.header

-- ---- places of slices

module _ (q : ℕ → Bool) (b : Bool) where
  each_item : (t : Table) (place type ref : ℕ) (a : UnitAnswer) (h : SliceHeader) (r : List Item) → q place ≡ b → Each q b r → Each q b (item_of t place type ref a h ∷ r)
  unfolding slice_of
  each_item t place type ref a h r e g = go (taken t type ref a h)
    where
      go : Taken t type ref a h → Each q b (item_of t place type ref a h ∷ r)
      go (slice f) = rw (f place) (e, g)
      go (other k f) = rw (f place) g

  -- of reports that pass a test of their places
  each-sift : (p : ℕ → Bool) → ((x : ℕ) → p x ≡ true → q x ≡ b) → (s : List ℕ) (t : Table) (us : List (Report UnitRead))
      → Each q b (items_of s t (sift (λ (u : Report UnitRead). p u.place) us))
  each-sift p h s t [] = tt
  each-sift p h s t (u ∷ us) = go (p u.place) refl (λ v. each-sift p h s v us)
    where
      go : (x : Bool) → p u.place ≡ x → ((v : Table) → Each q b (items_of s v (sift (λ (w : Report UnitRead). p w.place) us)))
          → Each q b (items_of s t (pick x (u ∷ sift (λ (w : Report UnitRead). p w.place) us) (sift (λ (w : Report UnitRead). p w.place) us)))
      go true e ih =
          let v = table_after t u.read.answer in
          each_item t u.place (type_in (head_in s u)) (nal_ref_idc (head_in s u)) u.read.answer u.read.header (items_of s v (sift (λ (w : Report UnitRead). p w.place) us))
          (h u.place e) (ih v)
      go false e ih = ih t

module _ (t : Table) (c s : List ℕ) (k : ℕ) where
  pub each_from : Each (leb (k + 3)) true (items_from t c s k)
  each_from = each-sift (leb (k + 3)) true (leb (k + 3)) (λ x e. e) s (table_at t c s k) (reports t c s)

  pub each-before : Each (leb (k + 3)) false (items_before t c s k)
  each-before = each-sift (leb (k + 3)) false (λ x. leb x k) (λ x e. let l : x ≤ k = leb-true x k e in lt-leb (k + 3) x (omega arith)) s t (reports t c s)
