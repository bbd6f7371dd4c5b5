-- The walk that reads headers alone: what is promised of the walk holds for it, and it asks for no scratch.
use Prim.Native.Nat.{ℕ, ◌+◌, ◌≤◌}
use mathlib.Core.Path.{◌≡◌, refl, subst}
use mathlib.Core.List.{List, [], ◌++◌, map}
use mathlib.Core.Bool.{true, false, true≢false}
use native.Mathlib.Omega.{arith}
use borrow.Author.Tests.{eqb-true}
use lib.Dec.{eqb}
use lib.IntN.{pos}
use lib.ListN.{length, drop, replicate, length-replicate}
use Rattle.bits.specs.Refusals.{Res, got, no, pick, refusal, buffer_too_short, too_large, limit}
use Rattle.bits.specs.declared.refusals.Refusal.{Refusal}
use Rattle.bits.proofs.Results.{cases}
use Rattle.table.specs.declared.table.Table.{Table}
use Rattle.syntax.specs.declared.record.SliceHeader.{SliceHeader}
use Rattle.syntax.specs.declared.record.Prefix.{Prefix}
use Rattle.syntax.specs.SliceHeader.{read_header}
use Rattle.syntax.specs.Prefix.{prefix}
use Rattle.parameter_sets.specs.declared.sequence.SequenceSet.{SequenceSet}
use Rattle.parameter_sets.specs.declared.picture.PictureSet.{PictureSet}
use Rattle.parameter_sets.specs.SequenceSet.{sequence_set}
use Rattle.parameter_sets.specs.PictureSet.{picture_set}
use Rattle.unit.specs.declared.answer.UnitAnswer.{UnitAnswer}
use Rattle.unit.specs.declared.answer.UnitRead.{UnitRead}
use Rattle.unit.specs.declared.begin.Begun.{Begun}
use Rattle.unit.specs.Answer.{only, slice_answer, prefix_answer, sequence_answer, picture_answer}
use Rattle.unit.specs.Begin.{begun}
use Rattle.unit.specs.Unit.{slice_bits, prefix_bits, sequence_bits, picture_bits, unit_read}
use Rattle.cut.specs.Seam.{body_bits}
use Rattle.front.specs.Front.{unit_front}
use Rattle.front.proofs.Cases.{front-slice, front-prefix, front-sequence, front-picture, front-other, front-none}
use Rattle.front.proofs.Units.{front-left, front-whole}
use Rattle.walk.specs.declared.walk.Step.{Step}
use Rattle.walk.specs.Walk.{hit}
use Rattle.walk.specs.Units.{Report, units}
use Rattle.walk.specs.Walked.{table_after, next_step}
use Rattle.walk.specs.Reports.{reports, reports_of, sift, starts_from, ends_before, sets_among, table_in, to_end}
use Rattle.walk.specs.Headers.{walked_headers, headers_reports}
use Rattle.walk.proofs.Steps.{table_of}
use Rattle.walk.proofs.HeadersAlone as walk
use Rattle.promises.specs.Demands.{one_of, body_numbers}
use Rattle.promises.proofs.Numbers.{InBody, Known, header-known, prefix-known, sequence-known, picture-known}
use Rattle.promises.proofs.Cases.{Begins, begun-begins, Idle, walk-idle}
use Rattle.promises.proofs.Demands.{demand-3-late, demand-3-late-without-sets, demand-3-early}

-- ---- a unit

-- it is not refused by 26
abbrev Roomy : UnitAnswer → Type 0
Roomy (UnitAnswer.Slice n) = Unit {0}
Roomy UnitAnswer.«Prefix» = Unit {0}
Roomy (UnitAnswer.Sequence v) = Unit {0}
Roomy (UnitAnswer.Picture v) = Unit {0}
Roomy (UnitAnswer.Other id) = Unit {0}
Roomy (UnitAnswer.Refused r) = eqb r.number buffer_too_short ≡ false

-- a refusal that arises in a body is another
in-body : (r : Refusal) → InBody r → eqb r.number buffer_too_short ≡ false
in-body r k =
    cases (eqb r.number buffer_too_short)
    (λ e. let q : true ≡ one_of body_numbers r.number = k.1.1 in absurd (true≢false (rw (eqb-true r.number buffer_too_short e) at q)))
    (λ e. e)

slice-roomy : (m : Res SliceHeader) → Known m → Roomy (slice_answer m).answer
unfolding only
slice-roomy (got h e) k = tt
slice-roomy (no r) k = in-body r k

prefix-roomy : (m : Res Prefix) → Known m → Roomy (prefix_answer m).answer
unfolding only
prefix-roomy (got p e) k = tt
prefix-roomy (no r) k = in-body r k

sequence-roomy : (m : Res SequenceSet) → Known m → Roomy (sequence_answer m).answer
unfolding only
sequence-roomy (got v e) k = tt
sequence-roomy (no r) k = in-body r k

picture-roomy : (m : Res PictureSet) → Known m → Roomy (picture_answer m).answer
unfolding only
picture-roomy (got v e) k = tt
picture-roomy (no r) k = in-body r k

module _ (t : Table) (unit scratch : List ℕ) where
  -- a unit reads as with all the scratch that it asks for
  pub headers-unit : (roomy : List ℕ) → length unit ≤ length roomy → (unit_front t unit scratch).read ≡ (unit_read t unit roomy).read
  headers-unit = front-whole t unit scratch

  -- and scratch is untouched
  pub headers-scratch : (unit_front t unit scratch).left ≡ scratch
  headers-scratch = front-left t unit scratch

  unit-roomy : Roomy (unit_front t unit scratch).read.answer
  unfolding slice_bits prefix_bits sequence_bits picture_bits only
  unit-roomy = go (begun unit) refl (begun-begins unit)
    where
      go : (b : Begun) → begun unit ≡ b → Begins b → Roomy (unit_front t unit scratch).read.answer
      go (Begun.Slice kind from) e f = rw (front-slice t unit scratch kind from e) (slice-roomy (read_header t kind (body_bits unit from)) (header-known t kind (body_bits unit from)))
      go (Begun.«Prefix» kind) e f = rw (front-prefix t unit scratch kind e) (prefix-roomy ((prefix kind).read (body_bits unit 4) 0) (prefix-known kind (body_bits unit 4)))
      go Begun.SequenceSet e f = rw (front-sequence t unit scratch e) (sequence-roomy (sequence_set (body_bits unit 1) 0) (sequence-known (body_bits unit 1)))
      go Begun.PictureSet e f = rw (front-picture t unit scratch e) (picture-roomy (picture_set (body_bits unit 1) 0) (picture-known (body_bits unit 1)))
      go (Begun.Other id) e f = rw (front-other t unit scratch id e) tt
      go (Begun.Refused r) e f = rw (front-none t unit scratch r e) f.1

  -- so never 26, however short scratch is
  pub headers-never-26 : (r : Refusal) → (unit_front t unit scratch).read.answer ≡ UnitAnswer.Refused r → r.number ≡ buffer_too_short → ⊥
  headers-never-26 r e n =
      let k : eqb r.number buffer_too_short ≡ false = subst Roomy e unit-roomy in
      true≢false (rw n at k)

-- ---- a step

module _ (t : Table) (s : List ℕ) (from : ℕ) (scratch : List ℕ) where
  -- to no unit: scratch and table are untouched; the only refusal is 27
  pub headers-scratch-end : (walked_headers t s from scratch).walked.step ≡ Step.End
      → ((walked_headers t s from scratch).left ≡ scratch) × ((walked_headers t s from scratch).table ≡ t)
  unfolding walked_headers
  headers-scratch-end e = subst (Idle t scratch (walked_headers t s from scratch)) e (walk-idle unit_front t s from scratch)

  pub headers-refused-walk : (r : Refusal) → (walked_headers t s from scratch).walked.step ≡ Step.Refused r
      → (((walked_headers t s from scratch).left ≡ scratch) × ((walked_headers t s from scratch).table ≡ t)) × (r ≡ refusal too_large (pos 0))
  unfolding walked_headers
  headers-refused-walk r e = subst (Idle t scratch (walked_headers t s from scratch)) e (walk-idle unit_front t s from scratch)

  -- a set that was read is put, and nothing else changes the table
  pub headers-kept : (walked_headers t s from scratch).table ≡ table_after t (walked_headers t s from scratch).walked.read.answer
  unfolding walked_headers
  headers-kept = table_of unit_front t s scratch (next_step s from)

-- ---- a recording

-- scratch as long as the recording
abbrev roomy : List ℕ → List ℕ
roomy s = replicate (length s) 0

is-roomy : (s : List ℕ) → length s ≤ length (roomy s)
is-roomy s = omega (arith, length-replicate {A = ℕ} (length s) 0)

module _ (t : Table) (s : List ℕ) where
  -- the reports are those of the walk with scratch as long as the recording
  pub headers-reports : headers_reports t s ≡ reports t (replicate (length s) 0) s
  headers-reports = walk.headers-same t (roomy s) s (is-roomy s)

  -- and those of all units, one for each start code and in their order
  pub headers-complete : length s ≤ limit → headers_reports t s ≡ reports_of unit_front t [] (units s)
  headers-complete = walk.headers-complete t s

  pub headers-once : length s ≤ limit → (i : ℕ) → length (sift (λ (r : Report UnitRead). eqb r.place (i + 3)) (headers_reports t s)) ≡ pick (hit 1 (drop i s)) 1 0
  headers-once = walk.headers-once t s

-- ---- demand 3: P, M, S of which the middle M became N

module _ (t t' : Table) (P M N S : List ℕ) (m-limit : length (P ++ M ++ S) ≤ limit) (n-limit : length (P ++ N ++ S) ≤ limit) where
  pub headers-late : hit 1 S ≡ true → table_in walked_headers t [] (P ++ M ++ S) (length (P ++ M)) ≡ table_in walked_headers t' [] (P ++ N ++ S) (length (P ++ N))
      → map (to_end (length (P ++ M ++ S))) (starts_from (length (P ++ M)) (headers_reports t (P ++ M ++ S)))
      ≡ map (to_end (length (P ++ N ++ S))) (starts_from (length (P ++ N)) (headers_reports t' (P ++ N ++ S)))
  headers-late code same =
      let e = headers-reports t (P ++ M ++ S) in
      let f = headers-reports t' (P ++ N ++ S) in
      rw (e, f)
      (demand-3-late t t' P M N S (roomy (P ++ M ++ S)) (roomy (P ++ N ++ S)) m-limit n-limit (is-roomy (P ++ M ++ S)) (is-roomy (P ++ N ++ S)) code
      (rw (e, f) at same))

module _ (t : Table) (P M N S : List ℕ) (m-limit : length (P ++ M ++ S) ≤ limit) (n-limit : length (P ++ N ++ S) ≤ limit) where
  -- where neither recording has a set that is read, S may begin with anything
  pub headers-late-without-sets : sets_among (headers_reports t (P ++ M ++ S)) ≡ [] → sets_among (headers_reports t (P ++ N ++ S)) ≡ []
      → map (to_end (length (P ++ M ++ S))) (starts_from (length (P ++ M)) (headers_reports t (P ++ M ++ S)))
      ≡ map (to_end (length (P ++ N ++ S))) (starts_from (length (P ++ N)) (headers_reports t (P ++ N ++ S)))
  headers-late-without-sets m-none n-none =
      let e = headers-reports t (P ++ M ++ S) in
      let f = headers-reports t (P ++ N ++ S) in
      rw (e, f)
      (demand-3-late-without-sets t P M N S (roomy (P ++ M ++ S)) (roomy (P ++ N ++ S)) m-limit n-limit (is-roomy (P ++ M ++ S)) (is-roomy (P ++ N ++ S))
      (rw e at m-none) (rw f at n-none))

  pub headers-early : ends_before (length P) (headers_reports t (P ++ M ++ S)) ≡ ends_before (length P) (headers_reports t (P ++ N ++ S))
  headers-early =
      rw (headers-reports t (P ++ M ++ S), headers-reports t (P ++ N ++ S))
      (demand-3-early t P M N S (roomy (P ++ M ++ S)) (roomy (P ++ N ++ S)) m-limit n-limit (is-roomy (P ++ M ++ S)) (is-roomy (P ++ N ++ S)))
