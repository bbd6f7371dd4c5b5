-- The three demands, theorem by theorem. docs/PROMISES.md says each in words. All stand over the public definitions: `unit_read`, `write_header`, `put_sequence`,
-- `put_picture`, `walked` and `reports`, which are what the functions' contracts name.
use Prim.Native.Nat.{ℕ, ◌+◌, ◌≤◌}
use mathlib.Core.Path.{◌≡◌, sym, subst, subst⁻¹}
use mathlib.Core.List.{List, [], ◌++◌, map}
use mathlib.Core.Bool.{true, false, ◌&&◌}
use lib.Dec.{T, leb, eqb}
use lib.IntN.{pos}
use lib.ListN.{length, take, drop}
use Rattle.bits.specs.Refusals.{got, pick, refusal, no_bits, too_large, limit}
use Rattle.bits.specs.Bits.{Bits, bits_of}
use Rattle.bits.specs.Put.{put_bits, bytes_for}
use Rattle.bits.specs.declared.refusals.Refusal.{Refusal}
use Rattle.bits.proofs.Results.{cases}
use Rattle.table.specs.declared.sets.Picture.{Picture}
use Rattle.table.specs.declared.sets.Sequence.{Sequence}
use Rattle.table.specs.declared.table.Table.{Table}
use Rattle.table.specs.Sets.{sequence_fits, picture_fits}
use Rattle.table.specs.Tables.{sequence_put, widths_after, picture_put, put_sequence, put_picture}
use Rattle.syntax.specs.declared.context.UnitKind.{UnitKind}
use Rattle.syntax.specs.declared.record.SliceHeader.{SliceHeader}
use Rattle.syntax.specs.SliceHeader.{any_set, read_header}
use Rattle.syntax.proofs.Header as syntax
use Rattle.syntax.specs.Absent.{no_prefix}
use Rattle.unit.specs.declared.answer.UnitAnswer.{UnitAnswer}
use Rattle.unit.specs.declared.answer.UnitRead.{UnitRead}
use Rattle.unit.specs.declared.begin.Begun.{Begun}
use Rattle.unit.specs.Answer.{only, slice_answer}
use Rattle.unit.specs.Begin.{begun}
use Rattle.unit.specs.Unit.{unit_read}
use Rattle.walk.specs.declared.walk.Step.{Step}
use Rattle.walk.specs.Walk.{hit}
use Rattle.walk.specs.Units.{Report, units}
use Rattle.walk.specs.Walked.{walked}
use Rattle.walk.specs.Reports.{reports, reports_of, sift, starts_from, ends_before, sets_among, table_at, to_end}
use Rattle.walk.proofs.Demand as walk
use Rattle.writer.specs.declared.given.ExtensionGiven.{ExtensionGiven}
use Rattle.writer.specs.Write.{write_header}
use Rattle.writer.proofs.Answers.{wrote}
use Rattle.writer.proofs.Units.{slice-reads}
use Rattle.writer.proofs.RoundTrip as writer
use Rattle.writer.proofs.Refusing.{refused-with, told-starts, none_reads, unread-turned}
use Rattle.promises.specs.Demands.{one_of, read_numbers, body_numbers, write_numbers, scratch_after, unit_of, first_of, extension_in, body_of, body_bits, Stands, UpTo25}
use Rattle.promises.proofs.Cases.{Alone, unit-fine, unit_left, Idle, walk-idle, not_done}
use Rattle.std.specs.Prelude.{Ok, Err}

-- ---- demand 1: every call answers as the rules say, for refused input too, and leaves nothing behind that they do not name

module _ (t : Table) (unit scratch : List ℕ) where
  -- a refused unit gives no record
  pub demand-1-refused-read : (r : Refusal) → (unit_read t unit scratch).read.answer ≡ UnitAnswer.Refused r → (unit_read t unit scratch).read ≡ only (UnitAnswer.Refused r)
  demand-1-refused-read r e = (subst (Alone (unit_read t unit scratch).read) e (unit-fine t unit scratch)).0

  -- its number is one that reading gives
  pub demand-1-numbers-read : (r : Refusal) → (unit_read t unit scratch).read.answer ≡ UnitAnswer.Refused r → T (one_of read_numbers r.number)
  demand-1-numbers-read r e = (subst (Alone (unit_read t unit scratch).read) e (unit-fine t unit scratch)).1.0

  -- it has a bit place exactly where it arises while the body is read
  pub demand-1-place : (r : Refusal) → (unit_read t unit scratch).read.answer ≡ UnitAnswer.Refused r → r.has_bit ≡ one_of body_numbers r.number
  demand-1-place r e = (subst (Alone (unit_read t unit scratch).read) e (unit-fine t unit scratch)).1.1

  -- scratch starts with the unescaped body, or is untouched, whatever the answer
  pub demand-1-scratch : (unit_read t unit scratch).left ≡ scratch_after unit scratch
  demand-1-scratch = unit_left t unit scratch

module _ (t : Table) (first : ℕ) (x : ExtensionGiven) (h : SliceHeader) (out : List ℕ) (r : Refusal) (e : (write_header t first x h out).answer ≡ Err r) where
  -- a refused write alters nothing
  pub demand-1-refused-write : (write_header t first x h out).left ≡ out
  demand-1-refused-write = (refused-with t first x h out e).0

  pub demand-1-numbers-write : T (one_of write_numbers r.number)
  demand-1-numbers-write = (refused-with t first x h out e).1.0

  -- nothing that is written has a place in a body
  pub demand-1-no-place : r.has_bit ≡ false
  demand-1-no-place = (refused-with t first x h out e).1.1

-- a refused put alters nothing, and is 24
module _ (t : Table) (id : ℕ) (r : Refusal) where
  pub demand-1-refused-table-sequence : (s : Sequence) → (put_sequence t id s).answer ≡ Err r → ((put_sequence t id s).table ≡ t) × (r ≡ refusal 24 (pos 0))
  unfolding sequence_put widths_after
  demand-1-refused-table-sequence s e = cases (leb id 31 && sequence_fits s) (λ g. not_done (rw g at e)) (λ g. (rw g, sym (cc (rw g at e))))

  pub demand-1-refused-table-picture : (p : Picture) → (put_picture t id p).answer ≡ Err r → ((put_picture t id p).table ≡ t) × (r ≡ refusal 24 (pos 0))
  unfolding picture_put
  demand-1-refused-table-picture p e = cases (leb id 255 && picture_fits p) (λ g. not_done (rw g at e)) (λ g. (rw g, sym (cc (rw g at e))))

-- a step of the walk to no unit leaves scratch and table untouched; the only refusal is 27
module _ (t : Table) (s : List ℕ) (from : ℕ) (scratch : List ℕ) where
  pub demand-1-scratch-end : (walked t s from scratch).walked.step ≡ Step.End → ((walked t s from scratch).left ≡ scratch) × ((walked t s from scratch).table ≡ t)
  unfolding walked
  demand-1-scratch-end e = subst (Idle t scratch (walked t s from scratch)) e (walk-idle unit_read t s from scratch)

  pub demand-1-refused-walk : (r : Refusal) → (walked t s from scratch).walked.step ≡ Step.Refused r
      → (((walked t s from scratch).left ≡ scratch) × ((walked t s from scratch).table ≡ t)) × (r ≡ refusal too_large (pos 0))
  unfolding walked
  demand-1-refused-walk r e = subst (Idle t scratch (walked t s from scratch)) e (walk-idle unit_read t s from scratch)

-- ---- demand 2: a header that is read is what the standard's table says; it is written back to its exact bits, and what is written reads back

module _ (t : Table) (unit scratch : List ℕ) where
  -- a slice's answer is that of slice_header( ), read from the first bit of its unescaped body
  pub demand-2-equals-the-standard : {k : UnitKind} {from : ℕ} → begun unit ≡ Begun.Slice k from → length unit ≤ length scratch
      → (unit_read t unit scratch).read ≡ slice_answer (read_header t k (body_bits (drop from unit)))
  demand-2-equals-the-standard = slice-reads t unit scratch

-- and that is: a record is read exactly where its own bits stand at the front, and a bit is set behind the one that follows them
module _ (t : Table) (k : UnitKind) (s : Bits) (h : SliceHeader) (e : ℕ) where
  pub demand-2-stands : read_header t k s ≡ got h e → Stands t k s h e
  demand-2-stands r = let z = syntax.rewrites t k s h e r in (z.is-good, (z.size, (z.bits_are, z.more)))

  pub demand-2-accepts : Stands t k s h e → read_header t k s ≡ got h e
  demand-2-accepts z = syntax.reads t k s h e (record { is-good = z.0; size = z.1.0; bits_are = z.1.1.0; more = z.1.1.1 })

-- what is written reads back, in every unit that starts as the writer was told and whose body starts with the bits written
pub demand-2-reads-back : (t : Table) (first : ℕ) (x : ExtensionGiven) (h : SliceHeader) (out : List ℕ) {n : ℕ} {left : List ℕ}
    → write_header t first x h out ≡ record { answer = Ok n; left = left }
    → (v : List ℕ) (q : Bits) → body_bits v ≡ take n (bits_of left) ++ q → any_set (drop 1 q) ≡ true
    → length (unit_of first x v) ≤ limit → (scratch : List ℕ) → length (unit_of first x v) ≤ length scratch
    → (unit_read t (unit_of first x v) scratch).read ≡ record { answer = UnitAnswer.Slice n; header = h; prefix = no_prefix }
demand-2-reads-back t first x h out w v q b m small scratch room =
    writer.reads-back t first x h out w (unit_of first x v) v (told-starts first x (wrote t first x h out w).is-kind v) small q b m scratch room

-- what was read is written to the bits that stood there
module _ (t : Table) (u scratch : List ℕ) (h : SliceHeader) (e : ℕ) (a : (unit_read t u scratch).read.answer ≡ UnitAnswer.Slice e) (r : (unit_read t u scratch).read.header ≡ h) where
  pub demand-2-rewrites : (out : List ℕ) → bytes_for e ≤ length out
      → write_header t (first_of u) (extension_in u) h out ≡ record { answer = Ok e; left = put_bits out 0 (take e (body_bits (body_of u))) }
  demand-2-rewrites = writer.rewrites t u scratch h e a r

  pub demand-2-rewritten-bits : (out : List ℕ) → bytes_for e ≤ length out
      → take e (bits_of (write_header t (first_of u) (extension_in u) h out).left) ≡ take e (body_bits (body_of u))
  demand-2-rewritten-bits = writer.rewritten-bits t u scratch h e a r

-- 25 is exact: where it is given, no unit that starts as the writer was told reads as the record; where no bits read to it, the answer is neither bits nor 26
module _ (t : Table) (first : ℕ) (x : ExtensionGiven) (h : SliceHeader) (out : List ℕ) where
  pub demand-2-25-exact : (write_header t first x h out).answer ≡ Err (refusal no_bits (pos 0)) → (v scratch : List ℕ) (e : ℕ)
      → (unit_read t (unit_of first x v) scratch).read.answer ≡ UnitAnswer.Slice e → (unit_read t (unit_of first x v) scratch).read.header ≡ h → ⊥
  demand-2-25-exact = none_reads t first x h out

  pub demand-2-25-given : ((k : UnitKind) (s : Bits) (e : ℕ) → read_header t k s ≡ got h e → ⊥) → UpTo25 (write_header t first x h out).answer
  demand-2-25-given n = let z = unread-turned t first x h out n in subst⁻¹ UpTo25 z.is z.number

-- ---- demand 3: damage stays where it is

module _ (t : Table) (scratch s : List ℕ) (small : length s ≤ limit) where
  -- the reports are those of all units, one for each start code and in their order, each as reading that unit answers by the table that the units before it leave
  pub demand-3-complete : reports t scratch s ≡ reports_of unit_read t scratch (units s)
  demand-3-complete = walk.demand-3-complete t scratch s small

  -- of a unit whose start code begins at i there is one report where 00 00 01 stands at i, and none elsewhere
  pub demand-3-once : (i : ℕ) → length (sift (λ (r : Report UnitRead). eqb r.place (i + 3)) (reports t scratch s)) ≡ pick (hit 1 (drop i s)) 1 0
  demand-3-once = walk.demand-3-once t scratch s small

-- a recording P, M, S of which the middle M became N; c and d are the scratches, t and t' the tables to begin with
module _ (t t' : Table) (P M N S c d : List ℕ) (m-limit : length (P ++ M ++ S) ≤ limit) (n-limit : length (P ++ N ++ S) ≤ limit)
    (m-room : length (P ++ M ++ S) ≤ length c) (n_room : length (P ++ N ++ S) ≤ length d) where
  -- S begins with a start code, and both walks come to it with the same table: the units whose start code begins in S have the same reports, equally far from the end
  pub demand-3-late : hit 1 S ≡ true → table_at t c (P ++ M ++ S) (length (P ++ M)) ≡ table_at t' d (P ++ N ++ S) (length (P ++ N))
      → map (to_end (length (P ++ M ++ S))) (starts_from (length (P ++ M)) (reports t c (P ++ M ++ S)))
      ≡ map (to_end (length (P ++ N ++ S))) (starts_from (length (P ++ N)) (reports t' d (P ++ N ++ S)))
  demand-3-late = walk.demand-3-late t t' P M N S c d m-limit n-limit m-room n_room

-- and with one table to begin with
module _ (t : Table) (P M N S c d : List ℕ) (m-limit : length (P ++ M ++ S) ≤ limit) (n-limit : length (P ++ N ++ S) ≤ limit)
    (m-room : length (P ++ M ++ S) ≤ length c) (n_room : length (P ++ N ++ S) ≤ length d) where
  -- where neither recording has a set that is read, they have the same reports without those premises
  pub demand-3-late-without-sets : sets_among (reports t c (P ++ M ++ S)) ≡ [] → sets_among (reports t d (P ++ N ++ S)) ≡ []
      → map (to_end (length (P ++ M ++ S))) (starts_from (length (P ++ M)) (reports t c (P ++ M ++ S)))
      ≡ map (to_end (length (P ++ N ++ S))) (starts_from (length (P ++ N)) (reports t d (P ++ N ++ S)))
  demand-3-late-without-sets = walk.late-without-sets t P M N S c d m-limit n-limit m-room n_room

  -- the units whose end mark lies wholly in P have the same reports, at the same places
  pub demand-3-early : ends_before (length P) (reports t c (P ++ M ++ S)) ≡ ends_before (length P) (reports t d (P ++ N ++ S))
  demand-3-early = walk.demand-3-early t P M N S c d m-limit n-limit m-room n_room
