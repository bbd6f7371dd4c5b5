-- Reading a unit and walking by cases, for the demands' theorems: what a refusal goes with, and what is left in scratch.
use Prim.Native.Nat.{ℕ}
use mathlib.Core.Path.{◌≡◌, refl}
use mathlib.Core.List.{List, [], ◌∷◌}
use mathlib.Core.Bool.{Bool, true, false}
use lib.Dec.{leb, eqb}
use lib.IntN.{pos}
use lib.ListN.{length, drop}
use native.Mathlib.Omega.{arith}
use Rattle.bits.specs.Refusals.{Res, got, no, pick, refusal, too_large, limit, buffer_too_short}
use Rattle.bits.specs.Bits.{Bits, bytes_bits}
use Rattle.bits.specs.declared.refusals.Refusal.{Refusal}
use Rattle.bits.proofs.Results.{cases}
use Rattle.nal.specs.declared.header.NalHeader.{NalHeader}
use Rattle.nal.specs.Header.{forbidden_zero_bit_of, header_from, header_of}
use Rattle.nal.specs.Extension.{extension_of}
use Rattle.escape.specs.Body.{body}
use Rattle.table.specs.declared.table.Table.{Table}
use Rattle.syntax.specs.declared.context.UnitKind.{UnitKind}
use Rattle.syntax.specs.declared.context.PrefixKind.{PrefixKind}
use Rattle.syntax.specs.declared.record.SliceHeader.{SliceHeader}
use Rattle.syntax.specs.declared.record.Prefix.{Prefix}
use Rattle.syntax.specs.SliceHeader.{read_header}
use Rattle.syntax.specs.Prefix.{prefix}
use Rattle.parameter_sets.specs.declared.sequence.SequenceSet.{SequenceSet}
use Rattle.parameter_sets.specs.declared.picture.PictureSet.{PictureSet}
use Rattle.parameter_sets.specs.SequenceSet.{sequence_set}
use Rattle.parameter_sets.specs.PictureSet.{picture_set}
use Rattle.unit.specs.declared.answer.UnitAnswer.{UnitAnswer}
use Rattle.unit.specs.declared.answer.UnitRead.{UnitRead}
use Rattle.unit.specs.declared.begin.Begun.{Begun}
use Rattle.unit.specs.Answer.{only, slice_answer, prefix_answer, sequence_answer, picture_answer}
use Rattle.unit.specs.Begin.{type_in, is_plain, has_extension, extended, with_extension, typed, with_header, begun}
use Rattle.unit.specs.Unit.{in_body, slice_bits, prefix_bits, sequence_bits, picture_bits, after_begin, unit_read}
use Rattle.walk.specs.declared.walk.Step.{Step}
use Rattle.walk.specs.Walked.{WalkOut, next_step, nothing, Reading, stepped, walk_by}
use Rattle.walk.proofs.Steps.{refused_over}
use Rattle.promises.specs.Demands.{body_left, left_by, scratch_after}
use Rattle.promises.proofs.Numbers.{Placed, Known, header-known, prefix-known, sequence-known, picture-known}
use Rattle.std.specs.Prelude.{Ok, Err}
use Rattle.std.specs.Prelude.{⊤, Result}

-- ---- what is read

-- a refusal has one of the numbers, a place where it arises in a body, and stands by itself
abbrev pub Alone : UnitRead → UnitAnswer → Type 0
Alone x (UnitAnswer.Slice n) = Unit {0}
Alone x UnitAnswer.«Prefix» = Unit {0}
Alone x (UnitAnswer.Sequence v) = Unit {0}
Alone x (UnitAnswer.Picture v) = Unit {0}
Alone x (UnitAnswer.Other id) = Unit {0}
Alone x (UnitAnswer.Refused r) = (x ≡ only (UnitAnswer.Refused r)) × Placed r.has_bit r.number

abbrev Fine : UnitRead → Type 0
Fine x = Alone x x.answer

slice-fine : (m : Res SliceHeader) → Known m → Fine (slice_answer m)
unfolding only
slice-fine (got h e) k = tt
slice-fine (no r) k = (refl, rw k.0 k.1)

prefix-fine : (m : Res Prefix) → Known m → Fine (prefix_answer m)
unfolding only
prefix-fine (got p e) k = tt
prefix-fine (no r) k = (refl, rw k.0 k.1)

sequence-fine : (m : Res SequenceSet) → Known m → Fine (sequence_answer m)
unfolding only
sequence-fine (got v e) k = tt
sequence-fine (no r) k = (refl, rw k.0 k.1)

picture-fine : (m : Res PictureSet) → Known m → Fine (picture_answer m)
unfolding only
picture-fine (got v e) k = tt
picture-fine (no r) k = (refl, rw k.0 k.1)

-- an answer without a record
other-fine : (id : ℕ) → Fine (only (UnitAnswer.Other id))
unfolding only
other-fine id = tt

refused-fine : (r : Refusal) → Placed r.has_bit r.number → Fine (only (UnitAnswer.Refused r))
unfolding only
refused-fine r k = (refl, k)

-- ---- the first bytes

-- a refusal of them has one of the numbers, and is not 26
abbrev pub Begins : Begun → Type 0
Begins (Begun.Slice kind from) = Unit {0}
Begins (Begun.«Prefix» kind) = Unit {0}
Begins Begun.SequenceSet = Unit {0}
Begins Begun.PictureSet = Unit {0}
Begins (Begun.Other id) = Unit {0}
Begins (Begun.Refused r) = Placed r.has_bit r.number × (eqb r.number buffer_too_short ≡ false)

begins-by : (c : Bool) (a b : Begun) → Begins a → Begins b → Begins (pick c a b)
begins-by true a b f g = f
begins-by false a b f g = g

extended-begins : (unit : List ℕ) (h : NalHeader) → Begins (with_extension h (extension_of unit))
unfolding extension_of extended
extended-begins unit h = cases (leb 4 (length unit)) (λ i. rw i (begins-by (eqb (type_in h) 14) _ _ tt tt)) (λ i. rw i ((tt, refl), refl))

typed-begins : (unit : List ℕ) (h : NalHeader) → Begins (typed unit h)
unfolding typed
typed-begins unit h =
    begins-by (is_plain (type_in h)) _ _ tt
    (begins-by (has_extension (type_in h)) _ _ (extended-begins unit h) (begins-by (eqb (type_in h) 7) _ _ tt (begins-by (eqb (type_in h) 8) _ _ tt tt)))

header-begins : (unit : List ℕ) → Begins (with_header unit (header_of unit))
unfolding header_of header_from
header-begins [] = ((tt, refl), refl)
header-begins (b ∷ s) = cases (eqb (forbidden_zero_bit_of b) 0) (λ i. rw i (typed-begins (b ∷ s) _)) (λ i. rw i ((tt, refl), refl))

pub begun-begins : (unit : List ℕ) → Begins (begun unit)
unfolding begun
begun-begins unit = begins-by (leb (length unit) limit) _ _ (header-begins unit) ((tt, refl), refl)

-- ---- the whole unit

module _ (t : Table) (unit scratch : List ℕ) where
  in-body : (reads : Bits → UnitRead) (from : ℕ) → ((s : Bits) → Fine (reads s)) → Fine (in_body reads unit from scratch).read
  unfolding in_body only
  in-body reads from f = cases (leb (length unit) (length scratch)) (λ i. rw i (f (bytes_bits (body 0 (drop from unit))))) (λ i. rw i (refl, (tt, refl)))

  slice-bits : (kind : UnitKind) (s : Bits) → Fine (slice_bits t kind s)
  unfolding slice_bits
  slice-bits kind s = slice-fine (read_header t kind s) (header-known t kind s)

  prefix-bits : (kind : PrefixKind) (s : Bits) → Fine (prefix_bits kind s)
  unfolding prefix_bits
  prefix-bits kind s = prefix-fine ((prefix kind).read s 0) (prefix-known kind s)

  sequence-bits : (s : Bits) → Fine (sequence_bits s)
  unfolding sequence_bits
  sequence-bits s = sequence-fine (sequence_set s 0) (sequence-known s)

  picture-bits : (s : Bits) → Fine (picture_bits s)
  unfolding picture_bits
  picture-bits s = picture-fine (picture_set s 0) (picture-known s)

  pub unit-fine : Fine (unit_read t unit scratch).read
  unfolding unit_read
  unit-fine = go (begun unit) (begun-begins unit)
    where
      go : (b : Begun) → Begins b → Fine (after_begin t unit scratch b).read
      go (Begun.Slice kind from) k = in-body (slice_bits t kind) from (slice-bits kind)
      go (Begun.«Prefix» kind) k = in-body (prefix_bits kind) 4 (prefix-bits kind)
      go Begun.SequenceSet k = in-body sequence_bits 1 sequence-bits
      go Begun.PictureSet k = in-body picture_bits 1 picture-bits
      go (Begun.Other id) k = other-fine id
      go (Begun.Refused r) k = refused-fine r k.0

  body-left : (reads : Bits → UnitRead) (from : ℕ) → (in_body reads unit from scratch).left ≡ body_left unit from scratch
  unfolding in_body
  body-left reads from = cases (leb (length unit) (length scratch)) (λ i. rw i) (λ i. rw i)

  pub unit_left : (unit_read t unit scratch).left ≡ scratch_after unit scratch
  unfolding unit_read
  unit_left = go (begun unit)
    where
      go : (b : Begun) → (after_begin t unit scratch b).left ≡ left_by b unit scratch
      go (Begun.Slice kind from) = body-left _ from
      go (Begun.«Prefix» kind) = body-left _ 4
      go Begun.SequenceSet = body-left _ 1
      go Begun.PictureSet = body-left _ 1
      go (Begun.Other id) = refl
      go (Begun.Refused r) = refl

-- ---- a step of a walk, whatever way units are read

-- a step to no unit leaves scratch and table as they were; one that is refused is 27
abbrev pub Idle : Table → List ℕ → WalkOut → Step → Type 0
Idle t scratch o (Step.Unit place length next) = Unit {0}
Idle t scratch o Step.End = (o.left ≡ scratch) × (o.table ≡ t)
Idle t scratch o (Step.Refused r) = ((o.left ≡ scratch) × (o.table ≡ t)) × (r ≡ refusal too_large (pos 0))

module _ (R : Reading) (t : Table) (s : List ℕ) (from : ℕ) (scratch : List ℕ) where
  pub walk-idle : Idle t scratch (walk_by R next_step t s from scratch) (walk_by R next_step t s from scratch).walked.step
  unfolding nothing
  walk-idle = go (next_step s from) refl
    where
      go : (k : Step) → next_step s from ≡ k → Idle t scratch (stepped R t s scratch k) (stepped R t s scratch k).walked.step
      go (Step.Unit place length next) e = tt
      go Step.End e = (refl, refl)
      go (Step.Refused r) e = ((refl, refl), (refused_over s from e).1)

-- ---- the table

-- what is done is not refused
pub not_done : {P : Type 0} {r : Refusal} → ◌≡◌ {A = Result ⊤ Refusal} (Ok tt) (Err r) → P
not_done e = absurd (let z : ◌≡◌ {A = ℕ} 0 1 = (cc e) in omega arith)
