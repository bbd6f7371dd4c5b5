-- The cases of reading a unit without its body, for any table; and that it answers as reading the unit does, where scratch is long enough for that.
use Prim.Native.Nat.{ℕ}
use mathlib.Core.Path.{◌≡◌, ap}
use mathlib.Core.List.{List}
use mathlib.Core.Bool.{true, false}
use native.Mathlib.Omega.{arith}
use borrow.Author.Tests.{le-leb}
use lib.IntN.{pos}
use lib.ListN.{length, replicate, length-replicate}
use Rattle.bits.specs.Refusals.{refusal}
use Rattle.bits.specs.declared.refusals.Refusal.{Refusal}
use Rattle.bits.specs.Bits.{Bits}
use Rattle.table.specs.declared.table.Table.{Table}
use Rattle.syntax.specs.declared.context.UnitKind.{UnitKind}
use Rattle.syntax.specs.declared.context.PrefixKind.{PrefixKind}
use Rattle.unit.specs.declared.answer.UnitAnswer.{UnitAnswer}
use Rattle.unit.specs.declared.answer.UnitRead.{UnitRead}
use Rattle.unit.specs.declared.begin.Begun.{Begun}
use Rattle.unit.specs.declared.head.UnitHead.{UnitHead}
use Rattle.unit.specs.Begin.{begun}
use Rattle.unit.specs.Unit.{untouched, in_body, slice_bits, prefix_bits, sequence_bits, picture_bits, unit_read}
use Rattle.unit.specs.Head.{not_its_head, head_of, same_head}
use Rattle.cut.specs.Seam.{body_bits}
use Rattle.front.specs.Front.{unit_front, body_front}

-- a body that is read with scratch as long as the unit
whole : (reads : Bits → UnitRead) (unit : List ℕ) (from : ℕ) → (in_body reads unit from (replicate (length unit) 0)).read ≡ reads (body_bits unit from)
unfolding in_body
whole reads unit from = rw (length-replicate {A = ℕ} (length unit) 0, le-leb (length unit) (length unit) (omega arith))

module _ (t : Table) (unit scratch : List ℕ) where
  pub front-slice : (kind : UnitKind) (from : ℕ) → begun unit ≡ Begun.Slice kind from → unit_front t unit scratch ≡ record { read = slice_bits t kind (body_bits unit from); left = scratch }
  unfolding unit_front unit_read
  front-slice kind from e = rw e (ap (λ (u : UnitRead). record { read = u; left = scratch }) (whole (slice_bits t kind) unit from))

  pub front-prefix : (kind : PrefixKind) → begun unit ≡ Begun.«Prefix» kind → unit_front t unit scratch ≡ record { read = prefix_bits kind (body_bits unit 4); left = scratch }
  unfolding unit_front unit_read
  front-prefix kind e = rw e (ap (λ (u : UnitRead). record { read = u; left = scratch }) (whole (prefix_bits kind) unit 4))

  pub front-sequence : begun unit ≡ Begun.SequenceSet → unit_front t unit scratch ≡ record { read = sequence_bits (body_bits unit 1); left = scratch }
  unfolding unit_front unit_read
  front-sequence e = rw e (ap (λ (u : UnitRead). record { read = u; left = scratch }) (whole sequence_bits unit 1))

  pub front-picture : begun unit ≡ Begun.PictureSet → unit_front t unit scratch ≡ record { read = picture_bits (body_bits unit 1); left = scratch }
  unfolding unit_front unit_read
  front-picture e = rw e (ap (λ (u : UnitRead). record { read = u; left = scratch }) (whole picture_bits unit 1))

  -- units without a body that is read
  pub front-other : (id : ℕ) → begun unit ≡ Begun.Other id → unit_front t unit scratch ≡ untouched (UnitAnswer.Other id) scratch
  unfolding unit_front unit_read
  front-other id e = rw e

  pub front-none : (r : Refusal) → begun unit ≡ Begun.Refused r → unit_front t unit scratch ≡ untouched (UnitAnswer.Refused r) scratch
  unfolding unit_front unit_read
  front-none r e = rw e

  module _ (h : UnitHead) where
    -- a head that is the unit's own
    pub front-own : same_head h (head_of unit) ≡ true → body_front t h unit scratch ≡ unit_front t unit scratch
    unfolding body_front
    front-own e = rw e

    -- 34
    pub front-34 : same_head h (head_of unit) ≡ false → body_front t h unit scratch ≡ untouched (UnitAnswer.Refused (refusal not_its_head (pos 0))) scratch
    unfolding body_front
    front-34 e = rw e
