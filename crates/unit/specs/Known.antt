-- Reading a unit for a caller who knows that no 00 00 03 begins before a place of it: the bytes before that place are taken as they stand. Where that is so, it is
-- `unit_read` (`known_same` in proofs/Known.antt).
use Rattle.std.specs.Prelude.{ℕ, List, leb, pos, length}
use Rattle.bits.specs.Refusals.{pick, refusal, buffer_too_short}
use Rattle.bits.specs.Bits.{Bits, bytes_bits}
use Rattle.escape.specs.Body.{start_with}
use Rattle.escape.specs.Known.{known_body}
use Rattle.table.specs.declared.table.Table.{Table}
use Rattle.unit.specs.declared.answer.UnitAnswer.{UnitAnswer}
use Rattle.unit.specs.declared.answer.UnitRead.{UnitRead}
use Rattle.unit.specs.declared.begin.Begun.{Begun}
use Rattle.unit.specs.declared.head.UnitHead.{UnitHead}
use Rattle.unit.specs.Begin.{begun}
use Rattle.unit.specs.Head.{by_head}
use Rattle.unit.specs.Unit.{UnitOut, untouched, slice_bits, prefix_bits, sequence_bits, picture_bits}

-- as `in_body`
unfoldable pub in_known : ℕ → (Bits → UnitRead) → List ℕ → ℕ → List ℕ → UnitOut
in_known known reads unit from scratch =
    pick (leb (length unit) (length scratch))
    (record { read = reads (bytes_bits (known_body unit from known)); left = start_with (known_body unit from known) scratch })
    (untouched (UnitAnswer.Refused (refusal buffer_too_short (pos (length unit)))) scratch)

abbrev pub after_known : ℕ → Table → List ℕ → List ℕ → Begun → UnitOut
after_known known t unit scratch (Begun.Slice kind from) = in_known known (slice_bits t kind) unit from scratch
after_known known t unit scratch (Begun.«Prefix» kind) = in_known known (prefix_bits kind) unit 4 scratch
after_known known t unit scratch Begun.SequenceSet = in_known known sequence_bits unit 1 scratch
after_known known t unit scratch Begun.PictureSet = in_known known picture_bits unit 1 scratch
after_known known t unit scratch (Begun.Other id) = untouched (UnitAnswer.Other id) scratch
after_known known t unit scratch (Begun.Refused r) = untouched (UnitAnswer.Refused r) scratch

unfoldable pub unit_known : ℕ → Table → List ℕ → List ℕ → UnitOut
unit_known known t unit scratch = after_known known t unit scratch (begun unit)

-- the body of a unit whose head is given
unfoldable pub body_known : ℕ → Table → UnitHead → List ℕ → List ℕ → UnitOut
body_known known t h unit scratch = by_head h unit scratch (unit_known known t unit scratch)
