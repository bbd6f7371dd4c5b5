-- Reading a whole unit, as docs/RULES.md has it ('Refusal numbers', 'Units and bodies', 'Prefix unit').
use Rattle.std.specs.Prelude.{ℕ, List, leb, pos, length, drop}
use Rattle.bits.specs.Refusals.{pick, refusal, buffer_too_short}
use Rattle.bits.specs.Bits.{Bits, bytes_bits}
use Rattle.escape.specs.Body.{body, start_with}
use Rattle.table.specs.declared.table.Table.{Table}
use Rattle.syntax.specs.declared.context.UnitKind.{UnitKind}
use Rattle.syntax.specs.declared.context.PrefixKind.{PrefixKind}
use Rattle.syntax.specs.SliceHeader.{read_header}
use Rattle.syntax.specs.Prefix.{prefix}
use Rattle.parameter_sets.specs.SequenceSet.{sequence_set}
use Rattle.parameter_sets.specs.PictureSet.{picture_set}
use Rattle.unit.specs.declared.answer.UnitAnswer.{UnitAnswer}
use Rattle.unit.specs.declared.answer.UnitRead.{UnitRead}
use Rattle.unit.specs.declared.begin.Begun.{Begun}
use Rattle.unit.specs.Answer.{only, slice_answer, prefix_answer, sequence_answer, picture_answer}
use Rattle.unit.specs.Begin.{begun}

-- what is read, and scratch at exit
pub record UnitOut : Type 0 where
  pub read : UnitRead
  pub left : List ℕ

-- an answer that leaves scratch as it was
abbrev pub untouched : UnitAnswer → List ℕ → UnitOut
untouched a scratch = record { read = only a; left = scratch }

-- 26 where scratch is shorter than the unit; else scratch starts with the body, the unescaped bytes from `from` on, and its bits are read
unfoldable pub in_body : (Bits → UnitRead) → List ℕ → ℕ → List ℕ → UnitOut
in_body reads unit from scratch =
    pick (leb (length unit) (length scratch))
    (record { read = reads (bytes_bits (body 0 (drop from unit))); left = start_with (body 0 (drop from unit)) scratch })
    (untouched (UnitAnswer.Refused (refusal buffer_too_short (pos (length unit)))) scratch)

-- how the bits of a slice's body read, of a prefix unit's and of a parameter set's
unfoldable pub slice_bits : Table → UnitKind → Bits → UnitRead
slice_bits t kind s = slice_answer (read_header t kind s)

unfoldable pub prefix_bits : PrefixKind → Bits → UnitRead
prefix_bits kind s = prefix_answer ((prefix kind).read s 0)

unfoldable pub sequence_bits : Bits → UnitRead
sequence_bits s = sequence_answer (sequence_set s 0)

unfoldable pub picture_bits : Bits → UnitRead
picture_bits s = picture_answer (picture_set s 0)

abbrev pub after_begin : Table → List ℕ → List ℕ → Begun → UnitOut
after_begin t unit scratch (Begun.Slice kind from) = in_body (slice_bits t kind) unit from scratch
after_begin t unit scratch (Begun.«Prefix» kind) = in_body (prefix_bits kind) unit 4 scratch
after_begin t unit scratch Begun.SequenceSet = in_body sequence_bits unit 1 scratch
after_begin t unit scratch Begun.PictureSet = in_body picture_bits unit 1 scratch
after_begin t unit scratch (Begun.Other id) = untouched (UnitAnswer.Other id) scratch
after_begin t unit scratch (Begun.Refused r) = untouched (UnitAnswer.Refused r) scratch

unfoldable pub unit_read : Table → List ℕ → List ℕ → UnitOut
unit_read t unit scratch = after_begin t unit scratch (begun unit)
