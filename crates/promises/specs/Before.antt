-- Reading a unit as it was defined before the table kept the change cycle's width (M-105): by the format that works it out.
use Rattle.std.specs.Prelude.{ℕ, ◌+◌, List, pos, drop}
use Rattle.bits.specs.Refusals.{Res, got, no, bind, pick, refusal_at}
use Rattle.bits.specs.Bits.{Bits}
use Rattle.table.specs.declared.table.Table.{Table}
use Rattle.syntax.specs.declared.context.UnitKind.{UnitKind}
use Rattle.syntax.specs.declared.record.SliceHeader.{SliceHeader}
use Rattle.syntax.specs.SliceHeader.{any_set}
use Rattle.syntax.specs.Before.{header_before}
use Rattle.unit.specs.declared.begin.Begun.{Begun}
use Rattle.unit.specs.declared.answer.UnitAnswer.{UnitAnswer}
use Rattle.unit.specs.Answer.{slice_answer}
use Rattle.unit.specs.Begin.{begun}
use Rattle.unit.specs.Unit.{UnitOut, untouched, in_body, prefix_bits, sequence_bits, picture_bits}

abbrev pub read_before : Table → UnitKind → Bits → Res SliceHeader
read_before t n s = bind ((header_before t n).read s 0) (λ h e. pick (any_set (drop (e + 1) s)) (got h e) (no (refusal_at 22 (pos 0) e)))

abbrev pub begun_before : Table → List ℕ → List ℕ → Begun → UnitOut
begun_before t u scratch (Begun.Slice kind from) = in_body (λ s. slice_answer (read_before t kind s)) u from scratch
begun_before t u scratch (Begun.«Prefix» kind) = in_body (prefix_bits kind) u 4 scratch
begun_before t u scratch Begun.SequenceSet = in_body sequence_bits u 1 scratch
begun_before t u scratch Begun.PictureSet = in_body picture_bits u 1 scratch
begun_before t u scratch (Begun.Other id) = untouched (UnitAnswer.Other id) scratch
begun_before t u scratch (Begun.Refused r) = untouched (UnitAnswer.Refused r) scratch

-- reading a unit
abbrev pub unit_before : Table → List ℕ → List ℕ → UnitOut
unit_before t u scratch = begun_before t u scratch (begun u)
