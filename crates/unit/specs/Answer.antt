-- What reading a unit answers: what the answer does not speak of is zero.
use Rattle.bits.specs.Refusals.{Res, got, no}
use Rattle.syntax.specs.declared.record.SliceHeader.{SliceHeader}
use Rattle.syntax.specs.declared.record.Prefix.{Prefix}
use Rattle.syntax.specs.Absent.{no_header, no_prefix}
use Rattle.parameter_sets.specs.declared.sequence.SequenceSet.{SequenceSet}
use Rattle.parameter_sets.specs.declared.picture.PictureSet.{PictureSet}
use Rattle.unit.specs.declared.answer.UnitAnswer.{UnitAnswer}
use Rattle.unit.specs.declared.answer.UnitRead.{UnitRead}

-- an answer without a record
unfoldable pub only : UnitAnswer → UnitRead
only a = record { answer = a; header = no_header; prefix = no_prefix }

-- a header and its length in bits; a refusal is passed on
abbrev pub slice_answer : Res SliceHeader → UnitRead
slice_answer (got h e) = record { answer = UnitAnswer.Slice e; header = h; prefix = no_prefix }
slice_answer (no r) = only (UnitAnswer.Refused r)

abbrev pub prefix_answer : Res Prefix → UnitRead
prefix_answer (got p e) = record { answer = UnitAnswer.«Prefix»; header = no_header; prefix = p }
prefix_answer (no r) = only (UnitAnswer.Refused r)

-- a parameter set stands in the answer itself

abbrev pub sequence_answer : Res SequenceSet → UnitRead
sequence_answer (got v e) = only (UnitAnswer.Sequence v)
sequence_answer (no r) = only (UnitAnswer.Refused r)

abbrev pub picture_answer : Res PictureSet → UnitRead
picture_answer (got v e) = only (UnitAnswer.Picture v)
picture_answer (no r) = only (UnitAnswer.Refused r)
