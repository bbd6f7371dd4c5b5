-- Writing a slice header into a lent buffer, as docs/RULES.md has it ('Refusal numbers', 'The writer').
use Rattle.std.specs.Prelude.{ℕ, List, Bool, true, ◌&&◌, leb, ℤ, pos}
use Rattle.bits.specs.Refusals.{pick, refusal}
use Rattle.bits.specs.Put.{Written, written}
use Rattle.bits.specs.declared.refusals.Refusal.{Refusal}
use Rattle.table.specs.declared.sets.Picture.{Picture}
use Rattle.table.specs.declared.table.Table.{Table}
use Rattle.table.specs.Tables.{found_picture, picture_at, sequence_at}
use Rattle.syntax.specs.declared.context.UnitKind.{UnitKind}
use Rattle.syntax.specs.declared.record.SliceHeader.{SliceHeader}
use Rattle.syntax.specs.SliceHeader.{header}
use Rattle.header.specs.Short.{HeaderWords}
use Rattle.record.specs.Record.{header_from, plain}
use Rattle.writer.specs.declared.given.ExtensionGiven.{ExtensionGiven}
use Rattle.writer.specs.Given.{kind_given}
use Rattle.std.specs.Prelude.{Result, Ok, Err, Option, Some, None}
use Rattle.bits.specs.declared.read.Cursor.{Cursor}
use Rattle.table.specs.declared.sets.Sequence.{Sequence}
use Rattle.writer.specs.declared.sets.NamedSets.{NamedSets}

-- ---- 8, 9 and 10, with the values that reading has

abbrev pub with_sequence : Picture → ℕ → Option Sequence → Result NamedSets Refusal
with_sequence p w (Some s) = Ok (record { picture = p; cycle_width = w; sequence = s })
with_sequence p w None = Err (refusal 10 (pos p.seq_parameter_set_id))

abbrev pub with_picture : Table → ℕ → Option (Picture × ℕ) → Result NamedSets Refusal
with_picture t id (found_picture p w) = with_sequence p w (sequence_at t p.seq_parameter_set_id)
with_picture t id None = Err (refusal 9 (pos id))

unfoldable pub sets_for : Table → ℕ → Result NamedSets Refusal
sets_for t id = pick (leb id 255) (with_picture t id (picture_at t id)) (Err (refusal 8 (pos id)))

-- ---- the header

-- the words in arrays that are lent to be read
abbrev pub held_words : List ℕ → List ℤ → List ℕ → List ℕ → List ℕ → List ℤ → List ℤ → HeaderWords
held_words numbers signed l0 l1 marking w0 w1 = record { numbers = numbers; signed = signed; l0 = l0; l1 = l1; marking = marking; w0 = w0; w1 = w1 }

-- the answer, and the buffer at exit
pub record HeaderOut : Type 0 where
  pub answer : Result ℕ Refusal
  pub left : List ℕ

-- a refusal, which leaves the buffer as it was
abbrev pub untouched : Refusal → List ℕ → HeaderOut
untouched r out = record { answer = Err r; left = out }

-- the answer is the place after the header's bits: how many they are
abbrev pub wrote_of : Result Cursor Refusal → Result ℕ Refusal
wrote_of (Ok c) = Ok c.at
wrote_of (Err r) = Err r

abbrev pub out_of : Written → HeaderOut
out_of w = record { answer = wrote_of w.answer; left = w.left }

-- 25, where there is no such record or where it has no bits, then 26, then the header's bits from the front of the buffer, with zeros to the end of their last byte
unfoldable pub bits_out : Bool → Table → UnitKind → SliceHeader → List ℕ → HeaderOut
bits_out ok t n h out = out_of (written (ok && (header t n).good h) ((header t n).bits h) out 0)

abbrev pub after_sets : Bool → Table → UnitKind → SliceHeader → List ℕ → Result NamedSets Refusal → HeaderOut
after_sets ok t n h out (Ok s) = bits_out ok t n h out
after_sets ok t n h out (Err r) = untouched r out

abbrev pub after_kind : Bool → Table → SliceHeader → List ℕ → Result UnitKind Refusal → HeaderOut
after_kind ok t h out (Ok n) = after_sets ok t n h out (sets_for t h.pic_parameter_set_id)
after_kind ok t h out (Err r) = untouched r out

-- a first byte, an extension or none, and the record, where there is one, by the table
unfoldable pub write_where : Bool → Table → ℕ → ExtensionGiven → SliceHeader → List ℕ → HeaderOut
write_where ok t first x h out = after_kind ok t h out (kind_given first x)

-- a record
abbrev pub write_header : Table → ℕ → ExtensionGiven → SliceHeader → List ℕ → HeaderOut
write_header t first x h out = write_where true t first x h out

-- the record that words hold. There is none where a mark or a flag is over 1 or a count over its list's capacity; words behind a count are not looked at
unfoldable pub write_words : Table → ℕ → ExtensionGiven → HeaderWords → List ℕ → HeaderOut
write_words t first x w out = write_where (plain w) t first x (header_from w) out
