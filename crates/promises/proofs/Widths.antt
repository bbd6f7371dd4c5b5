-- M-105: the change cycle's width, kept with each picture set. After any list of puts, refused ones among them, every width is the true one, so that reading and
-- writing answer as they did when the width was worked out for each slice.
use Prim.Native.Nat.{ℕ, ◌+◌}
use mathlib.Core.Path.{◌≡◌, refl}
use mathlib.Core.List.{List}
use lib.IntN.{pos}
use lib.ListN.{drop}
use Rattle.bits.specs.Refusals.{got, no, bind, pick, refusal_at}
use Rattle.bits.specs.Bits.{Bits}
use Rattle.table.specs.declared.table.Table.{Table}
use Rattle.table.specs.Made.{TrueWidths, BlankSequences, BlankPictures, Change, made}
use Rattle.table.proofs.Widths.{made-sound, made-true}
use Rattle.syntax.specs.declared.context.UnitKind.{UnitKind}
use Rattle.syntax.specs.declared.record.SliceHeader.{SliceHeader}
use Rattle.syntax.specs.SliceHeader.{any_set, read_header}
use Rattle.syntax.proofs.Before.{header-same}
use Rattle.unit.specs.declared.begin.Begun.{Begun}
use Rattle.unit.specs.Answer.{slice_answer}
use Rattle.unit.specs.Begin.{begun}
use Rattle.unit.specs.Unit.{in_body, slice_bits, after_begin, unit_read}
use Rattle.writer.specs.declared.given.ExtensionGiven.{ExtensionGiven}
use Rattle.writer.specs.Write.{write_header}
use Rattle.writer.specs.Before.{write_before}
use Rattle.writer.proofs.Before.{written_same}
use Rattle.promises.specs.Before.{read_before, begun_before, unit_before}

-- ---- where widths are true

module _ (t : Table) (v : TrueWidths t) where
  read_same : (n : UnitKind) (s : Bits) → read_header t n s ≡ read_before t n s
  unfolding read_header
  read_same n s = λ i. bind ((header-same t v n i).read s 0) (λ h e. pick (any_set (drop (e + 1) s)) (got h e) (no (refusal_at 22 (pos 0) e)))

  begun-same : (u scratch : List ℕ) (b : Begun) → after_begin t u scratch b ≡ begun_before t u scratch b
  unfolding slice_bits
  begun-same u scratch (Begun.Slice kind from) = λ i. in_body (λ s. slice_answer (read_same kind s i)) u from scratch
  begun-same u scratch (Begun.«Prefix» there) = refl
  begun-same u scratch Begun.SequenceSet = refl
  begun-same u scratch Begun.PictureSet = refl
  begun-same u scratch (Begun.Other id) = refl
  begun-same u scratch (Begun.Refused r) = refl

  -- a unit reads, and a record is written, as before
  pub widths-as-read : (u scratch : List ℕ) → unit_read t u scratch ≡ unit_before t u scratch
  unfolding unit_read
  widths-as-read u scratch = begun-same u scratch (begun u)

  pub widths-as-written : (first : ℕ) (x : ExtensionGiven) (h : SliceHeader) (out : List ℕ) → write_header t first x h out ≡ write_before t first x h out
  widths-as-written = written_same t v

-- ---- and they are, after any list of puts

pub widths-true : (l : List Change) → TrueWidths (made l)
widths-true = made-true

-- entries that hold no set are all zero
pub widths-blank : (l : List Change) → BlankSequences (made l).sequences × BlankPictures (made l).pictures
widths-blank l = let s = made-sound l in (s.blank-sequences, s.blank-pictures)

pub widths-read : (l : List Change) (u scratch : List ℕ) → unit_read (made l) u scratch ≡ unit_before (made l) u scratch
widths-read l = widths-as-read (made l) (made-true l)

pub widths-written : (l : List Change) (first : ℕ) (x : ExtensionGiven) (h : SliceHeader) (out : List ℕ) → write_header (made l) first x h out ≡ write_before (made l) first x h out
widths-written l = widths-as-written (made l) (made-true l)
