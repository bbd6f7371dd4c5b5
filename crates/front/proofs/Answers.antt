-- A unit's answer and words, by what reading its body said.
use Prim.Native.Nat.{ℕ}
use mathlib.Core.Path.{◌≡◌, refl, sym, ap, ◌∙◌}
use mathlib.Core.List.{List}
use lib.ListN.{replicate}
use native.Mathlib.Omega.{arith}
use Rattle.bits.specs.declared.refusals.Refusal.{Refusal}
use Rattle.bits.specs.declared.read.Cursor.{Cursor}
use Rattle.bits.specs.Refusals.{Res, got, no}
use Rattle.bits.specs.Bits.{Bits}
use Rattle.table.specs.declared.table.Table.{Table}
use Rattle.syntax.specs.declared.context.UnitKind.{UnitKind}
use Rattle.syntax.specs.declared.context.PrefixKind.{PrefixKind}
use Rattle.syntax.specs.declared.record.SliceHeader.{SliceHeader}
use Rattle.syntax.specs.declared.record.Prefix.{Prefix}
use Rattle.syntax.specs.SliceHeader.{read_header}
use Rattle.syntax.specs.Prefix.{prefix}
use Rattle.lists.specs.declared.list_words.PrefixShort.{PrefixShort}
use Rattle.lists.specs.Leaves.{leaves}
use Rattle.lists.specs.ListsLent.{prefix_short, prefix_step, prefix_left}
use Rattle.header.specs.Short.{HeaderWords, header_end, header_left}
use Rattle.parameter_sets.specs.declared.sequence.SequenceSet.{SequenceSet}
use Rattle.parameter_sets.specs.declared.picture.PictureSet.{PictureSet}
use Rattle.parameter_sets.specs.SequenceSet.{sequence_set}
use Rattle.parameter_sets.specs.PictureSet.{picture_set}
use Rattle.unit.specs.declared.answer.UnitAnswer.{UnitAnswer}
use Rattle.unit.specs.declared.answer.UnitRead.{UnitRead}
use Rattle.unit.specs.declared.into.ShortAnswer.{ShortAnswer}
use Rattle.unit.specs.Answer.{only, slice_answer, prefix_answer}
use Rattle.unit.specs.Unit.{UnitOut, untouched, slice_bits, prefix_bits, sequence_bits, picture_bits}
use Rattle.unit.specs.Into.{short_answer, Lent, blank, words_after, ReadInto}
use Rattle.std.specs.Prelude.{Result, Ok, Err}
use Rattle.bits.specs.Answers.{Read, as_read}
use Rattle.bits.proofs.Unique.{one-answer}

-- the answer r and the words w for a unit of which u is read, in words that were b
abbrev Right : UnitRead → ShortAnswer → Lent → Lent → Type 0
Right u r b w = (r ≡ short_answer u) × (w ≡ words_after u b)

never : {P : Type 0} → ◌≡◌ {A = ℕ} 0 1 → P
never e = absurd (omega arith)

-- ---- a slice

slice_at : (m : Res SliceHeader) (b : HeaderWords) (base : List ℕ) {w : HeaderWords} (c : Cursor) → Ok c ≡ header_end m → w ≡ header_left m b
    → Right (slice_answer m) (ShortAnswer.Slice c.at) (record { header = b; base = base }) (record { header = w; base = base })
unfolding header_end header_left short_answer words_after
slice_at (got h e) b base c p q = let i : c.at ≡ e = cc in (rw i, rw q)
slice_at (no r) b base c p q = never (cc)

-- a refusal has left zeros in the header's words, and the words of a prefix unit's list are cleared
slice-none : (m : Res SliceHeader) (b : Lent) {w : HeaderWords} (r : Refusal) → Err r ≡ header_end m → w ≡ header_left m b.header
    → Right (slice_answer m) (ShortAnswer.Refused r) b (record { header = w; base = replicate 198 0 })
unfolding header_end header_left short_answer words_after only
slice-none (got h e) b r p q = never (cc)
slice-none (no x) b r p q = let i : r ≡ x = cc in (rw i, rw q)

module _ (t : Table) (kind : UnitKind) (s : Bits) where
  pub slice-right : (b : HeaderWords) (base : List ℕ) {a : Result Cursor Refusal} {w : HeaderWords} → a ≡ header_end (read_header t kind s) → w ≡ header_left (read_header t kind s) b → (c : Cursor) → a ≡ Ok c
      → Right (slice_bits t kind s) (ShortAnswer.Slice c.at) (record { header = b; base = base }) (record { header = w; base = base })
  unfolding slice_bits
  slice-right b base p q c e = slice_at (read_header t kind s) b base c (sym e ∙ p) q

  pub slice-cleared : (b : Lent) {a : Result Cursor Refusal} {w : HeaderWords} → a ≡ header_end (read_header t kind s) → w ≡ header_left (read_header t kind s) b.header → (r : Refusal) → a ≡ Err r
      → Right (slice_bits t kind s) (ShortAnswer.Refused r) b (record { header = w; base = replicate 198 0 })
  unfolding slice_bits
  slice-cleared b p q r e = slice-none (read_header t kind s) b r (sym e ∙ p) q

-- ---- a prefix unit

prefix-at : (m : Res Prefix) (h : HeaderWords) (b : List ℕ) {w : List ℕ} (v : PrefixShort) (c : Cursor) → Ok (v, c) ≡ prefix_step m → w ≡ prefix_left m
    → Right (prefix_answer m) (ShortAnswer.«Prefix» v) (record { header = h; base = b }) (record { header = h; base = w })
unfolding prefix_step leaves short_answer words_after
prefix-at (got p e) h b v c x q = let i : v ≡ prefix_short p = (one-answer x).0 in (rw i, rw q)
prefix-at (no r) h b v c x q = never (cc)

prefix-none : (m : Res Prefix) (b : Lent) {w : Lent} (r : Refusal) → Err r ≡ prefix_step m → w ≡ blank → Right (prefix_answer m) (ShortAnswer.Refused r) b w
unfolding prefix_step short_answer words_after only
prefix-none (got p e) b r x q = never (cc)
prefix-none (no y) b r x q = let i : r ≡ y = cc in (rw i, q)

module _ (kind : PrefixKind) (s : Bits) where
  pub prefix-right : (h : HeaderWords) (b : List ℕ) {a : Read PrefixShort} {w : List ℕ} → a ≡ prefix_step ((prefix kind).read s 0) → w ≡ prefix_left ((prefix kind).read s 0)
      → (v : PrefixShort) (c : Cursor) → a ≡ Ok (v, c) → Right (prefix_bits kind s) (ShortAnswer.«Prefix» v) (record { header = h; base = b }) (record { header = h; base = w })
  unfolding prefix_bits
  prefix-right h b p q v c e = prefix-at ((prefix kind).read s 0) h b v c (sym e ∙ p) q

  pub prefix-cleared : (b : Lent) {a : Read PrefixShort} {w : Lent} → a ≡ prefix_step ((prefix kind).read s 0) → (r : Refusal) → a ≡ Err r → w ≡ blank
      → Right (prefix_bits kind s) (ShortAnswer.Refused r) b w
  unfolding prefix_bits
  prefix-cleared b p r e q = prefix-none ((prefix kind).read s 0) b r (sym e ∙ p) q

-- ---- a parameter set, which stands in the answer itself

module _ (s : Bits) (b : Lent) where
  pub sequence-right : (a : Read SequenceSet) → as_read a ≡ sequence_set s 0 → (v : SequenceSet) (c : Cursor) → a ≡ Ok (v, c)
      → Right (sequence_bits s) (ShortAnswer.Sequence v) b b
  unfolding sequence_bits short_answer words_after only
  sequence-right a p v c e = let k : sequence_set s 0 ≡ got v c.at = sym p ∙ ap as_read e in rw k (refl, refl)

  pub sequence-cleared : (a : Read SequenceSet) {w : Lent} → as_read a ≡ sequence_set s 0 → (r : Refusal) → a ≡ Err r → w ≡ blank
      → Right (sequence_bits s) (ShortAnswer.Refused r) b w
  unfolding sequence_bits short_answer words_after only
  sequence-cleared a p r e q = let k : sequence_set s 0 ≡ no r = sym p ∙ ap as_read e in rw k (refl, q)

  pub picture-right : (a : Read PictureSet) → as_read a ≡ picture_set s 0 → (v : PictureSet) (c : Cursor) → a ≡ Ok (v, c)
      → Right (picture_bits s) (ShortAnswer.Picture v) b b
  unfolding picture_bits short_answer words_after only
  picture-right a p v c e = let k : picture_set s 0 ≡ got v c.at = sym p ∙ ap as_read e in rw k (refl, refl)

  pub picture-cleared : (a : Read PictureSet) {w : Lent} → as_read a ≡ picture_set s 0 → (r : Refusal) → a ≡ Err r → w ≡ blank
      → Right (picture_bits s) (ShortAnswer.Refused r) b w
  unfolding picture_bits short_answer words_after only
  picture-cleared a p r e q = let k : picture_set s 0 ≡ no r = sym p ∙ ap as_read e in rw k (refl, q)

-- ---- another unit

pub other-into : {o : UnitOut} {scratch : List ℕ} (id : ℕ) → o ≡ untouched (UnitAnswer.Other id) scratch → (w : Lent) → ReadInto o (ShortAnswer.Other id) scratch w w
unfolding short_answer words_after only
other-into id e w = rw e (record { answered = refl; left = refl; words = refl })
