-- A unit read into lent words: each body's answer and what it leaves in the words, and the words cleared after a refusal.
use Prim.Native.Nat.{ℕ}
use mathlib.Core.Path.{◌≡◌, refl, sym, ◌∙◌}
use mathlib.Core.List.{List}
use native.Mathlib.Omega.{arith}
use Rattle.bits.specs.Bits.{Bits}
use Rattle.bits.specs.Refusals.{Res, got, no}
use Rattle.bits.specs.declared.refusals.Refusal.{Refusal}
use Rattle.table.specs.declared.table.Table.{Table}
use Rattle.syntax.specs.declared.context.UnitKind.{UnitKind}
use Rattle.syntax.specs.declared.context.PrefixKind.{PrefixKind}
use Rattle.syntax.specs.declared.record.SliceHeader.{SliceHeader}
use Rattle.syntax.specs.declared.record.Prefix.{Prefix}
use Rattle.syntax.specs.SliceHeader.{read_header}
use Rattle.syntax.specs.Prefix.{prefix}
use Rattle.lists.specs.Leaves.{leaves}
use Rattle.lists.specs.ListsLent.{prefix_step, prefix_left}
use Rattle.header.specs.Short.{HeaderWords, header_end, header_left}
use Rattle.parameter_sets.specs.SequenceSet.{sequence_set}
use Rattle.parameter_sets.specs.PictureSet.{picture_set}
use Rattle.unit.specs.declared.answer.UnitAnswer.{UnitAnswer}
use Rattle.unit.specs.declared.answer.UnitRead.{UnitRead}
use Rattle.unit.specs.declared.into.ShortAnswer.{ShortAnswer}
use Rattle.unit.specs.Answer.{only, slice_answer, prefix_answer}
use Rattle.unit.specs.Unit.{UnitOut, untouched, slice_bits, prefix_bits, sequence_bits, picture_bits}
use Rattle.unit.specs.Into.{short, short_answer, Lent, blank, after, words_after, ReadInto, slice_short, body_short, sequence_short, picture_short, Held, Taken}
use Rattle.std.specs.Prelude.{Result, Ok, Err}
use Rattle.bits.specs.Answers.{Read, as_read}
use Rattle.bits.specs.declared.read.Cursor.{Cursor}
use Rattle.parameter_sets.specs.declared.sequence.SequenceSet.{SequenceSet}
use Rattle.parameter_sets.specs.declared.picture.PictureSet.{PictureSet}
use Rattle.lists.specs.declared.list_words.PrefixShort.{PrefixShort}

-- ---- the body of a slice

slice-held : (m : Res SliceHeader) (b : HeaderWords) {a : Result Cursor Refusal} {w : HeaderWords} → a ≡ header_end m → w ≡ header_left m b → (base : List ℕ)
    → (slice_short a ≡ short_answer (slice_answer m)) × Held (slice_short a) (slice_answer m) (record { header = b; base = base }) (record { header = w; base = base })
unfolding header_end header_left short_answer words_after only
slice-held (got h e) b p q base = rw p (refl, rw q)
slice-held (no r) b p q base = rw p (refl, tt)

module _ {o : UnitOut} {left : List ℕ} where
  pub slice_taken : (t : Table) (kind : UnitKind) (s : Bits) → o ≡ record { read = slice_bits t kind s; left = left } → (b : HeaderWords) {a : Result Cursor Refusal} {r : ShortAnswer} {w : HeaderWords}
      → a ≡ header_end (read_header t kind s) → w ≡ header_left (read_header t kind s) b → r ≡ slice_short a
      → (base : List ℕ) → Taken o r left (record { header = b; base = base }) (record { header = w; base = base })
  unfolding slice_bits
  slice_taken t kind s e b p q k base =
      let h = slice-held (read_header t kind s) b p q base in
      rw (e, k) (record { answered = h.0; left = refl; held = h.1 })

-- ---- the body of a prefix unit

body-held : (m : Res Prefix) (b : List ℕ) {a : Read PrefixShort} {w : List ℕ} → a ≡ prefix_step m → w ≡ prefix_left m → (h : HeaderWords)
    → (body_short a ≡ short_answer (prefix_answer m)) × Held (body_short a) (prefix_answer m) (record { header = h; base = b }) (record { header = h; base = w })
unfolding prefix_step leaves short_answer words_after only
body-held (got p e) b k q h = rw k (refl, rw q)
body-held (no r) b k q h = rw k (refl, tt)

module _ {o : UnitOut} {left : List ℕ} where
  pub body-taken : (kind : PrefixKind) (s : Bits) → o ≡ record { read = prefix_bits kind s; left = left } → (b : List ℕ) {a : Read PrefixShort} {r : ShortAnswer} {w : List ℕ}
      → a ≡ prefix_step ((prefix kind).read s 0) → w ≡ prefix_left ((prefix kind).read s 0) → r ≡ body_short a
      → (h : HeaderWords) → Taken o r left (record { header = h; base = b }) (record { header = h; base = w })
  unfolding prefix_bits
  body-taken kind s e b p q k h =
      let l = body-held ((prefix kind).read s 0) b p q h in
      rw (e, k) (record { answered = l.0; left = refl; held = l.1 })

  -- ---- the body of a parameter set

  pub sequence-taken : (s : Bits) → o ≡ record { read = sequence_bits s; left = left } → (a : Read SequenceSet) {r : ShortAnswer} → as_read a ≡ sequence_set s 0
      → r ≡ sequence_short a → (w : Lent) → Taken o r left w w
  unfolding sequence_bits short_answer words_after only
  sequence-taken s e (Ok (v, c)) p k w = rw (e, k, ← p) (record { answered = refl; left = refl; held = refl })
  sequence-taken s e (Err r) p k w = rw (e, k, ← p) (record { answered = refl; left = refl; held = tt })

  pub picture-taken : (s : Bits) → o ≡ record { read = picture_bits s; left = left } → (a : Read PictureSet) {r : ShortAnswer} → as_read a ≡ picture_set s 0
      → r ≡ picture_short a → (w : Lent) → Taken o r left w w
  unfolding picture_bits short_answer words_after only
  picture-taken s e (Ok (v, c)) p k w = rw (e, k, ← p) (record { answered = refl; left = refl; held = refl })
  picture-taken s e (Err r) p k w = rw (e, k, ← p) (record { answered = refl; left = refl; held = tt })

  -- ---- no body

  pub other-taken : (t : ℕ) → o ≡ untouched (UnitAnswer.Other t) left → (w : Lent) → Taken o (ShortAnswer.Other t) left w w
  unfolding short_answer words_after only
  other-taken t e w = rw e (record { answered = refl; left = refl; held = refl })

  pub none-taken : (r : Refusal) → o ≡ untouched (UnitAnswer.Refused r) left → (b w : Lent) → Taken o (ShortAnswer.Refused r) left b w
  unfolding short_answer only
  none-taken r e b w = rw e (record { answered = refl; left = refl; held = tt })

-- ---- what the public function says

refused-words : (a : UnitAnswer) (u : UnitRead) {r : Refusal} → ShortAnswer.Refused r ≡ short a u → (b : Lent) → after a u b ≡ blank
refused-words (UnitAnswer.Slice n) u e b = let z : ◌≡◌ {A = ℕ} 0 1 = cc in absurd (omega arith)
refused-words UnitAnswer.«Prefix» u e b = let z : ◌≡◌ {A = ℕ} 0 1 = cc in absurd (omega arith)
refused-words (UnitAnswer.Sequence v) u e b = let z : ◌≡◌ {A = ℕ} 0 1 = cc in absurd (omega arith)
refused-words (UnitAnswer.Picture v) u e b = let z : ◌≡◌ {A = ℕ} 0 1 = cc in absurd (omega arith)
refused-words (UnitAnswer.Other t) u e b = let z : ◌≡◌ {A = ℕ} 0 1 = cc in absurd (omega arith)
refused-words (UnitAnswer.Refused r) u e b = refl

module _ {o : UnitOut} {a : ShortAnswer} {scratch : List ℕ} {b w : Lent} (t : Taken o a scratch b w) where
  -- any answer but a refusal, of which Held speaks
  pub kept : (s : ShortAnswer) → a ≡ s → (Held s o.read b w → w ≡ words_after o.read b) → ReadInto o s scratch b w
  kept s e f = let k = rw e at t in record { answered = k.answered; left = k.left; words = f k.held }

  pub cleared : (r : Refusal) → a ≡ ShortAnswer.Refused r → {l : Lent} → l ≡ blank → ReadInto o (ShortAnswer.Refused r) scratch b l
  unfolding short_answer words_after
  cleared r e p =
      let k = rw e at t in
      record { answered = k.answered; left = k.left; words = p ∙ sym (refused-words o.read.answer o.read k.answered b) }

-- a refusal before the body
pub refused-into : {o : UnitOut} {r : Refusal} {scratch : List ℕ} → o ≡ untouched (UnitAnswer.Refused r) scratch → (b : Lent) {l : Lent} → l ≡ blank
    → ReadInto o (ShortAnswer.Refused r) scratch b l
unfolding short_answer words_after only
refused-into e b p = rw e (record { answered = refl; left = refl; words = p })
