-- Reading a unit into lent words: the answer without its records, and the words that hold them.
use Rattle.std.specs.Prelude.{ℕ, ◌≡◌, List, ℤ, replicate}
use Rattle.std.proofs.lemmas.List.Edits.{sets}
use denote.Triple.Both.{Both}
use Rattle.syntax.specs.Absent.{no_prefix}
use Rattle.lists.specs.declared.list_words.PrefixShort.{PrefixShort}
use Rattle.lists.specs.ListsLent.{list_words, prefix_short}
use Rattle.header.specs.Short.{HeaderWords, Array, header_words, words_in, SameArrays, emptied, header_in, zeros}
use Rattle.unit.specs.declared.answer.UnitAnswer.{UnitAnswer}
use Rattle.unit.specs.declared.answer.UnitRead.{UnitRead}
use Rattle.unit.specs.declared.into.ShortAnswer.{ShortAnswer}
use Rattle.unit.specs.declared.into.AllWords.{AllWords}
use Rattle.unit.specs.Unit.{UnitOut}
use Rattle.std.specs.Prelude.{Result, Ok, Err}
use Rattle.bits.specs.Answers.{Read}
use Rattle.bits.specs.declared.read.Cursor.{Cursor}
use Rattle.bits.specs.declared.refusals.Refusal.{Refusal}
use Rattle.parameter_sets.specs.declared.sequence.SequenceSet.{SequenceSet}
use Rattle.parameter_sets.specs.declared.picture.PictureSet.{PictureSet}

-- the answer; a slice's header stands in the words, and so does a prefix's list
abbrev pub short : UnitAnswer → UnitRead → ShortAnswer
short (UnitAnswer.Slice n) u = ShortAnswer.Slice n
short UnitAnswer.«Prefix» u = ShortAnswer.«Prefix» (prefix_short u.prefix)
short (UnitAnswer.Sequence v) u = ShortAnswer.Sequence v
short (UnitAnswer.Picture v) u = ShortAnswer.Picture v
short (UnitAnswer.Other t) u = ShortAnswer.Other t
short (UnitAnswer.Refused r) u = ShortAnswer.Refused r

unfoldable pub short_answer : UnitRead → ShortAnswer
short_answer u = short u.answer u

-- and back: the answer of a unit, and the prefix without its list, zero where there is none

abbrev pub long_answer : ShortAnswer → UnitAnswer
long_answer (ShortAnswer.Slice n) = UnitAnswer.Slice n
long_answer (ShortAnswer.«Prefix» p) = UnitAnswer.«Prefix»
long_answer (ShortAnswer.Sequence v) = UnitAnswer.Sequence v
long_answer (ShortAnswer.Picture v) = UnitAnswer.Picture v
long_answer (ShortAnswer.Other t) = UnitAnswer.Other t
long_answer (ShortAnswer.Refused r) = UnitAnswer.Refused r

abbrev pub prefix_in : ShortAnswer → PrefixShort
prefix_in (ShortAnswer.Slice n) = prefix_short no_prefix
prefix_in (ShortAnswer.«Prefix» p) = p
prefix_in (ShortAnswer.Sequence v) = prefix_short no_prefix
prefix_in (ShortAnswer.Picture v) = prefix_short no_prefix
prefix_in (ShortAnswer.Other t) = prefix_short no_prefix
prefix_in (ShortAnswer.Refused r) = prefix_short no_prefix

-- all words that a caller lends
pub record Lent : Type 0 where
  pub header : HeaderWords
  pub base : List ℕ

-- words that hold nothing
abbrev pub blank : Lent
blank = record { header = zeros; base = replicate 198 0 }

-- the words in the arrays that are lent
abbrev pub lent_words : Array ℕ → Array ℤ → Array ℕ → Array ℕ → Array ℕ → Array ℤ → Array ℤ → Array ℕ → Both Lent Lent
lent_words numbers signed l0 l1 marking w0 w1 base =
    let h = header_words numbers signed l0 l1 marking w0 w1 in
    record { entry = record { header = h.entry; base = base.entry.now }; exit = record { header = h.exit; base = base.exit.now } }

abbrev pub lent_in : AllWords → Lent
lent_in w = record { header = words_in w.header; base = w.base.now }

abbrev pub SameLent : AllWords → AllWords → Type 0
SameLent a b = SameArrays a.header b.header × (a.base.ghost_name ≡ b.base.ghost_name)

-- what is left in words that were `w` before: a slice's header over emptied words, a prefix's list over zeros, zeros beside a refusal; all other words are as before
abbrev pub after : UnitAnswer → UnitRead → Lent → Lent
after (UnitAnswer.Slice n) u w = record { header = header_in u.header (emptied w.header); base = w.base }
after UnitAnswer.«Prefix» u w = record { header = w.header; base = sets (replicate 198 0) 0 (list_words u.prefix.base_marking) }
after (UnitAnswer.Sequence v) u w = w
after (UnitAnswer.Picture v) u w = w
after (UnitAnswer.Other t) u w = w
after (UnitAnswer.Refused r) u w = blank

unfoldable pub words_after : UnitRead → Lent → Lent
words_after u w = after u.answer u w

-- what is answered, scratch at exit, and the words at exit, w, which were b at entry, for a unit of which o is read
pub record ReadInto (o : UnitOut) (answer : ShortAnswer) (scratch : List ℕ) (b w : Lent) : Type 0 where
  pub answered : answer ≡ short_answer o.read
  pub left : scratch ≡ o.left
  pub words : w ≡ words_after o.read b

-- ---- private contracts

abbrev pub slice_short : Result Cursor Refusal → ShortAnswer
slice_short (Ok c) = ShortAnswer.Slice c.at
slice_short (Err r) = ShortAnswer.Refused r

abbrev pub body_short : Read PrefixShort → ShortAnswer
body_short (Ok (p, c)) = ShortAnswer.«Prefix» p
body_short (Err r) = ShortAnswer.Refused r

abbrev pub sequence_short : Read SequenceSet → ShortAnswer
sequence_short (Ok (v, c)) = ShortAnswer.Sequence v
sequence_short (Err r) = ShortAnswer.Refused r

abbrev pub picture_short : Read PictureSet → ShortAnswer
picture_short (Ok (v, c)) = ShortAnswer.Picture v
picture_short (Err r) = ShortAnswer.Refused r

-- the words, but beside a refusal, of which nothing is said
abbrev pub Held : ShortAnswer → UnitRead → (before words : Lent) → Type 0
Held (ShortAnswer.Slice n) u before words = words ≡ words_after u before
Held (ShortAnswer.«Prefix» p) u before words = words ≡ words_after u before
Held (ShortAnswer.Sequence v) u before words = words ≡ words_after u before
Held (ShortAnswer.Picture v) u before words = words ≡ words_after u before
Held (ShortAnswer.Other t) u before words = words ≡ words_after u before
Held (ShortAnswer.Refused r) u before words = Unit {0}

pub record Taken (o : UnitOut) (answer : ShortAnswer) (scratch : List ℕ) (b w : Lent) : Type 0 where
  pub answered : answer ≡ short_answer o.read
  pub left : scratch ≡ o.left
  pub held : Held answer o.read b w
