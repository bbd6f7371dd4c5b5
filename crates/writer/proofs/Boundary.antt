-- The theorems of the boundary, about the definitions of the exported functions: what reading leaves in the words, writing puts back to the exact bits; what was
-- written reads back into equal words; and 25 is given to no words that a reading leaves.
use Prim.Native.Nat.{ℕ, ◌≤◌}
use mathlib.Core.Path.{◌≡◌, refl, sym, ap, ◌∙◌}
use mathlib.Core.List.{List, ◌++◌}
use mathlib.Core.Bool.{true, false}
use lib.IntN.{pos}
use lib.ListN.{length, take, drop}
use Rattle.bits.specs.Refusals.{refusal, no_bits, limit}
use Rattle.bits.specs.Bits.{Bits, bits_of}
use Rattle.bits.specs.Put.{put_bits, bytes_for, written}
use Rattle.bits.proofs.Results.{cases}
use Rattle.table.specs.declared.table.Table.{Table}
use Rattle.syntax.specs.declared.context.UnitKind.{UnitKind}
use Rattle.syntax.specs.declared.record.SliceHeader.{SliceHeader}
use Rattle.syntax.specs.SliceHeader.{any_set}
use Rattle.syntax.proofs.Header as syntax
use Rattle.syntax.specs.Absent.{no_prefix}
use Rattle.header.specs.Short.{HeaderWords, emptied, header_in, Tidy}
use Rattle.record.specs.Record.{header_from, plain}
use Rattle.record.proofs.Whole.{Sized, header-from-in, plain_in, in-from-emptied, emptied-sized}
use Rattle.unit.specs.declared.answer.UnitAnswer.{UnitAnswer}
use Rattle.unit.specs.declared.answer.UnitRead.{UnitRead}
use Rattle.unit.specs.Unit.{unit_read}
use Rattle.unit.specs.Into.{Lent, words_after}
use Rattle.unit.specs.Into as into
use Rattle.writer.specs.declared.given.ExtensionGiven.{ExtensionGiven}
use Rattle.writer.specs.Given.{kind_given}
use Rattle.writer.specs.Write.{HeaderOut, sets_for, bits_out, after_sets, after_kind, write_where, write_header, write_words}
use Rattle.writer.proofs.Passed.{sets-found, not-scalable}
use Rattle.writer.proofs.Answers.{no_bits_lem, wrote}
use Rattle.writer.proofs.Units.{Starts, tells, first_of, extension_in, body_of, body_bits, slice-read}
use Rattle.writer.proofs.RoundTrip.{reads-back, rewrites-as, rewrites, refused-no-unit}
use Rattle.std.specs.Prelude.{Result, Ok, Err}
use Rattle.bits.specs.declared.refusals.Refusal.{Refusal}
use Rattle.writer.specs.declared.sets.NamedSets.{NamedSets}

-- ---- words and the record that they hold

module _ (t : Table) (b : ℕ) (x : ExtensionGiven) (w : HeaderWords) (out : List ℕ) where
  plain-written : plain w ≡ true → write_words t b x w out ≡ write_header t b x (header_from w) out
  unfolding write_words
  plain-written p = rw p

  -- words that hold no record are not written
  written-plain : {n : ℕ} {left : List ℕ} → write_words t b x w out ≡ record { answer = Ok n; left = left } → plain w ≡ true
  unfolding write_words write_where bits_out written
  written-plain {n} {left} e = cases (plain w) (λ p. p) (λ p. of-kind (kind_given b x) (rw p at e))
    where
      of-sets : (k : UnitKind) (f : Result NamedSets Refusal) → after_sets false t k (header_from w) out f ≡ record { answer = Ok n; left = left } → plain w ≡ true
      of-sets k (Ok s) q = no_bits_lem (ap (λ (o : HeaderOut). o.answer) q)
      of-sets k (Err r) q = no_bits_lem (ap (λ (o : HeaderOut). o.answer) q)

      of-kind : (f : Result UnitKind Refusal) → after_kind false t (header_from w) out f ≡ record { answer = Ok n; left = left } → plain w ≡ true
      of-kind (Ok k) q = of-sets k (sets_for t (header_from w).pic_parameter_set_id) q
      of-kind (Err r) q = no_bits_lem (ap (λ (o : HeaderOut). o.answer) q)

-- ---- what was read is written as it stood

-- a unit that is read as a slice of e bits, into any words of the right lengths
module _ (t : Table) (u scratch : List ℕ) (lent : Lent) (size : Sized lent.header) {e : ℕ} (a : (unit_read t u scratch).read.answer ≡ UnitAnswer.Slice e) where
  abbrev read : UnitRead
  read = (unit_read t u scratch).read

  -- the words that it leaves
  abbrev pub after : HeaderWords
  after = (words_after read lent).header

  after_is : after ≡ header_in read.header (emptied lent.header)
  unfolding words_after
  after_is = ap (λ (r : UnitAnswer). (into.after r read lent).header) a

  -- they hold its record
  after-plain : plain after ≡ true
  after-plain =
      let y = slice-read t u scratch a refl in
      let z = syntax.rewrites t y.kind _ read.header e y.reads in
      ap plain after_is ∙ plain_in t y.kind read.header _ z.is-good (emptied-sized lent.header size)

  after-header : header_from after ≡ read.header
  after-header =
      let y = slice-read t u scratch a refl in
      let z = syntax.rewrites t y.kind _ read.header e y.reads in
      ap header_from after_is ∙ header-from-in t y.kind read.header _ z.is-good (emptied-sized lent.header size)

  after-written : (b : ℕ) (x : ExtensionGiven) (out : List ℕ) → write_words t b x after out ≡ write_header t b x read.header out
  after-written b x out = plain-written t b x after out after-plain ∙ ap (λ (h : SliceHeader). write_header t b x h out) after-header

  -- writing them, for a first byte and an extension that the unit starts with, puts the first e bits of its body back
  pub puts-back-as : (b : ℕ) (x : ExtensionGiven) (v out : List ℕ) → Starts b x u v → bytes_for e ≤ length out
      → write_words t b x after out ≡ record { answer = Ok e; left = put_bits out 0 (take e (body_bits v)) }
  puts-back-as b x v out s room = after-written b x out ∙ rewrites-as t u scratch read.header e a refl b x v out s room

  -- for its own
  pub puts_back : (out : List ℕ) → bytes_for e ≤ length out
      → write_words t (first_of u) (extension_in u) after out ≡ record { answer = Ok e; left = put_bits out 0 (take e (body_bits (body_of u))) }
  puts_back out room = after-written (first_of u) (extension_in u) out ∙ rewrites t u scratch read.header e a refl out room

  -- and 25 is never given for them
  pub never-refused : (b : ℕ) (x : ExtensionGiven) (v out : List ℕ) → Starts b x u v → (write_words t b x after out).answer ≡ Err (refusal no_bits (pos 0)) → ⊥
  never-refused b x v out s q =
      let y = slice-read t u scratch a refl in
      let z = syntax.rewrites t y.kind _ read.header e y.reads in
      let d = tells s y.is (not-scalable t y.kind read.header z.is-good) in
      refused-no-unit t b x read.header out d.0 (sets-found t y.kind read.header z.is-good)
      (sym (ap (λ (o : HeaderOut). o.answer) (after-written b x out)) ∙ q) u v scratch e s a refl

-- ---- what was written reads back

-- words of which n bits were written
module _ (t : Table) (b : ℕ) (x : ExtensionGiven) (w : HeaderWords) (size : Sized w) (out : List ℕ) {n : ℕ} {left : List ℕ}
    (p : write_words t b x w out ≡ record { answer = Ok n; left = left }) where
  is_plain : plain w ≡ true
  is_plain = written-plain t b x w out p

  is-record : write_header t b x (header_from w) out ≡ record { answer = Ok n; left = left }
  is-record = sym (plain-written t b x w out is_plain) ∙ p

  -- a unit whose body starts with them, with a bit set later than the one that follows them
  module _ (u v : List ℕ) (s : Starts b x u v) (small : length u ≤ limit) (q : Bits) (e : body_bits v ≡ take n (bits_of left) ++ q) (m : any_set (drop 1 q) ≡ true)
      (scratch : List ℕ) (room : length u ≤ length scratch) where
    back : (unit_read t u scratch).read ≡ record { answer = UnitAnswer.Slice n; header = header_from w; prefix = no_prefix }
    back = reads-back t b x (header_from w) out is-record u v s small q e m scratch room

    pub reads-slice : (unit_read t u scratch).read.answer ≡ UnitAnswer.Slice n
    reads-slice = ap (λ (r : UnitRead). r.answer) back

    -- reads over these words to the same words
    pub reads_same : (base : List ℕ) → words_after (unit_read t u scratch).read (record { header = w; base = base }) ≡ record { header = w; base = base }
    unfolding words_after
    reads_same base = rw back (ap (λ (h : HeaderWords). record { header = h; base = base }) (in-from-emptied w is_plain size))

    -- into any words to the same record
    pub reads-record : (lent : Lent) → Sized lent.header → header_from (words_after (unit_read t u scratch).read lent).header ≡ header_from w
    unfolding words_after
    reads-record lent k =
        let y = wrote t b x (header_from w) out is-record in
        rw back (header-from-in t y.kind (header_from w) _ y.is-good (emptied-sized lent.header k))

    -- and into tidy words, which are zero behind their counts, to the same words where these are tidy too
    pub reads-tidy : (lent : Lent) → Tidy lent.header → Tidy w → (words_after (unit_read t u scratch).read lent).header ≡ w
    unfolding words_after Tidy
    reads-tidy lent k l = rw back (ap (header_in (header_from w)) k ∙ sym (ap (header_in (header_from w)) l) ∙ in-from-emptied w is_plain size)
