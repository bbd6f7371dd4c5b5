-- Lent words hold the record and nothing else: words that were tidy are tidy after every answer, and a slice's header then stands alone in them. `base` has no count
-- among the words, and needs none: a prefix unit's list stands alone in it whatever the words were.
use Prim.Native.Nat.{ℕ}
use native.Mathlib.Omega.{arith}
use mathlib.Core.Path.{◌≡◌, refl, ◌∙◌}
use mathlib.Core.Bool.{Bool, true, false}
use mathlib.Core.List.{List}
use lib.Dec.{T, leb}
use lib.IntN.{pos}
use lib.ListN.{length, drop}
use Rattle.bits.specs.Bits.{Bits, bytes_bits}
use Rattle.bits.specs.Refusals.{Res, got, no, pick, refusal, buffer_too_short}
use Rattle.fmt.specs.Arrays.{pad}
use Rattle.fmt.proofs.Any.{exact-at}
use Rattle.escape.specs.Body.{body, start_with}
use Rattle.table.specs.declared.table.Table.{Table}
use Rattle.syntax.specs.declared.context.PrefixKind.{PrefixKind}
use Rattle.syntax.specs.declared.record.SliceHeader.{SliceHeader}
use Rattle.syntax.specs.declared.record.Prefix.{Prefix}
use Rattle.syntax.specs.Absent.{no_header, no_prefix}
use Rattle.syntax.specs.Lists.{ok_operations}
use Rattle.syntax.specs.Prefix.{prefix}
use Rattle.syntax.proofs.Goods.{seq-first, seq-rest, shaped_from}
use Rattle.syntax.proofs.Whole.{prefix-lawful}
use Rattle.parameter_sets.specs.declared.sequence.SequenceSet.{SequenceSet}
use Rattle.parameter_sets.specs.declared.picture.PictureSet.{PictureSet}
use Rattle.parameter_sets.specs.SequenceSet.{sequence_set}
use Rattle.parameter_sets.specs.PictureSet.{picture_set}
use Rattle.lists.specs.ListsLent.{list_words}
use Rattle.lists.proofs.Tidy.{list-padded}
use Rattle.header.specs.Short.{Tidy, header_alone}
use Rattle.header.proofs.Tidy.{InOrder, operations_if-ok, read-in-order, zeros-tidy, tidy-over, header-alone, header-tidy}
use Rattle.unit.specs.declared.answer.UnitAnswer.{UnitAnswer}
use Rattle.unit.specs.declared.answer.UnitRead.{UnitRead}
use Rattle.unit.specs.declared.begin.Begun.{Begun}
use Rattle.unit.specs.Answer.{only, slice_answer, prefix_answer, sequence_answer, picture_answer}
use Rattle.unit.specs.Begin.{begun}
use Rattle.unit.specs.Unit.{UnitOut, untouched, in_body, slice_bits, prefix_bits, sequence_bits, picture_bits, after_begin, unit_read}
use Rattle.unit.specs.Into.{Lent, after, words_after}

-- ---- what is read is in order, and what the answer does not speak of is absent

abbrev pub Ordered : UnitAnswer → UnitRead → Type 0
Ordered (UnitAnswer.Slice n) u = InOrder u.header × (u.prefix ≡ no_prefix)
Ordered UnitAnswer.«Prefix» u = (u.header ≡ no_header) × T (ok_operations u.prefix.base_marking)
Ordered (UnitAnswer.Sequence v) u = (u.header ≡ no_header) × (u.prefix ≡ no_prefix)
Ordered (UnitAnswer.Picture v) u = (u.header ≡ no_header) × (u.prefix ≡ no_prefix)
Ordered (UnitAnswer.Other t) u = (u.header ≡ no_header) × (u.prefix ≡ no_prefix)
Ordered (UnitAnswer.Refused r) u = (u.header ≡ no_header) × (u.prefix ≡ no_prefix)

slice-ordered : (m : Res SliceHeader) → ((h : SliceHeader) (e : ℕ) → m ≡ got h e → InOrder h) → Ordered (slice_answer m).answer (slice_answer m)
unfolding only
slice-ordered (got h e) f = (f h e refl, refl)
slice-ordered (no r) f = (refl, refl)

prefix-good : (k : PrefixKind) (s : Bits) (p : Prefix) (e : ℕ) → (prefix k).read s 0 ≡ got p e → T (ok_operations p.base_marking)
unfolding prefix
prefix-good k s p e r =
    let g = (exact-at (prefix k) (prefix-lawful k) s 0 p e (omega arith) r).is-good in
    operations_if-ok _ _ _ (seq-first _ _ _ (seq-rest _ _ _ (seq-rest _ _ _ (shaped_from _ _ _ _ p g))))

prefix-ordered : (m : Res Prefix) → ((p : Prefix) (e : ℕ) → m ≡ got p e → T (ok_operations p.base_marking)) → Ordered (prefix_answer m).answer (prefix_answer m)
unfolding only
prefix-ordered (got p e) f = (refl, f p e refl)
prefix-ordered (no r) f = (refl, refl)

sequence-ordered : (m : Res SequenceSet) → Ordered (sequence_answer m).answer (sequence_answer m)
unfolding only
sequence-ordered (got v e) = (refl, refl)
sequence-ordered (no r) = (refl, refl)

picture-ordered : (m : Res PictureSet) → Ordered (picture_answer m).answer (picture_answer m)
unfolding only
picture-ordered (got v e) = (refl, refl)
picture-ordered (no r) = (refl, refl)

body-ordered : (reads : Bits → UnitRead) (unit : List ℕ) (from : ℕ) (scratch : List ℕ) → ((s : Bits) → Ordered (reads s).answer (reads s))
    → Ordered (in_body reads unit from scratch).read.answer (in_body reads unit from scratch).read
unfolding in_body only
body-ordered reads unit from scratch f = go (leb (length unit) (length scratch))
  where
    out : Bool → UnitOut
    out t =
        pick t
        (record { read = reads (bytes_bits (body 0 (drop from unit))); left = start_with (body 0 (drop from unit)) scratch })
        (untouched (UnitAnswer.Refused (refusal buffer_too_short (pos (length unit)))) scratch)

    go : (t : Bool) → Ordered (out t).read.answer (out t).read
    go true = f (bytes_bits (body 0 (drop from unit)))
    go false = (refl, refl)

pub unit-ordered : (t : Table) (unit scratch : List ℕ) → Ordered (unit_read t unit scratch).read.answer (unit_read t unit scratch).read
unfolding unit_read slice_bits prefix_bits sequence_bits picture_bits only
unit-ordered t unit scratch = go (begun unit)
  where
    go : (b : Begun) → Ordered (after_begin t unit scratch b).read.answer (after_begin t unit scratch b).read
    go (Begun.Slice kind from) = body-ordered (slice_bits t kind) unit from scratch (λ s. slice-ordered _ (read-in-order t kind s))
    go (Begun.«Prefix» kind) = body-ordered (prefix_bits kind) unit 4 scratch (λ s. prefix-ordered _ (prefix-good kind s))
    go Begun.SequenceSet = body-ordered sequence_bits unit 1 scratch (λ s. sequence-ordered (sequence_set s 0))
    go Begun.PictureSet = body-ordered picture_bits unit 1 scratch (λ s. picture-ordered (picture_set s 0))
    go (Begun.Other id) = (refl, refl)
    go (Begun.Refused r) = (refl, refl)

-- ---- and so are the words

kept : (a : UnitAnswer) (u : UnitRead) (w : Lent) → Ordered a u → Tidy w.header → Tidy (after a u w).header
kept (UnitAnswer.Slice n) u w o t = rw (tidy-over u.header w.header t) (header-tidy u.header o.0)
kept UnitAnswer.«Prefix» u w o t = t
kept (UnitAnswer.Sequence v) u w o t = t
kept (UnitAnswer.Picture v) u w o t = t
kept (UnitAnswer.Other i) u w o t = t
kept (UnitAnswer.Refused r) u w o t = zeros-tidy

module _ (t : Table) (unit scratch : List ℕ) (w : Lent) where
  abbrev read : UnitRead
  read = (unit_read t unit scratch).read

  pub tidy-after : Tidy w.header → Tidy (words_after read w).header
  unfolding words_after
  tidy-after h = kept read.answer read w (unit-ordered t unit scratch) h

  pub slice-alone : (n : ℕ) → read.answer ≡ UnitAnswer.Slice n → Tidy w.header → (words_after read w).header ≡ header_alone read.header
  unfolding words_after
  slice-alone n e h =
      let o : InOrder read.header × (read.prefix ≡ no_prefix) = rw e at (unit-ordered t unit scratch) in
      rw e (tidy-over read.header w.header h ∙ header-alone read.header o.0)

  pub prefix-alone : read.answer ≡ UnitAnswer.«Prefix» → (words_after read w).base ≡ pad 0 198 (list_words read.prefix.base_marking)
  unfolding words_after
  prefix-alone e =
      let o : (read.header ≡ no_header) × T (ok_operations read.prefix.base_marking) = rw e at (unit-ordered t unit scratch) in
      rw e (list-padded read.prefix.base_marking o.1)
