-- M-100: parameter sets from the clip itself. What a set's unit reads as, that such a set is never refused by the table, and what the walk does with it.
use Prim.Native.Nat.{ℕ, ◌≤◌}
use mathlib.Core.Path.{◌≡◌, refl, sym, ap, subst, ◌∙◌}
use mathlib.Core.List.{List, [], ◌∷◌, ◌++◌}
use mathlib.Core.Bool.{true, ◌&&◌}
use lib.Dec.{leb}
use lib.ListN.{length, drop}
use borrow.Author.Tests.{le-leb}
use Rattle.bits.specs.Refusals.{Res, got, no}
use Rattle.bits.specs.Bits.{Bits, bytes_bits}
use Rattle.bits.proofs.Results.{cases}
use Rattle.escape.specs.Body.{body}
use Rattle.table.specs.declared.table.Table.{Table}
use Rattle.table.specs.Sets.{sequence_fits, picture_fits}
use Rattle.table.specs.Tables.{sequence_put, picture_put, put_sequence, put_picture}
use Rattle.table.specs.Made.{Change, changed, made_from, made}
use Rattle.syntax.specs.declared.record.SliceHeader.{SliceHeader}
use Rattle.syntax.specs.declared.record.Prefix.{Prefix}
use Rattle.syntax.specs.SliceHeader.{read_header}
use Rattle.syntax.specs.Prefix.{prefix}
use Rattle.parameter_sets.specs.declared.sequence.SequenceSet.{SequenceSet}
use Rattle.parameter_sets.specs.declared.picture.PictureSet.{PictureSet}
use Rattle.parameter_sets.specs.SequenceSet.{sequence_set}
use Rattle.parameter_sets.specs.PictureSet.{picture_set}
use Rattle.parameter_sets.proofs.SequenceKnown.{sequence-fits}
use Rattle.parameter_sets.proofs.PictureKnown.{picture-fits}
use Rattle.unit.specs.declared.answer.UnitAnswer.{UnitAnswer}
use Rattle.unit.specs.declared.answer.UnitRead.{UnitRead}
use Rattle.unit.specs.declared.begin.Begun.{Begun}
use Rattle.unit.specs.Answer.{only, slice_answer, prefix_answer, sequence_answer, picture_answer}
use Rattle.unit.specs.Begin.{begun}
use Rattle.unit.specs.Unit.{in_body, slice_bits, prefix_bits, sequence_bits, picture_bits, after_begin, unit_read}
use Rattle.walk.specs.Units.{Report}
use Rattle.walk.specs.Walked.{table_after, next_step, walked}
use Rattle.walk.specs.Reports.{table_by}
use Rattle.walk.proofs.Steps.{table_of}
use Rattle.promises.specs.Demands.{body_bits}
use Rattle.promises.specs.Sets.{change_of, changes_in}
use Rattle.std.specs.Prelude.{Ok}

-- ---- what a set's unit reads as

module _ (t : Table) (unit scratch : List ℕ) (room : length unit ≤ length scratch) where
  -- the answer is that of the syntax table, read from the first bit of the unescaped body
  pub sets-sequence-read : begun unit ≡ Begun.SequenceSet → (unit_read t unit scratch).read ≡ sequence_answer (sequence_set (body_bits (drop 1 unit)) 0)
  unfolding unit_read in_body sequence_bits
  sets-sequence-read e = rw (e, le-leb (length unit) (length scratch) room)

  pub sets-picture-read : begun unit ≡ Begun.PictureSet → (unit_read t unit scratch).read ≡ picture_answer (picture_set (body_bits (drop 1 unit)) 0)
  unfolding unit_read in_body picture_bits
  sets-picture-read e = rw (e, le-leb (length unit) (length scratch) room)

-- ---- a set that is read is within the table's ranges

abbrev SetFits : UnitAnswer → Type 0
SetFits (UnitAnswer.Slice n) = Unit {0}
SetFits UnitAnswer.«Prefix» = Unit {0}
SetFits (UnitAnswer.Sequence v) = (leb v.seq_parameter_set_id 31 && sequence_fits v.sequence) ≡ true
SetFits (UnitAnswer.Picture v) = (leb v.pic_parameter_set_id 255 && picture_fits v.picture) ≡ true
SetFits (UnitAnswer.Other id) = Unit {0}
SetFits (UnitAnswer.Refused r) = Unit {0}

slice_fits : (m : Res SliceHeader) → SetFits (slice_answer m).answer
unfolding only
slice_fits (got h e) = tt
slice_fits (no r) = tt

prefix-fits : (m : Res Prefix) → SetFits (prefix_answer m).answer
unfolding only
prefix-fits (got p e) = tt
prefix-fits (no r) = tt

sequence-set-fits : (m : Res SequenceSet) → ((v : SequenceSet) (e : ℕ) → m ≡ got v e → (leb v.seq_parameter_set_id 31 && sequence_fits v.sequence) ≡ true) → SetFits (sequence_answer m).answer
unfolding only
sequence-set-fits (got v e) f = f v e refl
sequence-set-fits (no r) f = tt

picture-set-fits : (m : Res PictureSet) → ((v : PictureSet) (e : ℕ) → m ≡ got v e → (leb v.pic_parameter_set_id 255 && picture_fits v.picture) ≡ true) → SetFits (picture_answer m).answer
unfolding only
picture-set-fits (got v e) f = f v e refl
picture-set-fits (no r) f = tt

module _ (t : Table) (unit scratch : List ℕ) where
  in-body : (reads : Bits → UnitRead) (from : ℕ) → ((s : Bits) → SetFits (reads s).answer) → SetFits (in_body reads unit from scratch).read.answer
  unfolding in_body only
  in-body reads from f = cases (leb (length unit) (length scratch)) (λ i. rw i (f (bytes_bits (body 0 (drop from unit))))) (λ i. rw i tt)

  unit-fits : SetFits (unit_read t unit scratch).read.answer
  unfolding unit_read slice_bits prefix_bits sequence_bits picture_bits only
  unit-fits = go (begun unit)
    where
      go : (b : Begun) → SetFits (after_begin t unit scratch b).read.answer
      go (Begun.Slice kind from) = in-body (slice_bits t kind) from (λ s. slice_fits (read_header t kind s))
      go (Begun.«Prefix» kind) = in-body (prefix_bits kind) 4 (λ s. prefix-fits ((prefix kind).read s 0))
      go Begun.SequenceSet = in-body sequence_bits 1 (λ s. sequence-set-fits (sequence_set s 0) (λ v e. sequence-fits s 0))
      go Begun.PictureSet = in-body picture_bits 1 (λ s. picture-set-fits (picture_set s 0) (λ v e. picture-fits s 0))
      go (Begun.Other id) = tt
      go (Begun.Refused r) = tt

  -- putting it is done, whatever the table
  pub sets-sequence-put : (v : SequenceSet) → (unit_read t unit scratch).read.answer ≡ UnitAnswer.Sequence v → (t' : Table) → (put_sequence t' v.seq_parameter_set_id v.sequence).answer ≡ Ok tt
  unfolding sequence_put
  sets-sequence-put v e t' = rw (subst SetFits e unit-fits)

  pub sets-picture-put : (v : PictureSet) → (unit_read t unit scratch).read.answer ≡ UnitAnswer.Picture v → (t' : Table) → (put_picture t' v.pic_parameter_set_id v.picture).answer ≡ Ok tt
  unfolding picture_put
  sets-picture-put v e t' = rw (subst SetFits e unit-fits)

-- ---- the walk

module _ (t : Table) (s : List ℕ) (from : ℕ) (scratch : List ℕ) where
  -- a step's table is that after the unit's answer: a set that was read is put, a refused one leaves the table
  pub sets-kept : (walked t s from scratch).table ≡ table_after t (walked t s from scratch).walked.read.answer
  unfolding walked
  sets-kept = table_of unit_read t s scratch (next_step s from)

-- ---- a walk's tables are made by puts, so that their widths are true (`widths-true`)

made-on : (t : Table) (l m : List Change) → made_from t (l ++ m) ≡ made_from (made_from t l) m
made-on t [] m = refl
made-on t (c ∷ l) m = made-on (changed t c) l m

one-change : (t : Table) (a : UnitAnswer) → table_after t a ≡ made_from t (change_of a)
one-change t (UnitAnswer.Slice n) = refl
one-change t UnitAnswer.«Prefix» = refl
one-change t (UnitAnswer.Sequence v) = refl
one-change t (UnitAnswer.Picture v) = refl
one-change t (UnitAnswer.Other id) = refl
one-change t (UnitAnswer.Refused r) = refl

changes : (t : Table) (rs : List (Report UnitRead)) → table_by t rs ≡ made_from t (changes_in rs)
changes t [] = refl
changes t (u ∷ us) =
    changes (table_after t u.read.answer) us ∙ ap (λ (v : Table). made_from v (changes_in us)) (one-change t u.read.answer)
    ∙ sym (made-on t (change_of u.read.answer) (changes_in us))

pub sets-made : (l : List Change) (rs : List (Report UnitRead)) → table_by (made l) rs ≡ made (l ++ changes_in rs)
sets-made l rs = changes (made l) rs ∙ sym (made-on _ l (changes_in rs))
