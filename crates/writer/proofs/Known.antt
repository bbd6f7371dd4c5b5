-- The header's format once its sets are known: it is the format by the table, and a buffer of 6,144 bytes has room for its bits.
use Prim.Native.Nat.{ℕ, ◌*◌, ◌≤◌}
use mathlib.Core.Path.{◌≡◌, refl, sym, ap, ap₂, subst, subst⁻¹, ◌∙◌}
use mathlib.Core.List.{List}
use mathlib.Core.Bool.{Bool, true, false, ◌&&◌, and_assoc}
use native.Mathlib.Omega.{arith}
use native.Mathlib.Nat.{zero-add}
use lib.Dec.{T, leb, eqb}
use lib.IntN.{pos}
use lib.ListN.{length}
use Rattle.bits.specs.declared.read.Cursor.{Cursor}
use Rattle.bits.specs.Refusals.{refusal, no_bits}
use Rattle.bits.specs.Bits.{Bits}
use Rattle.bits.specs.Put.{written}
use Rattle.bits.proofs.Results.{cases}
use Rattle.fmt.specs.Fmt.{seq, shaped, test}
use Rattle.fmt.specs.Leaves.{ue}
use Rattle.fmt.proofs.Lawful.{both-0, T_true}
use Rattle.fmt.proofs.Sizes.{Short, ue-short}
use Rattle.table.specs.declared.sets.Picture.{Picture}
use Rattle.table.specs.declared.sets.Sequence.{Sequence}
use Rattle.table.specs.declared.table.Table.{Table}
use Rattle.table.specs.Tables.{found_picture, picture_at, sequence_at}
use Rattle.syntax.specs.declared.context.UnitKind.{UnitKind}
use Rattle.syntax.specs.declared.context.Context.{Context}
use Rattle.syntax.specs.declared.record.SliceHeader.{SliceHeader}
use Rattle.syntax.specs.Context.{sequence_for, width_for, context_for}
use Rattle.syntax.specs.SliceHeader.{picture_set_id, lead, of_header, header}
use Rattle.syntax.proofs.Sizes.{then, slice_type-short}
use Rattle.syntax.proofs.Sets.{Few, defaults-few}
use Rattle.syntax.proofs.HeaderSize.{parts-short}
use Rattle.header.specs.Short.{HeaderWords}
use Rattle.record.specs.Record.{header_from, plain_numbers, plain}
use Rattle.writer.specs.Write.{with_picture, with_sequence, sets_for, untouched, out_of, bits_out}
use Rattle.writer.specs.Places.{PutTo}
use Rattle.writer.specs.Stages.{fields, fields_out, is_known, known_out, copied}
use Rattle.writer.proofs.Stages.{done_at, stopped-at}
use Rattle.writer.proofs.Passed.{picture-is, sequence-id}
use Rattle.writer.proofs.Room.{room-bits}
use Rattle.writer.proofs.Copies.{copied-written}
use Rattle.std.specs.Prelude.{Ok, Option, Some, None}
use Rattle.writer.specs.declared.sets.NamedSets.{NamedSets}

-- ---- by the table

-- the sets that were found
record Are (t : Table) (id : ℕ) (y : NamedSets) : Type 0 where
  low : leb id 255 ≡ true
  picture : picture_at t id ≡ found_picture y.picture y.cycle_width
  sequence : sequence_at t y.picture.seq_parameter_set_id ≡ Some y.sequence

-- the context that they make for a unit's kind
abbrev pub context : NamedSets → UnitKind → Context
context y n = record { kind = n; picture = y.picture; sequence = y.sequence; cycle_width = y.cycle_width }

module _ (t : Table) (id : ℕ) (y : NamedSets) where
  with-sequence : leb id 255 ≡ true → (p : Picture) (w : ℕ) → picture_at t id ≡ found_picture p w → (f : Option Sequence) → sequence_at t p.seq_parameter_set_id ≡ f
      → with_sequence p w f ≡ Ok y → Are t id y
  with-sequence l p w k (Some s) g e =
      let i : record { picture = p; cycle_width = w; sequence = s } ≡ y = (cc e) in
      subst (Are t id) i (record { low = l; picture = k; sequence = g })
  with-sequence l p w k None g e = absurd (let z : ◌≡◌ {A = ℕ} 0 1 = (cc e) in omega arith)

  with-picture : leb id 255 ≡ true → (f : Option (Picture × ℕ)) → picture_at t id ≡ f → with_picture t id f ≡ Ok y → Are t id y
  with-picture l (found_picture p w) k e = with-sequence l p w k (sequence_at t p.seq_parameter_set_id) refl e
  with-picture l None k e = absurd (let z : ◌≡◌ {A = ℕ} 0 1 = (cc e) in omega arith)

  sets-are : sets_for t id ≡ Ok y → Are t id y
  unfolding sets_for
  sets-are e =
      cases (leb id 255)
      (λ l. with-picture l (picture_at t id) refl (rw l at e))
      (λ l. let w = rw l at e in absurd (let z : ◌≡◌ {A = ℕ} 0 1 = (cc w) in omega arith))

  module _ (a : Are t id y) where
    sequence-is : sequence_for t id ≡ y.sequence
    unfolding sequence_for
    sequence-is = rw (sequence-id t id a.picture, a.sequence)

    width_is : width_for t id ≡ y.cycle_width
    unfolding width_for
    width_is = rw a.picture

    context-is : (n : UnitKind) → context_for t n id ≡ context y n
    unfolding context_for
    context-is n = λ i. record { kind = n; picture = picture-is t id a.picture i; sequence = sequence-is i; cycle_width = width_is i }

    id-good : (picture_set_id t).good id ≡ ue.good id
    unfolding picture_set_id test
    id-good = rw (sequence-id t id a.picture, a.sequence, a.picture, a.low)

-- its counts of references are those of a set within the ranges
pub known-few : (t : Table) (id : ℕ) (y : NamedSets) → sets_for t id ≡ Ok y → Few y.picture
known-few t id y e = subst Few (picture-is t id (sets-are t id y e).picture) (defaults-few t id)

module _ (t : Table) (n : UnitKind) (w : HeaderWords) (out : List ℕ) (y : NamedSets) (e : sets_for t (header_from w).pic_parameter_set_id ≡ Ok y) where
  abbrev h : SliceHeader
  h = header_from w

  abbrev id : ℕ
  id = h.pic_parameter_set_id

  abbrev x : Context
  x = context y n

  good-known : (header t n).good h ≡ is_known x h
  unfolding header shaped seq lead
  good-known =
      let a = sets-are t id y e in
      rw (sequence-id t id a.picture, id-good t id y a, context-is t id y a n)

  bits-known : (header t n).bits h ≡ (fields x).bits (of_header h)
  unfolding header shaped seq lead picture_set_id test
  bits-known = rw (context-is t id y (sets-are t id y e) n)

  pub known_out_lem : known_out x w out ≡ bits_out (plain w) t n h out
  unfolding known_out bits_out
  known_out_lem = ap₂ (λ (g : Bool) (l : Bits). out_of (written (plain w && g) l out 0)) (sym good-known) (sym bits-known)

-- ---- words

module _ (x : Context) (w : HeaderWords) where
  abbrev r : SliceHeader
  r = header_from w

  -- words hold a record, and its seq_parameter_set_id is the picture set's
  abbrev pub fitting : Bool
  fitting = plain w && eqb r.seq_parameter_set_id x.picture.seq_parameter_set_id

  known_is : (out : List ℕ) → known_out x w out ≡ out_of (written (fitting && (fields x).good (of_header r)) ((fields x).bits (of_header r)) out 0)
  unfolding known_out
  known_is out =
      ap (λ (g : Bool). out_of (written g ((fields x).bits (of_header r)) out 0)) (sym (and_assoc (plain w) _ ((fields x).good (of_header r))))

  pub known-other : (out : List ℕ) → fitting ≡ false → known_out x w out ≡ untouched (refusal no_bits (pos 0)) out
  unfolding written
  known-other out q = known_is out ∙ rw q

  pub known-fields : (out : List ℕ) → fitting ≡ true → known_out x w out ≡ fields_out x r out
  unfolding fields_out
  known-fields out q = known_is out ∙ rw q

  pub fitting-numbers : fitting ≡ true → plain_numbers w.numbers ≡ true
  unfolding plain
  fitting-numbers e =
      let t = both-0 (plain w) (eqb r.seq_parameter_set_id x.picture.seq_parameter_set_id) (subst⁻¹ T e tt) in
      T_true (plain_numbers w.numbers) (both-0 (plain_numbers w.numbers) _ t)

-- ---- in the stages' buffer

fields-short : (x : Context) → Short (fields x) 43199
fields-short x = then (then ue-short (λ m. then slice_type-short (λ k. ue-short))) (λ l. parts-short x _)

module _ (x : Context) (h : SliceHeader) (d : List ℕ) where
  abbrev l : Bits
  l = (fields x).bits (of_header h)

  most : T ((fields x).good (of_header h)) → length l ≤ 8 * 6144
  most g = omega (arith, (fields-short x).most (of_header h) g)

  -- 25: a part was refused, which was not for want of room
  pub fields-refused : (out : List ℕ) → length d ≡ 6144 → {d' : List ℕ} → PutTo (fields x) (of_header h) d 0 d' None
      → fields_out x h out ≡ untouched (refusal no_bits (pos 0)) out
  unfolding fields_out written
  fields-refused out len p =
      cases ((fields x).good (of_header h))
      (λ g.
      let t : T ((fields x).good (of_header h)) = rw g tt in
      let m = most t in
      absurd (omega (arith, (stopped-at p).no_room t, room-bits d (length l) m (omega (arith, len)), zero-add (length l))))
      (λ g. rw g)

  module _ {d' : List ℕ} {c : Cursor} (p : PutTo (fields x) (of_header h) d 0 d' (Some c)) where
    at-is : c.at ≡ length l
    at-is = (done_at p).place ∙ zero-add (length l)

    pub fields-most : c.at ≤ 8 * 6144
    fields-most = rw at-is (most (done_at p).is-good)

    -- all parts were written: their bytes go out
    pub fields-done : (out : List ℕ) → c.at ≤ 8 * length d → copied d' c.at out ≡ fields_out x h out
    unfolding fields_out
    fields-done out q =
        let w = done_at p in
        (λ i. copied (w.now-is i) (at-is i) out)
        ∙ copied-written d l out (most w.is-good) (omega (arith, at-is))
        ∙ ap (λ (g : Bool). out_of (written g l out 0)) (sym (T_true ((fields x).good (of_header h)) w.is-good))
