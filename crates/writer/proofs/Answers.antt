-- Writing a header by cases, once the unit's kind is known: 25, 26, or the bits; and what an answer of bits says.
use Prim.Native.Nat.{ℕ, ◌≤◌, ◌<◌}
use mathlib.Core.Path.{◌≡◌, refl, sym, ap, ◌∙◌}
use mathlib.Core.List.{List}
use mathlib.Core.Bool.{true, false}
use native.Mathlib.Omega.{arith}
use native.Mathlib.Nat.{zero-add}
use borrow.Author.Tests.{le-leb, lt-leb, leb-true, leb-false}
use lib.Dec.{T, leb}
use lib.IntN.{pos}
use lib.ListN.{length}
use Rattle.bits.specs.Refusals.{refusal, no_bits, buffer_too_short}
use Rattle.bits.specs.Bits.{Bits, bits_of}
use Rattle.bits.specs.Put.{written, put_bits, bytes_for}
use Rattle.bits.specs.declared.refusals.Refusal.{Refusal}
use Rattle.bits.proofs.Results.{cases}
use Rattle.fmt.proofs.Lawful.{T_true}
use Rattle.table.specs.declared.table.Table.{Table}
use Rattle.syntax.specs.declared.context.UnitKind.{UnitKind}
use Rattle.syntax.specs.declared.record.SliceHeader.{SliceHeader}
use Rattle.syntax.specs.SliceHeader.{header}
use Rattle.writer.specs.declared.given.ExtensionGiven.{ExtensionGiven}
use Rattle.writer.specs.Given.{kind_given}
use Rattle.writer.specs.Write.{sets_for, HeaderOut, untouched, bits_out, after_sets, after_kind, write_where, write_header}
use Rattle.writer.proofs.Passed.{Found}
use Rattle.std.specs.Prelude.{Result, Ok, Err}
use Rattle.writer.specs.declared.sets.NamedSets.{NamedSets}

-- an answer that is a refusal is none of bits
pub no_bits_lem : {P : Type 0} {r : Refusal} {n : ℕ} → Err r ≡ Ok n → P
no_bits_lem e = absurd (let z : ◌≡◌ {A = ℕ} 0 1 = (cc e) in omega arith)

-- n bits were written, and `left` is the buffer at exit
pub record Wrote (t : Table) (b : ℕ) (x : ExtensionGiven) (h : SliceHeader) (out : List ℕ) (n : ℕ) (left : List ℕ) : Type 0 where
  pub kind : UnitKind
  pub is-kind : kind_given b x ≡ Ok kind
  pub is-good : T ((header t kind).good h)
  pub size : n ≡ length ((header t kind).bits h)
  pub room : length ((header t kind).bits h) ≤ length (bits_of out)
  pub left_is : left ≡ put_bits out 0 ((header t kind).bits h)

-- ---- for a kind of unit

module _ (t : Table) (k : UnitKind) (h : SliceHeader) (out : List ℕ) where
  abbrev l : Bits
  l = (header t k).bits h

  pub out_none : (header t k).good h ≡ false → bits_out true t k h out ≡ untouched (refusal no_bits (pos 0)) out
  unfolding bits_out written
  out_none g = rw g

  pub out-short : T ((header t k).good h) → length (bits_of out) < length l → bits_out true t k h out ≡ untouched (refusal buffer_too_short (pos (bytes_for (length l)))) out
  unfolding bits_out written
  out-short g s = rw (T_true ((header t k).good h) g, zero-add (length l), lt-leb (length l) (length (bits_of out)) s)

  pub out-bits : T ((header t k).good h) → length l ≤ length (bits_of out) → bits_out true t k h out ≡ record { answer = Ok (length l); left = put_bits out 0 l }
  unfolding bits_out written
  out-bits g s = rw (T_true ((header t k).good h) g, zero-add (length l), le-leb (length l) (length (bits_of out)) s)

  -- a good record's answer is not 25
  pub good-written : T ((header t k).good h) → (bits_out true t k h out).answer ≡ Err (refusal no_bits (pos 0)) → ⊥
  good-written g w =
      cases (leb (length l) (length (bits_of out)))
      (λ r.
      let e = ap (λ (o : HeaderOut). o.answer) (out-bits g (leb-true (length l) (length (bits_of out)) r)) in
      no_bits_lem (sym w ∙ e))
      (λ r.
      let e = sym w ∙ ap (λ (o : HeaderOut). o.answer) (out-short g (leb-false (length l) (length (bits_of out)) r)) in
      let i : refusal no_bits (pos 0) ≡ refusal buffer_too_short (pos (bytes_for (length l))) = (cc e) in
      let z : no_bits ≡ buffer_too_short = ap (λ (c : Refusal). c.number) i in
      omega (arith, z))

-- ---- for what is told of the unit

module _ (t : Table) (b : ℕ) (x : ExtensionGiven) (h : SliceHeader) (out : List ℕ) where
  pub goes_on : {k : UnitKind} → kind_given b x ≡ Ok k → Found t h.pic_parameter_set_id → write_header t b x h out ≡ bits_out true t k h out
  unfolding write_where
  goes_on q f = rw (q, f.are)

  module _ (n : ℕ) (left : List ℕ) where
    abbrev Out : HeaderOut
    Out = record { answer = Ok n; left = left }

    of-bits : (k : UnitKind) → kind_given b x ≡ Ok k → bits_out true t k h out ≡ Out → Wrote t b x h out n left
    of-bits k q w =
        let m = length ((header t k).bits h) in
        cases ((header t k).good h)
        (λ g.
        let good : T ((header t k).good h) = rw g tt in
        cases (leb m (length (bits_of out)))
        (λ r.
        let room = leb-true m (length (bits_of out)) r in
        let e = sym w ∙ out-bits t k h out good room in
        record {
          kind = k;
          is-kind = q;
          is-good = good;
          size = (cc (ap (λ (o : HeaderOut). o.answer) e));
          room = room;
          left_is = ap (λ (o : HeaderOut). o.left) e;
        })
        (λ r.
        let e = sym (out-short t k h out good (omega (arith, leb-false m (length (bits_of out)) r))) ∙ w in
        no_bits_lem (ap (λ (o : HeaderOut). o.answer) e)))
        (λ g. no_bits_lem (ap (λ (o : HeaderOut). o.answer) (sym (out_none t k h out g) ∙ w)))

    of-sets : (k : UnitKind) → kind_given b x ≡ Ok k → (f : Result NamedSets Refusal) → after_sets true t k h out f ≡ Out → Wrote t b x h out n left
    of-sets k q (Ok s) w = of-bits k q w
    of-sets k q (Err r) w = no_bits_lem (ap (λ (o : HeaderOut). o.answer) w)

    of-kind : (f : Result UnitKind Refusal) → kind_given b x ≡ f → after_kind true t h out f ≡ Out → Wrote t b x h out n left
    of-kind (Ok k) q w = of-sets k q (sets_for t h.pic_parameter_set_id) w
    of-kind (Err r) q w = no_bits_lem (ap (λ (o : HeaderOut). o.answer) w)

  pub wrote : {n : ℕ} {left : List ℕ} → write_header t b x h out ≡ record { answer = Ok n; left = left } → Wrote t b x h out n left
  unfolding write_where
  wrote {n} {left} w = of-kind n left (kind_given b x) refl w
