-- What a refusal of the writer goes with: the buffer is as it was, the number is one of those that are checked, and it has no place in a body. What 26 says. And 25, with the checks before it left unsaid.
use Prim.Native.Nat.{ℕ, ◌<◌}
use mathlib.Core.Path.{◌≡◌, refl, sym, ap, subst, ◌∙◌}
use mathlib.Core.List.{List, [], ◌∷◌, ◌++◌}
use mathlib.Core.Bool.{Bool, true, false, ◌||◌}
use native.Mathlib.Omega.{arith}
use borrow.Author.Tests.{leb-true, leb-false}
use lib.Dec.{T, leb, eqb}
use lib.IntN.{pos}
use lib.ListN.{length}
use Rattle.bits.specs.Refusals.{got, pick, refusal, no_bits, buffer_too_short}
use Rattle.bits.specs.Bits.{Bits, bits_of}
use Rattle.bits.specs.Put.{written}
use Rattle.bits.specs.declared.refusals.Refusal.{Refusal}
use Rattle.bits.proofs.Results.{cases}
use Rattle.nal.specs.declared.header.NalHeader.{NalHeader}
use Rattle.nal.specs.declared.extension.NalHeaderExtension.{NalHeaderExtension}
use Rattle.nal.specs.Header.{forbidden_zero_bit_of, header_from}
use Rattle.nal.specs.Extension.{extension_from}
use Rattle.table.specs.declared.sets.Picture.{Picture}
use Rattle.table.specs.declared.table.Table.{Table}
use Rattle.table.specs.Tables.{found_picture, picture_at, sequence_at}
use Rattle.syntax.specs.declared.context.UnitKind.{UnitKind}
use Rattle.syntax.specs.declared.record.SliceHeader.{SliceHeader}
use Rattle.syntax.specs.SliceHeader.{header, read_header}
use Rattle.header.specs.Kinds.{is_extended}
use Rattle.unit.specs.declared.answer.UnitAnswer.{UnitAnswer}
use Rattle.unit.specs.Begin.{type_in, is_plain}
use Rattle.unit.specs.Unit.{unit_read}
use Rattle.writer.specs.declared.given.ExtensionGiven.{ExtensionGiven}
use Rattle.writer.specs.Given.{with_extension, typed, kind_given}
use Rattle.writer.specs.Write.{HeaderOut, with_sequence, with_picture, sets_for, bits_out, after_sets, after_kind, write_where, write_header}
use Rattle.writer.proofs.Passed.{Found}
use Rattle.writer.proofs.Answers.{out_none, out-short, out-bits}
use Rattle.writer.proofs.Units.{byte, Starts, plain, with-extension, plain-short, never-of}
use Rattle.writer.proofs.RoundTrip.{refused-no-unit, unread-refused}
use Rattle.std.specs.Prelude.{Result, Ok, Err, Option, Some, None}
use Rattle.table.specs.declared.sets.Sequence.{Sequence}
use Rattle.writer.specs.declared.sets.NamedSets.{NamedSets}

abbrev pub among : List ℕ → ℕ → Bool
among [] n = false
among (m ∷ ms) n = eqb n m || among ms n

-- ---- the checks on the unit: 2, 3, 4, 13

abbrev KindFine : Result UnitKind Refusal → Type 0
KindFine (Ok k) = Unit {0}
KindFine (Err r) = T (among (2 ∷ 3 ∷ 4 ∷ 13 ∷ []) r.number) × (r.has_bit ≡ false)

kind-by : (c : Bool) (a b : Result UnitKind Refusal) → KindFine a → KindFine b → KindFine (pick c a b)
kind-by true a b f g = f
kind-by false a b f g = g

extension-fine : (h : NalHeader) (e : NalHeaderExtension) → KindFine (with_extension h e)
extension-fine h (NalHeaderExtension.Mvc m) = tt
extension-fine h (NalHeaderExtension.Svc v) = (tt, refl)

typed-fine : (h : NalHeader) (x : ExtensionGiven) → KindFine (typed h x)
unfolding typed
typed-fine h x =
    kind-by (is_plain (type_in h)) _ _ tt (kind-by (is_extended h) _ _ (kind-by x.there _ _ (extension-fine h (extension_from x.b1 x.b2 x.b3)) (tt, refl)) (tt, refl))

kind-fine : (b : ℕ) (x : ExtensionGiven) → KindFine (kind_given b x)
unfolding kind_given header_from
kind-fine b x = cases (eqb (forbidden_zero_bit_of b) 0) (λ i. rw i (typed-fine (byte b) x)) (λ i. rw i (tt, refl))

-- ---- the checks on the sets: 8, 9, 10

abbrev SetsFine : Result NamedSets Refusal → Type 0
SetsFine (Ok s) = Unit {0}
SetsFine (Err r) = T (among (8 ∷ 9 ∷ 10 ∷ []) r.number) × (r.has_bit ≡ false)

sequence-fine : (p : Picture) (w : ℕ) (f : Option Sequence) → SetsFine (with_sequence p w f)
sequence-fine p w (Some s) = tt
sequence-fine p w None = (tt, refl)

picture-fine : (t : Table) (id : ℕ) (f : Option (Picture × ℕ)) → SetsFine (with_picture t id f)
picture-fine t id (found_picture p w) = sequence-fine p w (sequence_at t p.seq_parameter_set_id)
picture-fine t id None = (tt, refl)

sets-fine : (t : Table) (id : ℕ) → SetsFine (sets_for t id)
unfolding sets_for
sets-fine t id = cases (leb id 255) (λ i. rw i (picture-fine t id (picture_at t id))) (λ i. rw i (tt, refl))

-- ---- the answer

-- the numbers, in the order of the checks
abbrev pub numbers : List ℕ
numbers = 2 ∷ 3 ∷ 4 ∷ 13 ∷ 8 ∷ 9 ∷ 10 ∷ 25 ∷ 26 ∷ []

-- a number of some checks is one of all
among-left : (xs ys : List ℕ) (n : ℕ) → T (among xs n) → T (among (xs ++ ys) n)
among-left [] ys n h = absurd h
among-left (m ∷ xs) ys n h = go (eqb n m) (among-left xs ys n) h
  where
    go : (b : Bool) → (T (among xs n) → T (among (xs ++ ys) n)) → T (b || among xs n) → T (b || among (xs ++ ys) n)
    go true f g = tt
    go false f g = f g

among-right : (xs ys : List ℕ) (n : ℕ) → T (among ys n) → T (among (xs ++ ys) n)
among-right [] ys n h = h
among-right (m ∷ xs) ys n h = go (eqb n m) (among-right xs ys n h)
  where
    go : (b : Bool) → T (among (xs ++ ys) n) → T (b || among (xs ++ ys) n)
    go true g = tt
    go false g = g

-- a refusal leaves the buffer as it was, and has one of the numbers
abbrev Fine : List ℕ → List ℕ → Result ℕ Refusal → Type 0
Fine out left (Ok n) = Unit {0}
Fine out left (Err r) = (left ≡ out) × (T (among numbers r.number) × (r.has_bit ≡ false))

module _ (t : Table) (h : SliceHeader) (out : List ℕ) where
  abbrev OutFine : HeaderOut → Type 0
  OutFine o = Fine out o.left o.answer

  bits-fine : (k : UnitKind) → OutFine (bits_out true t k h out)
  bits-fine k =
      let l = (header t k).bits h in
      cases ((header t k).good h)
      (λ g.
      let good : T ((header t k).good h) = rw g tt in
      cases (leb (length l) (length (bits_of out)))
      (λ m. rw (out-bits t k h out good (leb-true (length l) (length (bits_of out)) m)) tt)
      (λ m. rw (out-short t k h out good (leb-false (length l) (length (bits_of out)) m)) (refl, (tt, refl))))
      (λ g. rw (out_none t k h out g) (refl, (tt, refl)))

  by-sets : (k : UnitKind) (f : Result NamedSets Refusal) → SetsFine f → OutFine (after_sets true t k h out f)
  by-sets k (Ok s) g = bits-fine k
  by-sets k (Err r) g = (refl, (among-right (2 ∷ 3 ∷ 4 ∷ 13 ∷ []) (8 ∷ 9 ∷ 10 ∷ 25 ∷ 26 ∷ []) r.number (among-left (8 ∷ 9 ∷ 10 ∷ []) (25 ∷ 26 ∷ []) r.number g.0), g.1))

  by_kind : (f : Result UnitKind Refusal) → KindFine f → OutFine (after_kind true t h out f)
  by_kind (Ok k) g = by-sets k (sets_for t h.pic_parameter_set_id) (sets-fine t h.pic_parameter_set_id)
  by_kind (Err r) g = (refl, (among-left (2 ∷ 3 ∷ 4 ∷ 13 ∷ []) (8 ∷ 9 ∷ 10 ∷ 25 ∷ 26 ∷ []) r.number g.0, g.1))

module _ (t : Table) (b : ℕ) (x : ExtensionGiven) (h : SliceHeader) (out : List ℕ) where
  fine : Fine out (write_header t b x h out).left (write_header t b x h out).answer
  unfolding write_where
  fine = by_kind t h out (kind_given b x) (kind-fine b x)

  pub refused-with : {r : Refusal} → (write_header t b x h out).answer ≡ Err r → ((write_header t b x h out).left ≡ out) × (T (among numbers r.number) × (r.has_bit ≡ false))
  refused-with e = subst (Fine out (write_header t b x h out).left) e fine

-- ---- 26

-- a good record, whose bits are more than the buffer has
pub record TooLong (t : Table) (h : SliceHeader) (out : List ℕ) : Type 0 where
  pub kind : UnitKind
  pub is-good : T ((header t kind).good h)
  pub no_room : length (bits_of out) < length ((header t kind).bits h)

-- another check's number is not 26
not-26 : {P : Type 0} (r : Refusal) (ns : List ℕ) → T (among ns r.number) → r.number ≡ buffer_too_short → among ns buffer_too_short ≡ false → P
not-26 r ns g e f = absurd (rw f at (rw e at g))

module _ (t : Table) (h : SliceHeader) (out : List ℕ) where
  abbrev Long : Result ℕ Refusal → Type 0
  Long (Ok n) = Unit {0}
  Long (Err r) = r.number ≡ buffer_too_short → TooLong t h out

  some-long : (k : UnitKind) → Long (bits_out true t k h out).answer
  some-long k =
      let l = (header t k).bits h in
      cases ((header t k).good h)
      (λ g.
      let good : T ((header t k).good h) = rw g tt in
      cases (leb (length l) (length (bits_of out)))
      (λ m. rw (out-bits t k h out good (leb-true (length l) (length (bits_of out)) m)) tt)
      (λ m.
      let s = leb-false (length l) (length (bits_of out)) m in
      rw (out-short t k h out good s) (λ e. record { kind = k; is-good = good; no_room = s })))
      (λ g. rw (out_none t k h out g) (λ e. absurd (omega (arith, e))))

  none-long : (k : UnitKind) → Long (bits_out false t k h out).answer
  unfolding bits_out written
  none-long k = λ e. absurd (omega (arith, e))

  -- whether or not there is a record
  bits-long : (ok : Bool) (k : UnitKind) → Long (bits_out ok t k h out).answer
  bits-long true k = some-long k
  bits-long false k = none-long k

  sets-long : (ok : Bool) (k : UnitKind) (f : Result NamedSets Refusal) → SetsFine f → Long (after_sets ok t k h out f).answer
  sets-long ok k (Ok s) g = bits-long ok k
  sets-long ok k (Err r) g = λ e. not-26 r (8 ∷ 9 ∷ 10 ∷ []) g.0 e refl

  kind-long : (ok : Bool) (f : Result UnitKind Refusal) → KindFine f → Long (after_kind ok t h out f).answer
  kind-long ok (Ok k) g = sets-long ok k (sets_for t h.pic_parameter_set_id) (sets-fine t h.pic_parameter_set_id)
  kind-long ok (Err r) g = λ e. not-26 r (2 ∷ 3 ∷ 4 ∷ 13 ∷ []) g.0 e refl

-- 26 is given to such a record alone
pub too_long : (ok : Bool) (t : Table) (b : ℕ) (x : ExtensionGiven) (h : SliceHeader) (out : List ℕ) {r : Refusal} → (write_where ok t b x h out).answer ≡ Err r
    → r.number ≡ buffer_too_short → TooLong t h out
unfolding write_where
too_long ok t b x h out e = subst (Long t h out) e (kind-long t h out ok (kind_given b x) (kind-fine b x))

-- ---- 25

abbrev none : Result ℕ Refusal
none = Err (refusal no_bits (pos 0))

-- a check of others is no 25
other : {P : Type 0} {r : Refusal} → Err r ≡ none → (ns : List ℕ) → T (among ns r.number) → among ns 25 ≡ false → P
other {r = r} e ns g f =
    let i : r ≡ refusal no_bits (pos 0) = (cc e) in
    absurd (rw f at (rw i at g))

-- ---- units that start as the writer was told

-- the first byte, the extension where the type is 20 or 21, and the bytes of the body
abbrev pub unit_of : ℕ → ExtensionGiven → List ℕ → List ℕ
unit_of b x v = pick (is_extended (byte b)) (b ∷ x.b1 ∷ x.b2 ∷ x.b3 ∷ v) (b ∷ v)

starts-plain : (b : ℕ) (x : ExtensionGiven) (v : List ℕ) → is_plain (type_in (byte b)) ≡ true → Starts b x (unit_of b x v) v
starts-plain b x v p = rw (plain-short (type_in (byte b)) p) (plain v p)

starts-long : (b : ℕ) (x : ExtensionGiven) (v : List ℕ) → is_extended (byte b) ≡ true → x.there ≡ true → Starts b x (unit_of b x v) v
starts-long b x v p g = rw p (with-extension v p g)

pub told-starts : (b : ℕ) (x : ExtensionGiven) {k : UnitKind} → kind_given b x ≡ Ok k → (v : List ℕ) → Starts b x (unit_of b x v) v
unfolding kind_given header_from typed
told-starts b x q v =
    cases (eqb (forbidden_zero_bit_of b) 0)
    (λ i.
    cases (is_plain (type_in (byte b)))
    (λ p. starts-plain b x v p)
    (λ p.
    cases (is_extended (byte b))
    (λ e. cases x.there (λ g. starts-long b x v e g) (λ g. never-of (rw (i, p, e, g) at q)))
    (λ e. never-of (rw (i, p, e) at q))))
    (λ i. never-of (rw i at q))

-- the answer is one of the checks up to 25, so neither bits nor 26
pub record Turned (a : Result ℕ Refusal) : Type 0 where
  pub why : Refusal
  pub is : a ≡ Err why
  pub number : T (among (2 ∷ 3 ∷ 4 ∷ 13 ∷ 8 ∷ 9 ∷ 10 ∷ 25 ∷ []) why.number)

module _ (t : Table) (b : ℕ) (x : ExtensionGiven) (h : SliceHeader) (out : List ℕ) where
  by-the-kind : {d : Refusal} → kind_given b x ≡ Err d → (write_header t b x h out).answer ≡ Err d
  unfolding write_where
  by-the-kind q = rw q

  by-the-sets : {k : UnitKind} {d : Refusal} → kind_given b x ≡ Ok k → sets_for t h.pic_parameter_set_id ≡ Err d
      → (write_header t b x h out).answer ≡ Err d
  unfolding write_where
  by-the-sets q g = rw (q, g)

  -- where 25 is given, no unit that starts as the writer was told reads as the record
  pub none_reads : (write_header t b x h out).answer ≡ none → (v scratch : List ℕ) (e : ℕ)
      → (unit_read t (unit_of b x v) scratch).read.answer ≡ UnitAnswer.Slice e → (unit_read t (unit_of b x v) scratch).read.header ≡ h → ⊥
  none_reads w v scratch e a r = kind (kind_given b x) refl (kind-fine b x)
    where
      sets : {k : UnitKind} → kind_given b x ≡ Ok k → (f : Result NamedSets Refusal) → sets_for t h.pic_parameter_set_id ≡ f → SetsFine f → ⊥
      sets q (Ok s) g i = refused-no-unit t b x h out q (record { sets = s; are = g }) w (unit_of b x v) v scratch e (told-starts b x q v) a r
      sets q (Err d) g i = other (sym (by-the-sets q g) ∙ w) (8 ∷ 9 ∷ 10 ∷ []) i.0 refl

      kind : (f : Result UnitKind Refusal) → kind_given b x ≡ f → KindFine f → ⊥
      kind (Ok k) q i = sets q (sets_for t h.pic_parameter_set_id) refl (sets-fine t h.pic_parameter_set_id)
      kind (Err d) q i = other (sym (by-the-kind q) ∙ w) (2 ∷ 3 ∷ 4 ∷ 13 ∷ []) i.0 refl

  -- and where no bits read to the record, it is given, unless a check before it is
  pub unread-turned : ((k : UnitKind) (s : Bits) (e : ℕ) → read_header t k s ≡ got h e → ⊥) → Turned (write_header t b x h out).answer
  unread-turned n = kind (kind_given b x) refl (kind-fine b x)
    where
      sets : {k : UnitKind} → kind_given b x ≡ Ok k → (f : Result NamedSets Refusal) → sets_for t h.pic_parameter_set_id ≡ f → SetsFine f → Turned (write_header t b x h out).answer
      sets {k} q (Ok s) g i =
          let f : Found t h.pic_parameter_set_id = record { sets = s; are = g } in
          record { why = refusal no_bits (pos 0); is = ap (λ (o : HeaderOut). o.answer) (unread-refused t b x h out q f (n k)); number = tt }
      sets q (Err d) g i =
          record {
            why = d;
            is = by-the-sets q g;
            number = among-right (2 ∷ 3 ∷ 4 ∷ 13 ∷ []) (8 ∷ 9 ∷ 10 ∷ 25 ∷ []) d.number (among-left (8 ∷ 9 ∷ 10 ∷ []) (25 ∷ []) d.number i.0);
          }

      kind : (f : Result UnitKind Refusal) → kind_given b x ≡ f → KindFine f → Turned (write_header t b x h out).answer
      kind (Ok k) q i = sets q (sets_for t h.pic_parameter_set_id) refl (sets-fine t h.pic_parameter_set_id)
      kind (Err d) q i = record { why = d; is = by-the-kind q; number = among-left (2 ∷ 3 ∷ 4 ∷ 13 ∷ []) (8 ∷ 9 ∷ 10 ∷ 25 ∷ []) d.number i.0 }
