-- Units that are read as slices: what their first bytes say is what the writer is told, and their body's header is what reading the unit answers.
use Prim.Native.Nat.{ℕ, ◌≤◌}
use mathlib.Core.Path.{◌≡◌, refl, sym, ap, subst, subst⁻¹, ◌∙◌}
use mathlib.Core.List.{List, [], ◌∷◌}
use mathlib.Core.Bool.{Bool, true, false, true≢false, ◌||◌}
use native.Mathlib.Omega.{arith}
use borrow.Author.Tests.{le-leb, leb-true}
use lib.Dec.{leb, eqb, eqb→eq}
use lib.ListN.{length, get_or, drop}
use Rattle.bits.specs.Refusals.{Res, got, no, pick, limit}
use Rattle.bits.specs.Bits.{Bits, bytes_bits}
use Rattle.bits.specs.declared.refusals.Refusal.{Refusal}
use Rattle.bits.proofs.Results.{cases}
use Rattle.nal.specs.declared.header.NalHeader.{NalHeader}
use Rattle.nal.specs.declared.extension.NalHeaderExtension.{NalHeaderExtension}
use Rattle.nal.specs.Header.{forbidden_zero_bit_of, header_from, header_of}
use Rattle.nal.specs.Extension.{extension_from, extension_of}
use Rattle.escape.specs.Body.{body}
use Rattle.table.specs.declared.table.Table.{Table}
use Rattle.syntax.specs.declared.context.UnitKind.{UnitKind}
use Rattle.syntax.specs.declared.record.SliceHeader.{SliceHeader}
use Rattle.syntax.specs.declared.record.Prefix.{Prefix}
use Rattle.syntax.specs.SliceHeader.{read_header}
use Rattle.syntax.specs.Prefix.{prefix}
use Rattle.header.specs.Kinds.{is_extended, kind_of}
use Rattle.parameter_sets.specs.declared.sequence.SequenceSet.{SequenceSet}
use Rattle.parameter_sets.specs.declared.picture.PictureSet.{PictureSet}
use Rattle.parameter_sets.specs.SequenceSet.{sequence_set}
use Rattle.parameter_sets.specs.PictureSet.{picture_set}
use Rattle.unit.specs.declared.answer.UnitAnswer.{UnitAnswer}
use Rattle.unit.specs.declared.answer.UnitRead.{UnitRead}
use Rattle.unit.specs.declared.begin.Begun.{Begun}
use Rattle.unit.specs.Answer.{only, slice_answer, prefix_answer, sequence_answer, picture_answer}
use Rattle.unit.specs.Begin.{absent_extension, type_in, is_plain, has_extension, extended, without_extension, typed, begun}
use Rattle.unit.specs.Unit.{in_body, slice_bits, prefix_bits, sequence_bits, picture_bits, after_begin, unit_read}
use Rattle.unit.proofs.Cases.{begun-small}
use Rattle.writer.specs.declared.given.ExtensionGiven.{ExtensionGiven}
use Rattle.writer.specs.Given.{with_extension, kind_given}
use Rattle.writer.specs.Given as goal
use Rattle.std.specs.Prelude.{Ok, Err}

abbrev pub byte : ℕ → NalHeader
byte b = record { 0 = b }

-- unit u has the first byte b and, if its type is 20 or 21, the extension x; the bytes w of its body follow
pub data Starts (b : ℕ) (x : ExtensionGiven) : List ℕ → List ℕ → Type 0 where
  plain : (w : List ℕ) → is_plain (type_in (byte b)) ≡ true → Starts b x (b ∷ w) w
  with-extension : (w : List ℕ) → is_extended (byte b) ≡ true → x.there ≡ true → Starts b x (b ∷ x.b1 ∷ x.b2 ∷ x.b3 ∷ w) w

-- ---- types

-- what holds of two types holds of one that is either
by-type : (P : ℕ → Type 0) (m n t : ℕ) → (eqb t m || eqb t n) ≡ true → P m → P n → P t
by-type P m n t e p q =
    cases (eqb t m)
    (λ i. subst⁻¹ P (eqb→eq t m (rw i tt)) p)
    (λ i. let j : eqb t n ≡ true = rw i at e in subst⁻¹ P (eqb→eq t n (rw j tt)) q)

-- 20 and 21 are not plain, have an extension, and are not 14
pub record Extended (t : ℕ) : Type 0 where
  pub not_plain : is_plain t ≡ false
  pub has : has_extension t ≡ true
  pub not-prefix : eqb t 14 ≡ false

types-extended : (t : ℕ) → (eqb t 20 || eqb t 21) ≡ true → Extended t
types-extended t e = by-type Extended 20 21 t e (record { not_plain = refl; has = refl; not-prefix = refl }) (record { not_plain = refl; has = refl; not-prefix = refl })

pub plain-short : (t : ℕ) → is_plain t ≡ true → (eqb t 20 || eqb t 21) ≡ false
plain-short t e = by-type (λ (i : ℕ). (eqb i 20 || eqb i 21) ≡ false) 1 5 t e refl refl

-- a refusal is no kind
pub never-of : {P : Type 0} {r : Refusal} {k : UnitKind} → Err r ≡ Ok k → P
never-of q = absurd (let z : ◌≡◌ {A = ℕ} 0 1 = (cc q) in omega arith)

-- what begins as something else is no slice
abbrev is_slice : Begun → Bool
is_slice (Begun.Slice k from) = true
is_slice (Begun.«Prefix» kind) = false
is_slice Begun.SequenceSet = false
is_slice Begun.PictureSet = false
is_slice (Begun.Other id) = false
is_slice (Begun.Refused r) = false

never-slice : {P : Type 0} {a : Begun} {k : UnitKind} {from : ℕ} → a ≡ Begun.Slice k from → is_slice a ≡ false → P
never-slice q e = absurd (true≢false (sym (ap is_slice q) ∙ e))

none_other : (t : ℕ) → is_slice (without_extension t) ≡ false
none_other t = cases (eqb t 7) (λ i. rw i) (λ i. rw i (cases (eqb t 8) (λ j. rw j) (λ j. rw j)))

-- ---- what is told of the unit, and its first bytes

module _ (b : ℕ) (x : ExtensionGiven) where
  abbrev e : NalHeaderExtension
  e = extension_from x.b1 x.b2 x.b3

  abbrev h : NalHeader
  h = byte b

  -- the first byte is not refused
  heard : {k : UnitKind} → kind_given b x ≡ Ok k → header_from b ≡ Ok h
  unfolding kind_given header_from
  heard q = cases (eqb (forbidden_zero_bit_of b) 0) (λ i. rw i) (λ i. never-of (rw i at q))

  begun-at : (w : List ℕ) → length (b ∷ w) ≤ limit → header_from b ≡ Ok h → begun (b ∷ w) ≡ typed (b ∷ w) h
  unfolding begun header_of
  begun-at w s q = rw (le-leb (length (b ∷ w)) limit s, q)

  told_at : header_from b ≡ Ok h → kind_given b x ≡ goal.typed h x
  unfolding kind_given
  told_at q = rw q

  -- a plain unit
  plain-begun : (w : List ℕ) → is_plain (type_in h) ≡ true → typed (b ∷ w) h ≡ Begun.Slice (kind_of h absent_extension) 1
  unfolding typed
  plain-begun w p = rw p

  plain-told : is_plain (type_in h) ≡ true → goal.typed h x ≡ Ok (kind_of h absent_extension)
  unfolding goal.typed
  plain-told p = rw p

  -- one with an extension
  long-begun : (w : List ℕ) → is_extended h ≡ true → typed (b ∷ x.b1 ∷ x.b2 ∷ x.b3 ∷ w) h ≡ Begun.Slice (kind_of h e) 4
  unfolding typed extended extension_of
  long-begun w p =
      let y = types-extended (type_in h) p in
      rw (y.not_plain, y.has, le-leb 4 (length (b ∷ x.b1 ∷ x.b2 ∷ x.b3 ∷ w)) (omega arith), y.not-prefix)

  long-told : is_extended h ≡ true → x.there ≡ true → goal.typed h x ≡ with_extension h e
  unfolding goal.typed
  long-told p g = rw ((types-extended (type_in h) p).not_plain, p, g)

  -- the extension's top bit is clear
  mvc-kind : (y : NalHeaderExtension) {k : UnitKind} → with_extension h y ≡ Ok k → kind_of h y ≡ k
  mvc-kind (NalHeaderExtension.Mvc m) q = (cc q)
  mvc-kind (NalHeaderExtension.Svc v) q = never-of q

  kind-mvc : (y : NalHeaderExtension) → is_extended h ≡ true → (kind_of h y).svc ≡ false → with_extension h y ≡ Ok (kind_of h y)
  unfolding kind_of
  kind-mvc (NalHeaderExtension.Mvc m) p s = refl
  kind-mvc (NalHeaderExtension.Svc v) p s = absurd (true≢false (rw p at s))

  -- a unit that is read starts with a first byte
  heard-first : (w : List ℕ) {k : UnitKind} {from : ℕ} → length (b ∷ w) ≤ limit → begun (b ∷ w) ≡ Begun.Slice k from → header_from b ≡ Ok h
  unfolding begun header_of header_from
  heard-first w s q = cases (eqb (forbidden_zero_bit_of b) 0) (λ i. rw i) (λ i. never-slice (rw (le-leb (length (b ∷ w)) limit s, i) at q) refl)

-- a unit's kind, and the bytes of its body
pub record Begins (u w : List ℕ) (k : UnitKind) : Type 0 where
  pub from : ℕ
  pub is : begun u ≡ Begun.Slice k from
  pub rest : drop from u ≡ w

-- what is told of a unit is how it begins
pub begins : {b : ℕ} {x : ExtensionGiven} {u w : List ℕ} {k : UnitKind} → Starts b x u w → kind_given b x ≡ Ok k → length u ≤ limit → Begins u w k
begins {b} {x} {k = k} (plain w p) q s =
    let g = heard b x q in
    let a : Ok (kind_of (byte b) absent_extension) ≡ Ok k = sym (plain-told b x p) ∙ sym (told_at b x g) ∙ q in
    let i : kind_of (byte b) absent_extension ≡ k = (cc a) in
    record { from = 1; is = begun-at b x w s g ∙ plain-begun b x w p ∙ ap (λ (n : UnitKind). Begun.Slice n 1) i; rest = refl }
begins {b} {x} {k = k} (with-extension w p y) q s =
    let g = heard b x q in
    let i = mvc-kind b x (extension_from x.b1 x.b2 x.b3) (sym (long-told b x p y) ∙ sym (told_at b x g) ∙ q) in
    record { from = 4; is = begun-at b x _ s g ∙ long-begun b x w p ∙ ap (λ (n : UnitKind). Begun.Slice n 4) i; rest = refl }

-- and how it begins is what is told, but of scalable slices
pub tells : {b : ℕ} {x : ExtensionGiven} {u w : List ℕ} {k : UnitKind} {from : ℕ} → Starts b x u w → begun u ≡ Begun.Slice k from → k.svc ≡ false
    → (kind_given b x ≡ Ok k) × (drop from u ≡ w)
tells {b} {x} {k = k} {from = from} (plain w p) q s =
    let z = begun-small (b ∷ w) (Begun.Slice k from) (sym q) refl in
    let g = heard-first b x w z q in
    let a : Begun.Slice (kind_of (byte b) absent_extension) 1 ≡ Begun.Slice k from = sym (plain-begun b x w p) ∙ sym (begun-at b x w z g) ∙ q in
    let i : kind_of (byte b) absent_extension ≡ k = (cc a) in
    let j : 1 ≡ from = (cc a) in
    (told_at b x g ∙ plain-told b x p ∙ ap Ok i, rw (← j))
tells {b} {x} {k = k} {from = from} (with-extension w p y) q s =
    let e : NalHeaderExtension = extension_from x.b1 x.b2 x.b3 in
    let z = begun-small (b ∷ x.b1 ∷ x.b2 ∷ x.b3 ∷ w) (Begun.Slice k from) (sym q) refl in
    let g = heard-first b x _ z q in
    let a : Begun.Slice (kind_of (byte b) e) 4 ≡ Begun.Slice k from = sym (long-begun b x w p) ∙ sym (begun-at b x _ z g) ∙ q in
    let i : kind_of (byte b) e ≡ k = (cc a) in
    let j : 4 ≡ from = (cc a) in
    (told_at b x g ∙ long-told b x p y ∙ kind-mvc b x e p (ap (λ (n : UnitKind). n.svc) i ∙ s) ∙ ap Ok i, rw (← j))

-- ---- a unit's own first byte and extension

abbrev pub first_of : List ℕ → ℕ
first_of u = get_or u 0 0

-- unused for types 1 and 5
abbrev pub extension_in : List ℕ → ExtensionGiven
extension_in u = record { there = true; b1 = get_or u 1 0; b2 = get_or u 2 0; b3 = get_or u 3 0 }

-- the bytes of a slice's body
abbrev pub body_of : List ℕ → List ℕ
body_of u = drop (pick (is_extended (byte (first_of u))) 4 1) u

pub starts-body : {b : ℕ} {x : ExtensionGiven} {u v : List ℕ} → Starts b x u v → v ≡ body_of u
starts-body {b} (plain w p) = rw (plain-short (type_in (byte b)) p)
starts-body (with-extension w p y) = rw p

four : (b : ℕ) (w : List ℕ) → 4 ≤ length (b ∷ w) → is_extended (byte b) ≡ true → Starts b (extension_in (b ∷ w)) (b ∷ w) (drop 4 (b ∷ w))
four b [] s p = absurd (omega arith)
four b (c ∷ []) s p = absurd (omega arith)
four b (c ∷ (d ∷ [])) s p = absurd (omega arith)
four b (c ∷ (d ∷ (f ∷ w))) s p = with-extension w p refl

by-extension : (b : ℕ) (w : List ℕ) {k : UnitKind} {from : ℕ} → is_plain (type_in (byte b)) ≡ false → typed (b ∷ w) (byte b) ≡ Begun.Slice k from
    → Starts b (extension_in (b ∷ w)) (b ∷ w) (drop from (b ∷ w))
unfolding typed extended extension_of
by-extension b w {k} {from} p a =
    let t : ℕ = type_in (byte b) in
    cases (has_extension t)
    (λ i.
    cases (leb 4 (length (b ∷ w)))
    (λ l.
    cases (eqb t 14)
    (λ r. never-slice (rw (p, i, l, r) at a) refl)
    (λ r.
    let j : 4 ≡ from = (cc (rw (p, i, l, r) at a)) in
    subst (λ (n : ℕ). Starts b (extension_in (b ∷ w)) (b ∷ w) (drop n (b ∷ w))) j (four b w (leb-true 4 (length (b ∷ w)) l) (rw r at i))))
    (λ l. never-slice (rw (p, i, l) at a) refl))
    (λ i. never-slice (rw (p, i) at a) (none_other t))

-- a unit that begins as a slice starts with them
pub starts : (u : List ℕ) {k : UnitKind} {from : ℕ} → begun u ≡ Begun.Slice k from → Starts (first_of u) (extension_in u) u (drop from u)
unfolding begun header_of
starts [] q = never-slice q refl
starts (b ∷ w) {k} {from} q =
    let z = begun-small (b ∷ w) (Begun.Slice k from) (sym q) refl in
    let x : ExtensionGiven = extension_in (b ∷ w) in
    let g = heard-first b x w z q in
    let a : typed (b ∷ w) (byte b) ≡ Begun.Slice k from = sym (begun-at b x w z g) ∙ q in
    cases (is_plain (type_in (byte b)))
    (λ p.
    let j : 1 ≡ from = (cc (sym (plain-begun b x w p) ∙ a)) in
    subst (λ (n : ℕ). Starts b x (b ∷ w) (drop n (b ∷ w))) j (plain w p))
    (λ p. by-extension b w p a)

-- ---- reading

-- the bits of a body
abbrev pub body_bits : List ℕ → Bits
body_bits w = bytes_bits (body 0 w)

abbrev is_slice_answer : UnitAnswer → Bool
is_slice_answer (UnitAnswer.Slice n) = true
is_slice_answer UnitAnswer.«Prefix» = false
is_slice_answer (UnitAnswer.Sequence v) = false
is_slice_answer (UnitAnswer.Picture v) = false
is_slice_answer (UnitAnswer.Other id) = false
is_slice_answer (UnitAnswer.Refused r) = false

never-answer : {P : Type 0} {a : UnitAnswer} {e : ℕ} → a ≡ UnitAnswer.Slice e → is_slice_answer a ≡ false → P
never-answer q i = absurd (true≢false (sym (ap is_slice_answer q) ∙ i))

prefix-none : (m : Res Prefix) → is_slice_answer (prefix_answer m).answer ≡ false
unfolding only
prefix-none (got p e) = refl
prefix-none (no r) = refl

sequence-none : (m : Res SequenceSet) → is_slice_answer (sequence_answer m).answer ≡ false
unfolding only
sequence-none (got v e) = refl
sequence-none (no r) = refl

picture-none : (m : Res PictureSet) → is_slice_answer (picture_answer m).answer ≡ false
unfolding only
picture-none (got v e) = refl
picture-none (no r) = refl

-- a body that holds no slice
never-body : {P : Type 0} (reads : Bits → UnitRead) (u : List ℕ) (from : ℕ) (scratch : List ℕ) {e : ℕ} → (in_body reads u from scratch).read.answer ≡ UnitAnswer.Slice e
    → is_slice_answer (reads (body_bits (drop from u))).answer ≡ false → P
unfolding only in_body
never-body reads u from scratch a n = cases (leb (length u) (length scratch)) (λ l. never-answer (rw l at a) n) (λ l. never-answer (rw l at a) refl)

-- a slice was read, with header h of e bits
pub record SliceRead (t : Table) (u : List ℕ) (h : SliceHeader) (e : ℕ) : Type 0 where
  pub kind : UnitKind
  pub from : ℕ
  pub is : begun u ≡ Begun.Slice kind from
  pub reads : read_header t kind (body_bits (drop from u)) ≡ got h e

module _ (t : Table) (u scratch : List ℕ) where
  -- a slice in scratch that is long enough is read by its header
  pub slice-reads : {k : UnitKind} {from : ℕ} → begun u ≡ Begun.Slice k from → length u ≤ length scratch
      → (unit_read t u scratch).read ≡ slice_answer (read_header t k (body_bits (drop from u)))
  unfolding unit_read in_body slice_bits
  slice-reads q s = rw (q, le-leb (length u) (length scratch) s)

  module _ (h : SliceHeader) (e : ℕ) where
    -- what an answer says that is a slice's
    of-result : {k : UnitKind} {from : ℕ} → begun u ≡ Begun.Slice k from → (m : Res SliceHeader) → read_header t k (body_bits (drop from u)) ≡ m
        → (slice_answer m).answer ≡ UnitAnswer.Slice e → (slice_answer m).header ≡ h → SliceRead t u h e
    unfolding only
    of-result q (got g d) r a b =
        let i : d ≡ e = (cc a) in
        record { kind = _; from = _; is = q; reads = r ∙ (λ j. got (b j) (i j)) }
    of-result q (no x) r a b = absurd (let z : ◌≡◌ {A = ℕ} 0 1 = (cc a) in omega arith)

    of-begun : (y : Begun) → begun u ≡ y → (after_begin t u scratch y).read.answer ≡ UnitAnswer.Slice e → (after_begin t u scratch y).read.header ≡ h → SliceRead t u h e
    unfolding only in_body slice_bits prefix_bits sequence_bits picture_bits
    of-begun (Begun.Slice k from) q a b =
        cases (leb (length u) (length scratch))
        (λ l. of-result q (read_header t k (body_bits (drop from u))) refl (rw l at a) (rw l at b))
        (λ l. never-answer (rw l at a) refl)
    of-begun (Begun.«Prefix» kind) q a b = never-body (prefix_bits kind) u 4 scratch a (prefix-none ((prefix kind).read (body_bits (drop 4 u)) 0))
    of-begun Begun.SequenceSet q a b = never-body sequence_bits u 1 scratch a (sequence-none (sequence_set (body_bits (drop 1 u)) 0))
    of-begun Begun.PictureSet q a b = never-body picture_bits u 1 scratch a (picture-none (picture_set (body_bits (drop 1 u)) 0))
    of-begun (Begun.Other id) q a b = never-answer a refl
    of-begun (Begun.Refused r) q a b = never-answer a refl

  pub slice-read : {h : SliceHeader} {e : ℕ} → (unit_read t u scratch).read.answer ≡ UnitAnswer.Slice e → (unit_read t u scratch).read.header ≡ h → SliceRead t u h e
  unfolding unit_read
  slice-read {h} {e} a b = of-begun h e (begun u) refl a b
