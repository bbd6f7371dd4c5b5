-- The writer's theorems, for every table, unit, record and buffer: what is written reads back, what was read is written as it stood, and 25 is given exactly
-- where no bits read to the record.
use Prim.Native.Nat.{ℕ, ◌≤◌}
use mathlib.Core.Path.{◌≡◌, refl, sym, ap, subst, ◌∙◌}
use mathlib.Core.List.{List, ◌++◌}
use mathlib.Core.Bool.{true}
use native.Mathlib.Nat.{zero-add}
use lib.IntN.{pos}
use lib.ListN.{length, take, drop}
use lib.Seq.{take_at}
use Rattle.bits.specs.Refusals.{got, refusal, no_bits, limit}
use Rattle.bits.specs.Bits.{Bits, bits_of}
use Rattle.bits.specs.Put.{put_bits, bytes_for}
use Rattle.bits.proofs.Buffers.{round_trip}
use Rattle.table.specs.declared.table.Table.{Table}
use Rattle.syntax.specs.declared.context.UnitKind.{UnitKind}
use Rattle.syntax.specs.declared.record.SliceHeader.{SliceHeader}
use Rattle.syntax.specs.SliceHeader.{header, any_set, read_header}
use Rattle.syntax.proofs.Header as syntax
use Rattle.syntax.proofs.HeaderSize.{header-most}
use Rattle.syntax.specs.Absent.{no_prefix}
use Rattle.unit.specs.declared.answer.UnitAnswer.{UnitAnswer}
use Rattle.unit.specs.Answer.{slice_answer}
use Rattle.unit.specs.Unit.{unit_read}
use Rattle.writer.specs.declared.given.ExtensionGiven.{ExtensionGiven}
use Rattle.writer.specs.Given.{kind_given}
use Rattle.writer.specs.Write.{HeaderOut, untouched, write_header}
use Rattle.writer.proofs.Passed.{Found, sets-found, not-scalable}
use Rattle.writer.proofs.Answers.{wrote, goes_on, out_none, out-bits, good-written}
use Rattle.writer.proofs.Room.{room-bits}
use Rattle.writer.proofs.Units.{Starts, begins, tells, starts, first_of, extension_in, body_of, starts-body, body_bits, slice-reads, slice-read}
use Rattle.std.specs.Prelude.{Result, Ok, Err}
use Rattle.bits.specs.declared.refusals.Refusal.{Refusal}

-- bits put at the front stand there
front-bits : (d : List ℕ) (l : Bits) → length l ≤ length (bits_of d) → take (length l) (bits_of (put_bits d 0 l)) ≡ l
front-bits d l room =
    ap (take (length l)) (round_trip d 0 l (rw (zero-add (length l)) room)) ∙ take_at l _ (length l) refl

-- ---- what is written reads back

module _ (t : Table) (b : ℕ) (x : ExtensionGiven) (h : SliceHeader) (out : List ℕ) {n : ℕ} {left : List ℕ}
    (w : write_header t b x h out ≡ record { answer = Ok n; left = left }) where
  -- the first n bits of the buffer are the header's
  pub written-bits : {k : UnitKind} → kind_given b x ≡ Ok k → take n (bits_of left) ≡ (header t k).bits h
  written-bits {k} q =
      let y = wrote t b x h out w in
      let a : Ok y.kind ≡ Ok k = sym y.is-kind ∙ q in
      let i : y.kind ≡ k = (cc a) in
      (λ j. take (y.size j) (bits_of (y.left_is j))) ∙ front-bits out _ y.room ∙ ap (λ (m : UnitKind). (header t m).bits h) i

  -- so a unit whose body starts with them, with a bit set later than the one that follows them, reads as the record
  pub reads-back : (u v : List ℕ) → Starts b x u v → length u ≤ limit → (q : Bits) → body_bits v ≡ take n (bits_of left) ++ q → any_set (drop 1 q) ≡ true
      → (scratch : List ℕ) → length u ≤ length scratch
      → (unit_read t u scratch).read ≡ record { answer = UnitAnswer.Slice n; header = h; prefix = no_prefix }
  reads-back u v s small q e m scratch room =
      let y = wrote t b x h out w in
      let k = y.kind in
      let z = begins s y.is-kind small in
      let body : body_bits (drop z.from u) ≡ (header t k).bits h ++ q = ap body_bits z.rest ∙ e ∙ ap (λ (l : Bits). l ++ q) (written-bits y.is-kind) in
      slice-reads t u scratch z.is room
      ∙ ap (λ (l : Bits). slice_answer (read_header t k l)) body
      ∙ ap slice_answer (syntax.reads-back t k h q y.is-good m)
      ∙ ap (λ (i : ℕ). record { answer = UnitAnswer.Slice i; header = h; prefix = no_prefix }) (sym y.size)

-- ---- what was read is written as it stood

module _ (t : Table) (u scratch : List ℕ) (h : SliceHeader) (e : ℕ) (a : (unit_read t u scratch).read.answer ≡ UnitAnswer.Slice e) (r : (unit_read t u scratch).read.header ≡ h) where
  -- for a first byte and an extension that the unit starts with
  pub rewrites-as : (b : ℕ) (x : ExtensionGiven) (v out : List ℕ) → Starts b x u v → bytes_for e ≤ length out
      → write_header t b x h out ≡ record { answer = Ok e; left = put_bits out 0 (take e (body_bits v)) }
  rewrites-as b x v out s room =
      let y = slice-read t u scratch a r in
      let k = y.kind in
      let z = syntax.rewrites t k _ h e y.reads in
      let d = tells s y.is (not-scalable t k h z.is-good) in
      let l : take e (body_bits v) ≡ (header t k).bits h = ap (λ (c : List ℕ). take e (body_bits c)) (sym d.1) ∙ z.bits_are in
      let few = header-most t k h z.is-good in
      goes_on t b x h out d.0 (sets-found t k h z.is-good)
      ∙ out-bits t k h out z.is-good (room-bits out _ few (rw z.size at room))
      ∙ (λ j. record { answer = Ok (sym z.size j); left = put_bits out 0 (sym l j) })

  -- for its own first byte and extension: the answer is e bits, and the first e bits of the body stand at the front of the buffer
  pub rewrites : (out : List ℕ) → bytes_for e ≤ length out
      → write_header t (first_of u) (extension_in u) h out ≡ record { answer = Ok e; left = put_bits out 0 (take e (body_bits (body_of u))) }
  rewrites out room =
      let s = starts u (slice-read t u scratch a r).is in
      rewrites-as (first_of u) (extension_in u) _ out s room ∙ ap (λ (v : List ℕ). record { answer = Ok e; left = put_bits out 0 (take e (body_bits v)) }) (starts-body s)

  -- and so they are the first e bits that it holds
  pub rewritten-bits : (out : List ℕ) → bytes_for e ≤ length out → take e (bits_of (write_header t (first_of u) (extension_in u) h out).left) ≡ take e (body_bits (body_of u))
  rewritten-bits out room =
      let y = slice-read t u scratch a r in
      let z = syntax.rewrites t y.kind _ h e y.reads in
      let s = starts u y.is in
      let d = tells s y.is (not-scalable t y.kind h z.is-good) in
      ap (λ (o : HeaderOut). take e (bits_of o.left)) (rewrites out room)
      ∙ written-bits t (first_of u) (extension_in u) h out (rewrites out room) d.0
      ∙ sym z.bits_are
      ∙ ap (λ (v : List ℕ). take e (body_bits v)) (starts-body s)

-- ---- 25

-- the checks before it are passed
module _ (t : Table) (b : ℕ) (x : ExtensionGiven) (h : SliceHeader) (out : List ℕ) {k : UnitKind} (q : kind_given b x ≡ Ok k) (f : Found t h.pic_parameter_set_id) where
  abbrev refused : Result ℕ Refusal
  refused = Err (refusal no_bits (pos 0))

  -- where it is given, no bits read to the record
  pub refused-unread : (write_header t b x h out).answer ≡ refused → (s : Bits) (e : ℕ) → read_header t k s ≡ got h e → ⊥
  refused-unread w s e r =
      let g = (syntax.rewrites t k s h e r).is-good in
      good-written t k h out g (sym (ap (λ (o : HeaderOut). o.answer) (goes_on t b x h out q f)) ∙ w)

  -- and so no unit that starts as the writer was told reads as it
  pub refused-no-unit : (write_header t b x h out).answer ≡ refused → (u v scratch : List ℕ) (e : ℕ) → Starts b x u v
      → (unit_read t u scratch).read.answer ≡ UnitAnswer.Slice e → (unit_read t u scratch).read.header ≡ h → ⊥
  refused-no-unit w u v scratch e s a r =
      let y = slice-read t u scratch a r in
      let z = syntax.rewrites t y.kind _ h e y.reads in
      let d = tells s y.is (not-scalable t y.kind h z.is-good) in
      let j : Ok y.kind ≡ Ok k = sym d.0 ∙ q in
      let i : y.kind ≡ k = (cc j) in
      refused-unread w _ e (subst (λ (n : UnitKind). read_header t n (body_bits (drop y.from u)) ≡ got h e) i y.reads)

  -- and where none do, it is given, and the buffer is as it was
  pub unread-refused : ((s : Bits) (e : ℕ) → read_header t k s ≡ got h e → ⊥) → write_header t b x h out ≡ untouched (refusal no_bits (pos 0)) out
  unread-refused n = goes_on t b x h out q f ∙ out_none t k h out (syntax.not_good t k h n)
