-- Damage behind the header (change request M-109): a slice's record is the same, whatever becomes of the bytes after the last that holds a header bit.
use Prim.Native.Nat.{ℕ, zero, suc, ◌+◌, ◌-◌, ◌*◌, ◌≤◌, ◌<◌, min}
use mathlib.Core.Path.{◌≡◌, refl, sym, ap, subst, subst⁻¹, ◌∙◌}
use mathlib.Core.List.{List, ◌++◌}
use mathlib.Core.Bool.{Bool, true, false, true≢false}
use native.Mathlib.Omega.{arith}
use native.Mathlib.Decide.{dec_lt}
use native.Mathlib.Nat.{zero-sub}
use borrow.Author.Tests.{ltb-true, lt-ltb}
use lib.Dec.{ltb}
use lib.ListN.{length, take, drop, length-take, length-drop, take-append-drop}
use lib.Seq.{drop-nil, get_or-take, length-take-le, drop-append-le, take-take, take-length}
use Rattle.bits.specs.Refusals.{pick, limit}
use Rattle.bits.specs.Put.{bytes_for}
use Rattle.table.specs.declared.table.Table.{Table}
use Rattle.syntax.specs.declared.record.SliceHeader.{SliceHeader}
use Rattle.syntax.proofs.Header as syntax
use Rattle.escape.specs.Body.{body}
use Rattle.syntax.specs.Absent.{no_prefix}
use Rattle.unit.specs.declared.answer.UnitAnswer.{UnitAnswer}
use Rattle.unit.specs.declared.answer.UnitRead.{UnitRead}
use Rattle.unit.specs.Answer.{slice_answer}
use Rattle.unit.specs.Begin.{type_in}
use Rattle.unit.specs.Unit.{unit_read}
use Rattle.std.specs.Prelude.{Some}
use Rattle.std.proofs.lemmas.Option.{same_Some, none-some}
use Rattle.walk.specs.declared.search.Span.{Span}
use Rattle.walk.specs.declared.walk.Step.{Step}
use Rattle.walk.specs.Walk.{upto, len_of, first_from, unit_at, next_unit}
use Rattle.walk.specs.Walked.{WalkOut, next_step, reading, walked}
use Rattle.walk.proofs.Hits.{code-room}
use Rattle.walk.proofs.Resync.{near}
use Rattle.walk.proofs.Steps.{step-found, found_at, walked_at, step_of}
use Rattle.writer.specs.declared.given.ExtensionGiven.{ExtensionGiven}
use Rattle.writer.proofs.Passed.{not-scalable}
use Rattle.writer.proofs.Units.{byte, Starts, plain, with-extension, plain-short, begins, tells, starts, starts-body, slice-read, slice-reads}
use Rattle.promises.specs.Demands.{is_long, first_of, extension_in, body_of, body_bits}
use Rattle.promises.specs.Behind.{raw_bytes, header_bytes, more_behind, unit_from}
use Rattle.promises.proofs.Raw.{raw-least, raw-le, same_bits, drop-take, none-set}

-- ---- the first bytes

-- a unit that goes on otherwise after its first byte and extension, and k bytes of its body
again : {b : ℕ} {x : ExtensionGiven} {u v : List ℕ} → Starts b x u v → (k : ℕ) (r : List ℕ) → Starts b x (take (pick (is_long b) 4 1 + k) u ++ r) (take k v ++ r)
again {b} (plain w p) k r =
    let f : is_long b ≡ false = plain-short (type_in (byte b)) p in
    let i : 1 + k ≡ suc k = omega arith in
    rw (f, i) (plain (take k w ++ r) p)
again (with-extension w p y) k r =
    let i : 4 + k ≡ suc (suc (suc (suc k))) = omega arith in
    rw (p, i) (with-extension (take k w ++ r) p y)

-- it is as long as they are together
start-length : {b : ℕ} {x : ExtensionGiven} {u v : List ℕ} → Starts b x u v → pick (is_long b) 4 1 + length v ≡ length u
start-length {b} (plain w p) = let f : is_long b ≡ false = plain-short (type_in (byte b)) p in rw f (omega arith)
start-length (with-extension w p y) = rw p (omega arith)

-- ---- a unit

module _ (t : Table) (u scratch : List ℕ) (e : ℕ) (a : (unit_read t u scratch).read.answer ≡ UnitAnswer.Slice e) where
  abbrev h : SliceHeader
  h = (unit_read t u scratch).read.header

  -- u' has the same bytes up to and with the last that holds a header bit: it reads as the same record, with the same count of bits
  pub behind-same : (u' scratch' : List ℕ) → take (header_bytes e u) u' ≡ take (header_bytes e u) u → more_behind e u' ≡ true → length u' ≤ limit → length u' ≤ length scratch'
      → (unit_read t u' scratch').read ≡ record { answer = UnitAnswer.Slice e; header = (unit_read t u scratch).read.header; prefix = no_prefix }
  behind-same u' scratch' same more small room =
      let y = slice-read t u scratch a refl in
      let z = syntax.rewrites t y.kind _ h e y.reads in
      let s = starts u y.is in
      let d = (tells s y.is (not-scalable t y.kind h z.is-good)).0 in
      let v = body_of u in
      let k = raw_bytes 0 (bytes_for e) v in
      let r = drop (header_bytes e u) u' in
      let b : drop y.from u ≡ body_of u = starts-body s in
      let q : u' ≡ take (header_bytes e u) u ++ r = sym (take-append-drop (header_bytes e u) u') ∙ ap (λ (l : List ℕ). l ++ r) same in
      let s₁ = subst (λ (l : List ℕ). Starts (first_of u) (extension_in u) u l) b s in
      let s₂ = subst⁻¹ (λ (l : List ℕ). Starts (first_of u) (extension_in u) l (take k v ++ r)) q (again s₁ k r) in
      let g = begins s₂ d small in
      let w : drop g.from u' ≡ body_of u' = g.rest ∙ starts-body s₂ in
      let i : length (take e (body_bits (drop y.from u))) ≡ e = ap length z.bits_are ∙ sym z.size in
      let c : e ≤ length (body_bits (drop y.from u)) = omega (arith, i, length-take e (body_bits (drop y.from u))) in
      let j : e ≤ length (body_bits (body_of u)) = rw b at c in
      let f : take e (body_bits (drop g.from u')) ≡ take e (body_bits (drop y.from u)) =
      ap (λ (l : List ℕ). take e (body_bits l)) g.rest ∙ same_bits e v r j ∙ ap (λ (l : List ℕ). take e (body_bits l)) (sym b) in
      slice-reads t u' scratch' g.is room
      ∙ ap slice_answer (syntax.local t y.kind (body_bits (drop y.from u)) (body_bits (drop g.from u')) h e y.reads f (rw (← w) at more))

  -- the header's bytes stand in the unit
  header-fits : header_bytes e u ≤ length u
  header-fits =
      let s = starts u (slice-read t u scratch a refl).is in
      let b : length (drop (slice-read t u scratch a refl).from u) ≡ length (body_of u) = ap length (starts-body s) in
      omega (arith, start-length s, raw-le 0 (bytes_for e) (body_of u))

-- ---- what is cut before the last header byte

-- the body of a unit's first j bytes
cut-body : (j : ℕ) (u : List ℕ) → body_of (take j u) ≡ take (j - pick (is_long (first_of u)) 4 1) (body_of u)
cut-body zero u = rw (drop-nil, zero-sub)
cut-body (suc j) u = let f : first_of (take (suc j) u) ≡ first_of u = get_or-take (suc j) u 0 0 (omega arith) in rw f (drop-take (pick (is_long (first_of u)) 4 1) (suc j) u)

-- it holds no bit behind the header
cut-none : (e j : ℕ) (u : List ℕ) → j < header_bytes e u → more_behind e (take j u) ≡ false
cut-none e j u h = rw (cut-body j u) (none-set e (take k (body_of u)) (go (dec_lt k (raw_bytes 0 (bytes_for e) (body_of u)))))
  where
    k : ℕ
    k = j - pick (is_long (first_of u)) 4 1

    go : Dec (k < raw_bytes 0 (bytes_for e) (body_of u)) → 8 * length (body 0 (take k (body_of u))) ≤ e
    go (yes l) = omega (arith, raw-least 0 (bytes_for e) (body_of u) k l)
    go (no l) = let i : k ≡ 0 = omega arith in rw i (omega arith)

-- ---- a unit of a recording

-- where the search finds a unit of l bytes: its start code ends at p
record At (s : List ℕ) (from p l : ℕ) : Type 0 where
  code : from + upto 1 (drop from s) + 3 ≡ p
  len : len_of (drop p s) ≡ l
  room : p ≤ length s

found : (s : List ℕ) (from p l n : ℕ) → next_unit s from ≡ Some (record { place = p; length = l; next = n }) → At s from p l
unfolding next_unit unit_at first_from
found s from p l n e = go (ltb (from + upto 1 (drop from s)) (length s)) refl
  where
    go : (b : Bool) → ltb (from + upto 1 (drop from s)) (length s) ≡ b → At s from p l
    go true f =
        let q : ◌≡◌ {A = Span} (unit_at s (from + upto 1 (drop from s))) (record { place = p; length = l; next = n }) = same_Some _ _ (rw f at e) in
        let qp : from + upto 1 (drop from s) + 3 ≡ p = λ i. (q i).place in
        let ql : len_of (drop (from + upto 1 (drop from s) + 3) s) ≡ l = λ i. (q i).length in
        record { code = qp; len = rw qp at ql; room = rw qp at (code-room s from (from + upto 1 (drop from s)) refl (ltb-true _ _ f)) }
    go false f = absurd (none-some _ (rw f at e))

finds : (s : List ℕ) (from p : ℕ) → from + upto 1 (drop from s) + 3 ≡ p → p ≤ length s → next_unit s from ≡ Some (record { place = p; length = len_of (drop p s); next = p + upto 0 (drop p s) })
unfolding next_unit unit_at first_from
finds s from p c room = rw (lt-ltb (from + upto 1 (drop from s)) (length s) (omega arith), c)

-- the first p bytes hold the start code: the search finds it in every recording that starts with them
same_code : (s s' : List ℕ) (from p : ℕ) → from + upto 1 (drop from s) + 3 ≡ p → p ≤ length s → take p s' ≡ take p s → from + upto 1 (drop from s') + 3 ≡ p
same_code s s' from p c room same =
    let Q = drop from (take p s) in
    let i : length (take p s) ≡ p = length-take-le p s room in
    let f : drop from s ≡ drop from (take p s) ++ drop p s = ap (drop from) (sym (take-append-drop p s)) ∙ drop-append-le from (take p s) (drop p s) (omega arith) in
    let w : s' ≡ take p s ++ drop p s' = sym (take-append-drop p s') ∙ ap (λ (l : List ℕ). l ++ drop p s') same in
    let g : drop from s' ≡ drop from (take p s) ++ drop p s' = ap (drop from) w ∙ drop-append-le from (take p s) (drop p s') (omega arith) in
    let j : length (drop from (take p s)) ≡ p - from = length-drop from (take p s) ∙ ap (λ (k : ℕ). k - from) i in
    let o : upto 1 (drop from (take p s)) ≡ upto 1 (drop from (take p s) ++ drop p s) = near 1 Q (drop p s) (omega (arith, ap (upto 1) f)) in
    let x : upto 1 (drop from (take p s)) ≡ upto 1 (drop from (take p s) ++ drop p s') = near 1 Q (drop p s') (omega (arith, ap (upto 1) f)) in
    omega (arith, ap (upto 1) f, ap (upto 1) g)

-- ---- a unit of a changed recording

module _ (t : Table) (s s' scratch scratch' : List ℕ) (from p l n e : ℕ) where
  -- a step to a unit reads it
  reads-unit : (walked t s from scratch).walked.step ≡ Step.Unit p l n
      → (next_unit s from ≡ Some (record { place = p; length = l; next = n })) × (walked t s from scratch ≡ reading t p l n (unit_read t (take l (drop p s)) scratch))
  unfolding walked
  reads-unit q =
      let w : next_step s from ≡ Step.Unit p l n = sym (step_of unit_read t s scratch (next_step s from)) ∙ q in
      (found_at s from w, walked_at t s from scratch w)

  -- Y and Y' are what stands from a unit's first byte on: the unit in Y' has the header's bytes
  same-front : (Y Y' : List ℕ) (l' : ℕ) → header_bytes e (take l Y) ≤ length (take l Y) → take (header_bytes e (take l Y)) Y' ≡ take (header_bytes e (take l Y)) Y
      → more_behind e (take l' Y') ≡ true → take (header_bytes e (take l Y)) (take l' Y') ≡ take (header_bytes e (take l Y)) (take l Y)
  same-front Y Y' l' fits same more = go (dec_lt (length (take l' Y')) (header_bytes e (take l Y)))
    where
      go : Dec (length (take l' Y') < header_bytes e (take l Y)) → take (header_bytes e (take l Y)) (take l' Y') ≡ take (header_bytes e (take l Y)) (take l Y)
      go (yes h) =
          let j = length (take l' Y') in
          let a : length (take l' Y') ≡ min l' (length Y') = length-take l' Y' in
          let b : length (take l Y) ≡ min l (length Y) = length-take l Y in
          let x : take (length (take l' Y')) (take l Y) ≡ take l' Y' =
          take-take j l Y (omega arith) ∙ sym (take-take j (header_bytes e (take l Y)) Y (omega arith)) ∙ ap (take j) (sym same) ∙ take-take j (header_bytes e (take l Y)) Y' (omega arith)
          ∙ sym (take-take j l' Y' (omega arith)) ∙ take-length (take l' Y') in
          absurd (true≢false (sym more ∙ ap (more_behind e) (sym x) ∙ cut-none e j (take l Y) h))
      go (no h) =
          let a : length (take l' Y') ≡ min l' (length Y') = length-take l' Y' in
          let b : length (take l Y) ≡ min l (length Y) = length-take l Y in
          take-take (header_bytes e (take l Y)) l' Y' (omega arith) ∙ same ∙ sym (take-take (header_bytes e (take l Y)) l Y (omega arith))

  -- s' has the same bytes up to and with the last that holds a header bit of the unit at p; behind it anything may stand, an end mark too. The walk over s' reports a unit at p, up to its end mark there, with the same record
  pub behind-walk : (walked t s from scratch).walked.step ≡ Step.Unit p l n → (walked t s from scratch).walked.read.answer ≡ UnitAnswer.Slice e
      → take (p + header_bytes e (unit_from s p)) s' ≡ take (p + header_bytes e (unit_from s p)) s → more_behind e (unit_from s' p) ≡ true
      → length s' ≤ limit → length (unit_from s' p) ≤ length scratch'
      → (walked t s' from scratch').walked
      ≡ record {
        step = Step.Unit p (len_of (drop p s')) (p + upto 0 (drop p s'));
        read = record { answer = UnitAnswer.Slice e; header = (walked t s from scratch).walked.read.header; prefix = no_prefix };
      }
  behind-walk q a same more small room =
      let w = reads-unit q in
      let f = found s from p l n w.0 in
      let u = take l (drop p s) in
      let i : unit_from s p ≡ take l (drop p s) = ap (λ (k : ℕ). take k (drop p s)) f.len in
      let m = header_bytes e (take l (drop p s)) in
      let r : (walked t s from scratch).walked.read ≡ (unit_read t (take l (drop p s)) scratch).read = ap (λ (o : WalkOut). o.walked.read) w.1 in
      let b : (unit_read t (take l (drop p s)) scratch).read.answer ≡ UnitAnswer.Slice e = sym (ap (λ (x : UnitRead). x.answer) r) ∙ a in
      let k : take (p + header_bytes e (take l (drop p s))) s' ≡ take (p + header_bytes e (take l (drop p s))) s = rw i at same in
      let c : take p s' ≡ take p s = sym (take-take p (p + m) s' (omega arith)) ∙ ap (take p) k ∙ take-take p (p + m) s (omega arith) in
      let long : p ≤ length s' = omega (arith, f.room, length-take p s, length-take p s', ap length c) in
      let g = finds s' from p (same_code s s' from p f.code f.room c) long in
      let d : p + header_bytes e (take l (drop p s)) - p ≡ header_bytes e (take l (drop p s)) = omega arith in
      let y : take (header_bytes e (take l (drop p s))) (drop p s') ≡ take (header_bytes e (take l (drop p s))) (drop p s) =
      rw d at (sym (drop-take p (p + m) s') ∙ ap (drop p) k ∙ drop-take p (p + m) s) in
      let z = same-front (drop p s) (drop p s') (len_of (drop p s')) (header-fits t u scratch e b) y more in
      let o : length (unit_from s' p) ≤ limit = omega (arith, length-take (len_of (drop p s')) (drop p s'), length-drop p s') in
      let x = behind-same t u scratch e b (unit_from s' p) scratch' z more o room ∙ ap (λ (v : UnitRead). record { answer = UnitAnswer.Slice e; header = v.header; prefix = no_prefix }) (sym r) in
      ap (λ (v : WalkOut). v.walked) (walked_at t s' from scratch' (sym (step-found s' from small g))) ∙ ap (λ (v : UnitRead). record { step = Step.Unit p (len_of (drop p s')) (p + upto 0 (drop p s')); read = v }) x
