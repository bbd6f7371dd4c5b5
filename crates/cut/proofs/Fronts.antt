-- Reading the front of a body: what is read from it is what is read from all of it, unless it ran out or nothing follows; and from a front that holds every header
-- all answers are those of the whole.
use Prim.Native.Nat.{ℕ, zero, suc, ◌+◌, ◌≤◌, ◌<◌}
use mathlib.Core.Path.{◌≡◌, refl, sym, ap, ◌∙◌}
use mathlib.Core.List.{List, [], ◌∷◌, ◌++◌}
use mathlib.Core.Bool.{Bool, true, false, ◌||◌}
use native.Mathlib.Omega.{arith}
use borrow.Author.Tests.{eq-eqb, le-leb, lt-leb, leb-true, leb-false}
use lib.Dec.{leb, eqb}
use lib.IntN.{pos}
use lib.ListN.{length, take, drop, length-drop}
use lib.Seq.{drop-append-le, length-take-le}
use Rattle.bits.specs.declared.refusals.Refusal.{Refusal}
use Rattle.bits.specs.Refusals.{Res, got, no, bind, pick, refusal_at}
use Rattle.bits.specs.Bits.{Bits, digits, bytes_bits}
use Rattle.bits.proofs.Slices.{length-bytes}
use Rattle.bits.proofs.Results.{under, chosen}
use Rattle.fmt.proofs.Lawful.{T_true}
use Rattle.fmt.proofs.Ahead.{Onward, same, refused, out, on-got, on-no, on_room}
use Rattle.escape.specs.Body.{body}
use Rattle.table.specs.declared.table.Table.{Table}
use Rattle.syntax.specs.declared.context.UnitKind.{UnitKind}
use Rattle.syntax.specs.declared.context.PrefixKind.{PrefixKind}
use Rattle.syntax.specs.declared.record.SliceHeader.{SliceHeader}
use Rattle.syntax.specs.declared.record.Prefix.{Prefix}
use Rattle.syntax.specs.SliceHeader.{header, any_set, read_header}
use Rattle.syntax.specs.Prefix.{prefix}
use Rattle.syntax.proofs.Ahead.{header-ahead, prefix-ahead}
use Rattle.bits.proofs.Slices.{bytes-append}
use Rattle.cut.specs.Seam.{body_bits, behind_bits, far, far_body, may_change}
use Rattle.cut.proofs.AnySet.{any_append}
use Rattle.cut.proofs.Seams.{cut-bits, two-thirds}

-- ---- bits

any-drop : (k : ℕ) (s t : Bits) → any_set (drop k s) ≡ true → any_set (drop k (s ++ t)) ≡ true
any-drop zero s t h = rw (any_append s t, h)
any-drop (suc k) [] t h = absurd (let z : ◌≡◌ {A = ℕ} 0 1 = cc in omega arith)
any-drop (suc k) (b ∷ s) t h = any-drop k s t h

ends_by : {A : Type 0} {room top : ℕ} {x y : Res A} {a : A} {e : ℕ} → Onward room top x y → x ≡ got a e → e ≤ top
ends_by (same {a} {e} h l) p = omega (arith, ends p)
  where
    ends : {A : Type 0} {a b : A} {d e : ℕ} → got a d ≡ got b e → d ≡ e
    ends p = cc
ends_by refused p = absurd (let z : ◌≡◌ {A = ℕ} 0 1 = cc in omega arith)
ends_by (out h l) p = absurd (let z : ◌≡◌ {A = ℕ} 0 1 = cc in omega arith)

-- a refusal that more of the unit does not change is neither 5 nor 22
pub not_five : (r : Refusal) → may_change r ≡ false → r.number ≡ 5 → ⊥
not_five r h e = let x : true ≡ false = rw (eq-eqb r.number 5 e) at h in let z : ◌≡◌ {A = ℕ} 0 1 = cc in omega arith

pub not-22 : (r : Refusal) → may_change r ≡ false → r.number ≡ 22 → ⊥
not-22 r h e = go (eqb r.number 5) h
  where
    go : (b : Bool) → (b || eqb r.number 22) ≡ false → ⊥
    go true p = let z : ◌≡◌ {A = ℕ} 0 1 = cc in omega arith
    go false p = let x : true ≡ false = rw (eq-eqb r.number 22 e) at p in let z : ◌≡◌ {A = ℕ} 0 1 = cc in omega arith

-- ---- a header

module _ (t : Table) (n : UnitKind) (s : Bits) where
  abbrev ahead : (r : Bits) → Onward (length s) (0 + 63173) ((header t n).read s 0) ((header t n).read (s ++ r) 0)
  ahead r = (header-ahead t n).goes s r 0 (omega arith)

  -- a header that is read from the front
  pub near-got : (r : Bits) (h : SliceHeader) (e : ℕ) → read_header t n s ≡ got h e → read_header t n (s ++ r) ≡ got h e
  unfolding read_header
  near-got r h e q =
      under ((header t n).read s 0) _ q
      (λ a d ha k.
      let w = chosen (any_set (drop (d + 1) s)) a h d e _ k in
      rw ((on-got (ahead r) ha).0, any-drop (d + 1) s r (T_true (any_set (drop (d + 1) s)) w.0)) (cc (w.1, w.2)))

  -- and one that is refused there, unless it ran out or nothing follows
  pub near-no : (r : Bits) (x : Refusal) → read_header t n s ≡ no x → (x.number ≡ 5 → ⊥) → (x.number ≡ 22 → ⊥) → read_header t n (s ++ r) ≡ no x
  unfolding read_header
  near-no r x q f g = go ((header t n).read s 0) refl q
    where
      picked : (b : Bool) (h : SliceHeader) (d : ℕ) → pick b (got h d) (no (refusal_at 22 (pos 0) d)) ≡ no x → x.number ≡ 22
      picked true h d p = absurd (let z : ◌≡◌ {A = ℕ} 0 1 = cc in omega arith)
      picked false h d p = cc

      go : (m : Res SliceHeader) → (header t n).read s 0 ≡ m → bind m (λ h e. pick (any_set (drop (e + 1) s)) (got h e) (no (refusal_at 22 (pos 0) e))) ≡ no x
          → bind ((header t n).read (s ++ r) 0) (λ h e. pick (any_set (drop (e + 1) (s ++ r))) (got h e) (no (refusal_at 22 (pos 0) e))) ≡ no x
      go (got h d) e p = absurd (g (picked (any_set (drop (d + 1) s)) h d p))
      go (no y) e p = let w : (header t n).read s 0 ≡ no x = e ∙ p in rw (on-no (ahead r) w f)

  -- from a front that holds every header, only whether a bit is set behind it matters
  pub far-same : (x r : Bits) → 63174 ≤ length s → any_set x ≡ any_set r → read_header t n (s ++ x) ≡ read_header t n (s ++ r)
  unfolding read_header
  far-same x r l q = rw (on_room (ahead x) (omega arith), on_room (ahead r) (omega arith)) (go ((header t n).read s 0) refl)
    where
      go : (m : Res SliceHeader) → (header t n).read s 0 ≡ m
          → bind m (λ h e. pick (any_set (drop (e + 1) (s ++ x))) (got h e) (no (refusal_at 22 (pos 0) e)))
          ≡ bind m (λ h e. pick (any_set (drop (e + 1) (s ++ r))) (got h e) (no (refusal_at 22 (pos 0) e)))
      go (got h d) e =
          let i : d ≤ 0 + 63173 = ends_by (ahead x) e in
          rw (drop-append-le (d + 1) s x (omega arith), drop-append-le (d + 1) s r (omega arith), any_append (drop (d + 1) s) x, any_append (drop (d + 1) s) r, q)
      go (no y) e = refl

-- ---- the body of a prefix unit

module _ (k : PrefixKind) (s : Bits) where
  abbrev ahead-prefix : (r : Bits) → Onward (length s) (0 + 12540) ((prefix k).read s 0) ((prefix k).read (s ++ r) 0)
  ahead-prefix r = (prefix-ahead k).goes s r 0 (omega arith)

  pub prefix-got : (r : Bits) (p : Prefix) (e : ℕ) → (prefix k).read s 0 ≡ got p e → (prefix k).read (s ++ r) 0 ≡ got p e
  prefix-got r p e q = (on-got (ahead-prefix r) q).0

  pub prefix-no : (r : Bits) (x : Refusal) → (prefix k).read s 0 ≡ no x → (x.number ≡ 5 → ⊥) → (prefix k).read (s ++ r) 0 ≡ no x
  prefix-no r x q f = on-no (ahead-prefix r) q f

-- ---- a unit

-- a byte that stands for bits
byte-set : (b : Bool) → any_set (bytes_bits (pick b 1 0 ∷ [])) ≡ b
unfolding bytes_bits digits
byte-set true = refl
byte-set false = refl

module _ (unit : List ℕ) (from : ℕ) (few : from ≤ 4) where
  -- a unit that goes on
  module _ (long : far < length unit) where
    abbrev S : Bits
    S = body_bits (take far unit) from

    S-long : 65520 ≤ length (body_bits (take far unit) from)
    S-long =
        omega (
          arith,
          length-bytes (body 0 (drop from (take far unit))),
          two-thirds (drop from (take far unit)),
          length-drop from (take far unit),
          length-take-le far unit (omega arith),
        )

    far-bytes : bytes_bits (far_body unit from) ≡ S ++ bytes_bits (pick (any_set (behind_bits unit from far)) 1 0 ∷ [])
    unfolding far_body
    far-bytes = rw (lt-leb (length unit) far long) (bytes-append (body 0 (drop from (take far unit))) (pick (any_set (behind_bits unit from far)) 1 0 ∷ []))

    cut-far : body_bits unit from ≡ S ++ behind_bits unit from far
    cut-far = cut-bits unit from far (omega arith) (omega arith)

    long-header : (t : Table) (n : UnitKind) → read_header t n (bytes_bits (far_body unit from)) ≡ read_header t n (body_bits unit from)
    long-header t n =
        ap (read_header t n) far-bytes
        ∙ far-same t n S (bytes_bits (pick (any_set (behind_bits unit from far)) 1 0 ∷ [])) (behind_bits unit from far) (omega (arith, S-long)) (byte-set (any_set (behind_bits unit from far)))
        ∙ sym (ap (read_header t n) cut-far)

    -- what looks at no bit from 65,520 on
    long-any : {A : Type 0} (f : Bits → A) → ((s r : Bits) → 65520 ≤ length s → f (s ++ r) ≡ f s) → f (bytes_bits (far_body unit from)) ≡ f (body_bits unit from)
    long-any f h = ap f far-bytes ∙ h S _ S-long ∙ sym (h S (behind_bits unit from far) S-long) ∙ sym (ap f cut-far)

  -- one that is short is read whole
  short-bytes : length unit ≤ far → bytes_bits (far_body unit from) ≡ body_bits unit from
  unfolding far_body
  short-bytes h = rw (le-leb (length unit) far h)

  pub far-header : (t : Table) (n : UnitKind) → read_header t n (bytes_bits (far_body unit from)) ≡ read_header t n (body_bits unit from)
  far-header t n = go (leb (length unit) far) refl
    where
      go : (b : Bool) → leb (length unit) far ≡ b → read_header t n (bytes_bits (far_body unit from)) ≡ read_header t n (body_bits unit from)
      go true h = ap (read_header t n) (short-bytes (leb-true (length unit) far h))
      go false h = long-header (leb-false (length unit) far h) t n

  pub far-any : {A : Type 0} (f : Bits → A) → ((s r : Bits) → 65520 ≤ length s → f (s ++ r) ≡ f s) → f (bytes_bits (far_body unit from)) ≡ f (body_bits unit from)
  far-any {A} f h = go (leb (length unit) far) refl
    where
      go : (b : Bool) → leb (length unit) far ≡ b → f (bytes_bits (far_body unit from)) ≡ f (body_bits unit from)
      go true e = ap f (short-bytes (leb-true (length unit) far e))
      go false e = long-any (leb-false (length unit) far e) f h

  pub far-prefix : (k : PrefixKind) → (prefix k).read (bytes_bits (far_body unit from)) 0 ≡ (prefix k).read (body_bits unit from) 0
  far-prefix k = far-any (λ (b : Bits). (prefix k).read b 0) (λ s r l. on_room (ahead-prefix k s r) (omega arith))
