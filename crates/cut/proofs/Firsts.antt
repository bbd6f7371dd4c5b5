-- The body of a unit's first bytes in an array: what unescaping them says, and what stands at the array's front.
use Prim.Native.Nat.{ℕ, suc, ◌+◌, ◌≤◌, ◌<◌}
use mathlib.Core.Path.{◌≡◌, refl, sym, ap, ◌∙◌}
use mathlib.Core.List.{List, [], ◌∷◌, ◌++◌, append_assoc}
use mathlib.Core.Bool.{Bool, true, false}
use native.Mathlib.Omega.{arith}
use borrow.Author.Tests.{le-leb, lt-leb, leb-true, leb-false}
use lib.Dec.{leb}
use lib.ListN.{length, get_or, take, drop, set, replicate, length-take, length-append, length-replicate}
use lib.Seq.{take_all, take-length, length-take-le, drop-cons, set-append_seam}
use Rattle.bits.specs.Refusals.{pick, limit}
use Rattle.bits.specs.declared.refusals.Refusal.{Refusal}
use Rattle.bits.specs.Bits.{bytes_bits, bits_of}
use Rattle.bits.proofs.Slices.{bits-reach}
use Rattle.escape.specs.Body.{body, start_with, Unescaped, unescaped}
use Rattle.escape.proofs.Bodies.{front, part_length, same-room, done}
use Rattle.syntax.specs.SliceHeader.{any_set}
use Rattle.cut.specs.Seam.{behind_bits, near, far, near_body, far_body}
use Rattle.std.specs.Prelude.{Result, Ok, Err}

abbrev body_to : List ℕ → ℕ → ℕ → List ℕ
body_to unit from end = body 0 (drop from (take end unit))

-- ---- unescaping

module _ (unit : List ℕ) (from end : ℕ) (local : List ℕ) (h : end ≤ length unit) (l : end ≤ length local) (m : end ≤ limit) where
  opened : unescaped (take end unit) from local ≡ record { answer = Ok (length (body_to unit from end)); left = start_with (body_to unit from end) local }
  opened = let e = length-take-le end unit h in done (take end unit) from local (omega arith) (omega arith)

  pub first_read : {a : Result ℕ Refusal} {z : List ℕ} {n : ℕ} → a ≡ (unescaped (take end unit) from local).answer → z ≡ (unescaped (take end unit) from local).left → a ≡ Ok n
      → (n ≡ length (body_to unit from end)) × (z ≡ start_with (body_to unit from end) local)
  first_read {a} {z} {n} p q e =
      let w : Ok n ≡ Ok (length (body_to unit from end)) = sym e ∙ p ∙ ap (λ (u : Unescaped). u.answer) opened in
      (cc, q ∙ ap (λ (u : Unescaped). u.left) opened)

  pub first-none : {a : Result ℕ Refusal} {r : Refusal} → a ≡ (unescaped (take end unit) from local).answer → a ≡ Err r → ⊥
  first-none {a} {r} p e =
      let w : Err r ≡ Ok (length (body_to unit from end)) = sym e ∙ p ∙ ap (λ (u : Unescaped). u.answer) opened in
      let z : ◌≡◌ {A = ℕ} 0 1 = cc in
      omega arith

-- ---- the array

-- what stands at the front of an array that has room for it
pub held : (x : List ℕ) (local : List ℕ) → length x ≤ length local → {r : ℕ} {z : List ℕ} → r ≡ length x → z ≡ start_with x local → (r ≤ length z) × (take r z ≡ x)
held x local l {r} {z} p q =
    let e : length z ≡ length local = ap length q ∙ same-room x local l in
    (omega arith, rw (p, q) (front x local))

-- and a byte behind it
pub one_more : (x local : List ℕ) (a : ℕ) → length x < length local → set (start_with x local) (length x) a ≡ start_with (x ++ (a ∷ [])) local
one_more x local a h =
    let k : suc (length x) ≡ length (x ++ (a ∷ [])) = omega (arith, length-append x (a ∷ [])) in
    ap (λ (l : List ℕ). set (x ++ l) (length x) a) (drop-cons local (length x) 0 h)
    ∙ set-append_seam x (get_or local (length x) 0) (drop (suc (length x)) local) a
    ∙ sym (append_assoc x (a ∷ []) (drop (suc (length x)) local))
    ∙ ap (λ (j : ℕ). (x ++ (a ∷ [])) ++ drop j local) k

-- ---- near and far

-- their bits all have a place
pub near-bits : (unit : List ℕ) (from : ℕ) {x : List ℕ} → x ≡ body_to unit from near → bits_of x ≡ bytes_bits (body_to unit from near)
near-bits unit from e = ap bits_of e ∙ bits-reach (body_to unit from near) (omega (arith, part_length (take near unit) from, length-take near unit))

pub near-short : (unit : List ℕ) (from : ℕ) → length unit < near → body_to unit from (length unit) ≡ body_to unit from near
near-short unit from h = ap (λ (u : List ℕ). body 0 (drop from u)) (take-length unit ∙ sym (take_all near unit (omega arith)))

pub far-short : (unit : List ℕ) (from : ℕ) → length unit ≤ far → body_to unit from (length unit) ≡ far_body unit from
unfolding far_body
far-short unit from h = rw (le-leb (length unit) far h, take-length unit)

pub far-long : (unit : List ℕ) (from : ℕ) → far < length unit → body_to unit from far ++ (pick (any_set (behind_bits unit from far)) 1 0 ∷ []) ≡ far_body unit from
unfolding far_body
far-long unit from h = rw (lt-leb (length unit) far h)

near-few : (unit : List ℕ) (from : ℕ) → length (near_body unit from) ≤ 130
near-few unit from = omega (arith, part_length (take near unit) from, length-take near unit)

pub first-few : (unit : List ℕ) (from end : ℕ) → length (body_to unit from end) ≤ end
first-few unit from end = omega (arith, part_length (take end unit) from, length-take end unit)

far-few : (unit : List ℕ) (from : ℕ) → length (far_body unit from) ≤ 12289
far-few unit from = go (leb (length unit) far) refl
  where
    go : (b : Bool) → leb (length unit) far ≡ b → length (far_body unit from) ≤ 12289
    go true e =
        let h : length unit ≤ far = leb-true (length unit) far e in
        rw (← far-short unit from h) (omega (arith, part_length (take (length unit) unit) from, length-take (length unit) unit))
    go false e =
        let h : far < length unit = leb-false (length unit) far e in
        rw (← far-long unit from h, length-append) (omega (arith, part_length (take far unit) from, length-take far unit))

pub far-bits : (unit : List ℕ) (from : ℕ) {x : List ℕ} → x ≡ far_body unit from → bits_of x ≡ bytes_bits (far_body unit from)
far-bits unit from e = ap bits_of e ∙ bits-reach (far_body unit from) (omega (arith, far-few unit from))

-- the body of the bytes that hold every header, and the byte behind it
pub far-more : (unit : List ℕ) (from : ℕ) (local : List ℕ) → far < length unit → far < length local → {r x : ℕ} {z : List ℕ} → r ≡ length (body_to unit from far) → z ≡ start_with (body_to unit from far) local
    → x ≡ pick (any_set (behind_bits unit from far)) 1 0 → (r + 1 ≡ length (far_body unit from)) × (set z r x ≡ start_with (far_body unit from) local)
far-more unit from local h l {r} {x} {z} p q e =
    let b = body_to unit from far in
    rw (← far-long unit from h, p, q, e)
    (sym (length-append b (pick (any_set (behind_bits unit from far)) 1 0 ∷ [])), one_more b local (pick (any_set (behind_bits unit from far)) 1 0) (omega (arith, first-few unit from far)))

-- what the two leave in an array of zeros
module _ (unit : List ℕ) (from : ℕ) {r : ℕ} {z : List ℕ} where
  pub near-held : r ≡ length (near_body unit from) → z ≡ start_with (near_body unit from) (replicate 130 0) → (r ≤ length z) × (take r z ≡ near_body unit from)
  near-held = held (near_body unit from) (replicate 130 0) (omega (arith, near-few unit from, length-replicate {A = ℕ} 130 0))

  pub far-held : r ≡ length (far_body unit from) → z ≡ start_with (far_body unit from) (replicate 12289 0) → (r ≤ length z) × (take r z ≡ far_body unit from)
  far-held = held (far_body unit from) (replicate 12289 0) (omega (arith, far-few unit from, length-replicate {A = ℕ} 12289 0))
