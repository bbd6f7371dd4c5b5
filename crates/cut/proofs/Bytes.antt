-- Bytes one by one: the zeros that stand before the next, and whether a bit is set in those that are kept.
use Prim.Native.Nat.{ℕ, suc, ◌≤◌, ◌<◌}
use mathlib.Core.Path.{◌≡◌, refl, ap, ◌∙◌}
use mathlib.Core.List.{List, ◌∷◌}
use mathlib.Core.Bool.{Bool, true, false, not, ◌&&◌}
use native.Mathlib.Omega.{arith}
use borrow.Author.Tests.{eqb-true}
use lib.Dec.{eqb}
use lib.ListN.{length, get_or, take, drop, drop_of_length-le}
use lib.Seq.{drop-cons, get_or-take, length-take-le}
use Rattle.bits.specs.Refusals.{pick}
use Rattle.bits.specs.Bits.{digits, bytes_bits}
use Rattle.escape.specs.Body.{drops, zeros, body}
use Rattle.syntax.specs.SliceHeader.{any_set}
use Rattle.cut.proofs.AnySet.{any_here}
use Rattle.cut.proofs.Seams.{drop-three}
use Rattle.cut.specs.Seam.{zeros_over}

-- ---- zeros up to a place

pub zeros-few : (z a : ℕ) → zeros z a ≤ suc z
zeros-few z a = go (eqb a 0)
  where
    go : (t : Bool) → pick t (suc z) 0 ≤ suc z
    go true = omega arith
    go false = omega arith

module _ (unit : List ℕ) (to i : ℕ) (room : to ≤ length unit) where
  next-byte : i < to → drop i (take to unit) ≡ get_or unit i 0 ∷ drop (suc i) (take to unit)
  next-byte h = drop-cons (take to unit) i 0 (omega (arith, length-take-le to unit room)) ∙ ap (λ (a : ℕ). a ∷ drop (suc i) (take to unit)) (get_or-take to unit i 0 h)

  pub zeros-more : (z : ℕ) → i < to → zeros_over z (drop i (take to unit)) ≡ zeros_over (zeros z (get_or unit i 0)) (drop (suc i) (take to unit))
  zeros-more z h = ap (zeros_over z) (next-byte h)

  pub zeros-end : (z : ℕ) → to ≤ i → zeros_over z (drop i (take to unit)) ≡ z
  zeros-end z h = rw (drop_of_length-le (take to unit) {i = i} (omega (arith, length-take-le to unit room)))

-- ---- kept bytes

zero-byte : (x : List ℕ) → any_set (bytes_bits (0 ∷ x)) ≡ any_set (bytes_bits x)
unfolding bytes_bits digits
zero-byte x = refl

module _ (unit : List ℕ) (z i : ℕ) (h : i < length unit) where
  abbrev a : ℕ
  a = get_or unit i 0

  abbrev rest : List ℕ
  rest = drop (suc i) unit

  pub kept-none : (not (drops z (get_or unit i 0)) && not (eqb (get_or unit i 0) 0)) ≡ false
      → any_set (bytes_bits (body z (drop i unit))) ≡ any_set (bytes_bits (body (zeros z (get_or unit i 0)) (drop (suc i) unit)))
  kept-none q = ap (λ (s : List ℕ). any_set (bytes_bits (body z s))) (drop-cons unit i 0 h) ∙ go (drops z a) (eqb a 0) refl refl q
    where
      go : (d t : Bool) → drops z a ≡ d → eqb a 0 ≡ t → (not d && not t) ≡ false
          → any_set (bytes_bits (pick d (body 0 rest) (a ∷ body (zeros z a) rest))) ≡ any_set (bytes_bits (body (zeros z a) rest))
      go true t e f g = let p : zeros z a ≡ 0 = rw (drop-three z a e) in rw p
      go false true e f g = rw (eqb-true a 0 f) (zero-byte (body (suc z) rest))
      go false false e f g = absurd (let x : ◌≡◌ {A = ℕ} 0 1 = cc in omega arith)

  pub kept_set : a < 256 → (not (drops z a) && not (eqb a 0)) ≡ true → any_set (bytes_bits (body z (drop i unit))) ≡ true
  kept_set b q = ap (λ (s : List ℕ). any_set (bytes_bits (body z s))) (drop-cons unit i 0 h) ∙ go (drops z a) (eqb a 0) refl q
    where
      bad : eqb 0 0 ≡ false → ⊥
      bad e = let x : ◌≡◌ {A = ℕ} 0 1 = cc in omega arith

      go : (d t : Bool) → eqb a 0 ≡ t → (not d && not t) ≡ true → any_set (bytes_bits (pick d (body 0 rest) (a ∷ body (zeros z a) rest))) ≡ true
      go true t f g = absurd (let x : ◌≡◌ {A = ℕ} 0 1 = cc in omega arith)
      go false true f g = absurd (let x : ◌≡◌ {A = ℕ} 0 1 = cc in omega arith)
      go false false f g = any_here (a ∷ body (zeros z a) rest) 0 (omega arith) b (λ e. bad (rw e at f))

pub kept-end : (unit : List ℕ) (z i : ℕ) → length unit ≤ i → any_set (bytes_bits (body z (drop i unit))) ≡ false
unfolding bytes_bits
kept-end unit z i h = rw (drop_of_length-le unit {i = i} h)
