-- Bodies cut in two: what unescaping does to the part in front, and what it goes on with behind.
use Prim.Native.Nat.{ℕ, zero, suc, ◌+◌, ◌*◌, ◌≤◌}
use mathlib.Core.Path.{◌≡◌, refl, sym, ap, ◌∙◌}
use mathlib.Core.List.{List, [], ◌∷◌, ◌++◌}
use mathlib.Core.Bool.{Bool, true, false, ◌&&◌}
use native.Mathlib.Omega.{arith}
use borrow.Author.Tests.{leb-true, eqb-true}
use lib.Dec.{eqb, leb}
use lib.ListN.{length, take, drop, take-append-drop}
use lib.Seq.{drop-append-le, length-take-le}
use Rattle.bits.specs.Refusals.{pick}
use Rattle.bits.specs.Bits.{bytes_bits}
use Rattle.bits.proofs.Slices.{bytes-append}
use Rattle.escape.specs.Body.{drops, zeros, body}
use Rattle.cut.specs.Seam.{zeros_over, body_bits, behind_bits}

-- what a dropped byte says
drop-two : (z a : ℕ) → drops z a ≡ true → 2 ≤ z
drop-two z a h = go (leb 2 z) refl h
  where
    go : (b : Bool) → leb 2 z ≡ b → (b && eqb a 3) ≡ true → 2 ≤ z
    go true e g = leb-true 2 z e
    go false e g = absurd (let x : ◌≡◌ {A = ℕ} 0 1 = cc in omega arith)

pub drop-three : (z a : ℕ) → drops z a ≡ true → a ≡ 3
drop-three z a h = go (leb 2 z) (eqb a 3) refl h
  where
    go : (b t : Bool) → eqb a 3 ≡ t → (b && t) ≡ true → a ≡ 3
    go b true e g = eqb-true a 3 e
    go true false e g = absurd (let x : ◌≡◌ {A = ℕ} 0 1 = cc in omega arith)
    go false false e g = absurd (let x : ◌≡◌ {A = ℕ} 0 1 = cc in omega arith)

-- ---- a seam

-- a body goes on behind a seam with the zeros that stand before it
pub body-append : (z : ℕ) (p r : List ℕ) → body z (p ++ r) ≡ body z p ++ body (zeros_over z p) r
body-append z [] r = refl
body-append z (a ∷ p) r = go (drops z a) refl (body-append 0 p r) (body-append (zeros z a) p r)
  where
    go : (t : Bool) → drops z a ≡ t → body 0 (p ++ r) ≡ body 0 p ++ body (zeros_over 0 p) r → body (zeros z a) (p ++ r) ≡ body (zeros z a) p ++ body (zeros_over (zeros z a) p) r
        → pick t (body 0 (p ++ r)) (a ∷ body (zeros z a) (p ++ r)) ≡ pick t (body 0 p) (a ∷ body (zeros z a) p) ++ body (zeros_over (zeros z a) p) r
    go true e h l = let q : zeros z a ≡ 0 = rw (drop-three z a e) in rw q h
    go false e h l = ap (λ (s : List ℕ). a ∷ s) l

pub cut-bits : (unit : List ℕ) (from k : ℕ) → from ≤ k → k ≤ length unit → body_bits unit from ≡ body_bits (take k unit) from ++ behind_bits unit from k
cut-bits unit from k h l =
    let p = drop from (take k unit) in
    let i : from ≤ length (take k unit) = omega (arith, length-take-le k unit l) in
    let e : drop from unit ≡ drop from (take k unit) ++ drop k unit = ap (drop from) (sym (take-append-drop k unit)) ∙ drop-append-le from (take k unit) (drop k unit) i in
    ap (λ (s : List ℕ). bytes_bits (body 0 s)) e ∙ ap bytes_bits (body-append 0 p (drop k unit)) ∙ bytes-append (body 0 p) (body (zeros_over 0 p) (drop k unit))

-- a body that starts with the unit, cut anywhere
pub cut_all : (unit : List ℕ) (k : ℕ) → body_bits unit 0 ≡ body_bits (take k unit) 0 ++ behind_bits unit 0 k
cut_all unit k =
    ap (λ (s : List ℕ). bytes_bits (body 0 s)) (sym (take-append-drop k unit))
    ∙ ap bytes_bits (body-append 0 (take k unit) (drop k unit))
    ∙ bytes-append (body 0 (take k unit)) (body (zeros_over 0 (take k unit)) (drop k unit))

-- ---- how much is kept

-- how many zeros before a byte count towards its being dropped
abbrev credit : ℕ → ℕ
credit zero = 0
credit (suc zero) = 1
credit (suc (suc z)) = 2

credit-two : (z : ℕ) → 2 ≤ z → credit z ≡ 2
credit-two zero h = absurd (omega arith)
credit-two (suc zero) h = absurd (omega arith)
credit-two (suc (suc z)) h = refl

credit-suc : (z : ℕ) → credit (suc z) ≤ credit z + 1
credit-suc zero = omega arith
credit-suc (suc zero) = omega arith
credit-suc (suc (suc z)) = omega arith

credit-next : (z a : ℕ) → credit (zeros z a) ≤ credit z + 1
credit-next z a = go (eqb a 0)
  where
    go : (t : Bool) → credit (pick t (suc z) 0) ≤ credit z + 1
    go true = credit-suc z
    go false = omega arith

-- at most every third byte is dropped
body-least : (z : ℕ) (p : List ℕ) → 2 * length p ≤ 3 * length (body z p) + credit z
body-least z [] = omega arith
body-least z (a ∷ p) = go (drops z a) refl (body-least 0 p) (body-least (zeros z a) p)
  where
    go : (t : Bool) → drops z a ≡ t → 2 * length p ≤ 3 * length (body 0 p) + 0 → 2 * length p ≤ 3 * length (body (zeros z a) p) + credit (zeros z a)
        → 2 * suc (length p) ≤ 3 * length (pick t (body 0 p) (a ∷ body (zeros z a) p)) + credit z
    go true e h l = omega (arith, credit-two z (drop-two z a e))
    go false e h l = omega (arith, credit-next z a)

pub two-thirds : (p : List ℕ) → 2 * length p ≤ 3 * length (body 0 p)
two-thirds p = omega (arith, body-least 0 p)
