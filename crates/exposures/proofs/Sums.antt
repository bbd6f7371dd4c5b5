-- A sum of QPs in a word does not wrap, and is the sum where they are few enough.
use Prim.Native.Nat.{ℕ, ◌+◌, ◌*◌, ◌≤◌, ◌<◌}
use mathlib.Core.Path.{◌≡◌, refl}
use mathlib.Core.List.{List, [], ◌∷◌}
use native.Mathlib.Omega.{arith}
use borrow.Author.Tests.{leb-false, lt-leb}
use lib.Dec.{leb}
use lib.IntN.{ℤ, pos, negsuc, ◌+ℤ◌}
use lib.ListN.{length}
use lib.Signed.{mag}
use mir.Syntax.{w64}
use mir.Val.{SFits}
use Rattle.bits.proofs.Results.{cases}
use Rattle.fields.proofs.Sums.{mag-add}
use Rattle.exposures.specs.declared.slice.Slice.{Slice}
use Rattle.exposures.specs.Exposure.{near, plus, over}

near-mag : (z : ℤ) → mag (near z) ≤ 2305843009213693952
unfolding near
near-mag (pos n) = cases (leb 2305843009213693952 n) (λ h. rw h (omega arith)) (λ h. rw h (omega (arith, leb-false 2305843009213693952 n h)))
near-mag (negsuc n) = cases (leb 2305843009213693951 n) (λ h. rw h (omega arith)) (λ h. rw h (omega (arith, leb-false 2305843009213693951 n h)))

pub plus-fits : (x y : ℤ) → SFits w64 (near x +ℤ near y)
plus-fits x y = record { sfits = omega (arith, mag-add (near x) (near y), near-mag x, near-mag y) }

-- ---- where nothing is far from zero

near-is : (z : ℤ) → mag z < 2305843009213693951 → near z ≡ z
unfolding near
near-is (pos n) h = rw (lt-leb 2305843009213693952 n (omega arith))
near-is (negsuc n) h = rw (lt-leb 2305843009213693951 n (omega arith))

plus-is : (x y : ℤ) → mag x < 2305843009213693951 → mag y < 2305843009213693951 → plus x y ≡ x +ℤ y
unfolding plus
plus-is x y f g = rw (near-is x f, near-is y g)

-- each QP is less than m from zero
abbrev pub Within : ℕ → List Slice → Type 0
Within m [] = Unit {0}
Within m (a ∷ r) = (mag a.qp < m) × Within m r

pub sum-exact : (m : ℕ) (x : ℤ) (l : List Slice) → Within m l → mag x + m + length l * m < 2305843009213693951 → over plus x l ≡ over ◌+ℤ◌ x l
sum-exact m x [] w h = refl
sum-exact m x (a ∷ r) w h =
    let q = w.0 in
    let p : plus x a.qp ≡ x +ℤ a.qp = plus-is x a.qp (omega arith) (omega arith) in
    rw p (sum-exact m (x +ℤ a.qp) r w.1 (omega (arith, mag-add x a.qp)))
