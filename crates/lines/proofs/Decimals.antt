-- The digits of a number: those of a tenth and the last, and how many there are.
use mathlib.Core.Path.{◌≡◌, refl, ap}
use mathlib.Core.List.{[], ◌∷◌, ◌++◌}
use Prim.Native.Nat.{ℕ, zero, suc, ◌+◌, ◌/◌, ◌%◌, ◌^◌, ◌≤◌, ◌<◌}
use native.Mathlib.Omega.{arith}
use native.Mathlib.Nat.{div-lt_self, div-lt_iff_lt-mul}
use borrow.Author.Tests.{lt-ltb, le-ltb, ltb-true, ltb-false}
use lib.Dec.{ltb, lit<}
use lib.ListN.{length, length-append}
use Rattle.bits.proofs.Results.{cases}
use Rattle.lines.specs.Text.{digit, digits_in, decimal}

-- a tenth
tenth : (n f : ℕ) → 10 ≤ n → n ≤ suc f → n / 10 ≤ f
tenth n f h l = omega (arith, div-lt_self {n = n} {k = 10} (omega arith) (lit< tt))

-- enough divisions are enough
digits-enough : (f g n : ℕ) → n ≤ f → n ≤ g → digits_in f n ≡ digits_in g n
digits-enough zero zero n h l = refl
digits-enough zero (suc g) n h l = rw (lt-ltb n 10 (omega arith))
digits-enough (suc f) zero n h l = rw (lt-ltb n 10 (omega arith))
digits-enough (suc f) (suc g) n h l =
    cases (ltb n 10)
    (λ t. rw t)
    (λ t. let m : 10 ≤ n = ltb-false n 10 t in rw (t, digits-enough f g (n / 10) (tenth n f m h) (tenth n g m l)))

pub decimal-small : (n : ℕ) → n < 10 → decimal n ≡ digit n ∷ []
unfolding decimal
decimal-small zero h = refl
decimal-small (suc n) h = rw (lt-ltb (suc n) 10 h)

pub decimal-more : (n : ℕ) → 10 ≤ n → decimal n ≡ decimal (n / 10) ++ (digit (n % 10) ∷ [])
unfolding decimal
decimal-more zero h = absurd (omega arith)
decimal-more (suc n) h = rw (le-ltb (suc n) 10 h, digits-enough n (suc n / 10) (suc n / 10) (tenth (suc n) n h (omega arith)) (omega arith))

pub length-small : (n : ℕ) → n < 10 → length (decimal n) ≡ 1
length-small n h = ap length (decimal-small n h)

pub length_more : (n : ℕ) → 10 ≤ n → length (decimal n) ≡ length (decimal (n / 10)) + 1
length_more n h = rw (decimal-more n h) (length-append (decimal (n / 10)) (digit (n % 10) ∷ []))

-- a number below a power of ten has no more digits than that power has zeros
pub decimal-short : (k n : ℕ) → n < 10 ^ suc k → length (decimal n) ≤ suc k
decimal-short zero n h = omega (arith, length-small n (omega arith))
decimal-short (suc k) n h =
    cases (ltb n 10)
    (λ t. omega (arith, length-small n (ltb-true n 10 t)))
    (λ t. let less : n / 10 < 10 ^ suc k = (div-lt_iff_lt-mul {k = 10} {x = n} {y = 10 ^ suc k} (lit< tt)).1 (omega arith) in
    omega (arith, length_more n (ltb-false n 10 t), decimal-short k (n / 10) less))

-- numbers of 64, 32 and 8 bits
pub decimal-64 : (n : ℕ) → n < 2 ^ 64 → length (decimal n) ≤ 20
decimal-64 n h = decimal-short 19 n (omega arith)

pub decimal-32 : (n : ℕ) → n < 2 ^ 32 → length (decimal n) ≤ 10
decimal-32 n h = decimal-short 9 n (omega arith)

pub decimal-8 : (n : ℕ) → n < 2 ^ 8 → length (decimal n) ≤ 3
decimal-8 n h = decimal-short 2 n (omega arith)
