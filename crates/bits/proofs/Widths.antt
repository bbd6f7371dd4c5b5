-- The width of slice_group_change_cycle is enough, and no smaller one is.
use mathlib.Core.Path.{◌≡◌}
use Prim.Native.Nat.{ℕ, zero, suc, ◌+◌, ◌-◌, ◌*◌, ◌/◌, ◌^◌, ◌≤◌, ◌<◌}
use native.Mathlib.Omega.{arith}
use native.Mathlib.Decide.{dec_lt, dec_le}
use native.Mathlib.Nat.{div-lt_iff_lt-mul, pow-suc}
use lib.Count.{count_leading_zeros, leading_length}
use lib.Dec.{leb}
use lib.Pow.{pow_mono}
use borrow.Author.Tests.{le-leb, lt-leb, ne_eqb}
use Rattle.bits.specs.Refusals.{pick}
use Rattle.bits.specs.Width.{least_from, change_cycle_width}

-- the search stops at the first number that is enough
least-from : (n b m size rate : ℕ) → b ≤ m → m ≤ b + n → size + rate ≤ 2 ^ m * rate → ((j : ℕ) → j < m → 2 ^ j * rate < size + rate)
    → least_from n b size rate ≡ m
unfolding least_from
least-from zero b m size rate h g p f = omega arith
least-from (suc n) b m size rate h g p f = go (dec_lt b m) (least-from n (suc b) m size rate)
  where
    go : Dec (b < m) → (suc b ≤ m → m ≤ suc b + n → size + rate ≤ 2 ^ m * rate → ((j : ℕ) → j < m → 2 ^ j * rate < size + rate) → least_from n (suc b) size rate ≡ m)
        → pick (leb (size + rate) (2 ^ b * rate)) b (least_from n (suc b) size rate) ≡ m
    go (yes k) ih = rw (lt-leb (size + rate) (2 ^ b * rate) (f b k)) (ih k (omega arith) p f)
    go (no k) ih = let e : b ≡ m = omega arith in rw (e, le-leb (size + rate) (2 ^ m * rate) p)

-- size ÷ rate rounded up
abbrev pub groups : ℕ → ℕ → ℕ
groups size rate = (size + rate - 1) / rate

-- what a width b has to hold
holds : (size rate b : ℕ) → 0 < rate → (groups size rate < 2 ^ b → size + rate ≤ 2 ^ b * rate) × (size + rate ≤ 2 ^ b * rate → groups size rate < 2 ^ b)
holds size rate b h =
    let d = div-lt_iff_lt-mul {k = rate} {x = size + rate - 1} {y = 2 ^ b} h in
    (λ g. omega (arith, d.0 g), λ g. d.1 (omega arith))

groups-small : (size rate : ℕ) → 0 < rate → size < 2 ^ 32 → groups size rate < 2 ^ 32
groups-small size rate hr hs = (holds size rate 32 hr).1 (omega arith)

-- how many binary digits the groups have
digits_of : (size rate : ℕ) → 0 < rate → size < 2 ^ 32
    → (m : ℕ) × (count_leading_zeros 64 (groups size rate) + m ≡ 64) × (groups size rate < 2 ^ m) × (2 ^ m ≤ 2 * groups size rate + 1)
digits_of size rate hr hs = leading_length 64 (groups size rate) (omega (arith, groups-small size rate hr hs))

-- the number of binary digits of the groups is the least width
pub width_of : (size rate m : ℕ) → 0 < rate → size < 2 ^ 32 → groups size rate < 2 ^ m → 2 ^ m ≤ 2 * groups size rate + 1 → change_cycle_width size rate ≡ m
unfolding change_cycle_width
width_of size rate m hr hs a b = rw (ne_eqb rate 0 (omega arith)) (least-from 32 0 m size rate (omega arith) short ((holds size rate m hr).0 a) below)
  where
    short : m ≤ 0 + 32
    short = go (dec_le m 32)
      where
        go : Dec (m ≤ 32) → m ≤ 0 + 32
        go (yes k) = omega arith
        go (no k) = absurd (omega (arith, groups-small size rate hr hs, pow_mono {i = 33} {j = m} (omega arith)))

    below : (j : ℕ) → j < m → 2 ^ j * rate < size + rate
    below j h = go (dec_lt (2 ^ j * rate) (size + rate))
      where
        go : Dec (2 ^ j * rate < size + rate) → 2 ^ j * rate < size + rate
        go (yes k) = k
        go (no k) = absurd (omega (arith, (holds size rate j hr).1 (omega arith), pow_mono {i = suc j} {j = m} h, pow-suc 2 j))

-- the width that the code computes
pub width-leading : (size rate : ℕ) → 0 < rate → size < 2 ^ 32 → 64 - count_leading_zeros 64 (groups size rate) ≡ change_cycle_width size rate
width-leading size rate hr hs =
    let d = digits_of size rate hr hs in
    omega (arith, d.1, width_of size rate d.0 hr hs d.2 d.3)

-- 2^b × rate ≥ size + rate holds of the width, and of no smaller number
pub width-enough : (size rate : ℕ) → 0 < rate → size < 2 ^ 32 → size + rate ≤ 2 ^ change_cycle_width size rate * rate
width-enough size rate hr hs =
    let d = digits_of size rate hr hs in
    rw (width_of size rate d.0 hr hs d.2 d.3) ((holds size rate d.0 hr).0 d.2)

pub width-least : (size rate b : ℕ) → 0 < rate → size < 2 ^ 32 → size + rate ≤ 2 ^ b * rate → change_cycle_width size rate ≤ b
width-least size rate b hr hs h =
    let d = digits_of size rate hr hs in
    rw (width_of size rate d.0 hr hs d.2 d.3) (go d.0 d.3 (dec_le d.0 b))
  where
    go : (m : ℕ) → 2 ^ m ≤ 2 * groups size rate + 1 → Dec (m ≤ b) → m ≤ b
    go m k (yes g) = g
    go m k (no g) = absurd (omega (arith, (holds size rate b hr).1 h, pow_mono {i = suc b} {j = m} (omega arith), pow-suc 2 b))
