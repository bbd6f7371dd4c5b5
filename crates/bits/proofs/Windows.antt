-- Laws of the bits of bytes as numbers: runs of bits side by side, the bits that a word holds, zeros counted, and what a code is worth.
use mathlib.Core.Path.{◌≡◌, refl, sym, ap, ◌∙◌}
use mathlib.Core.List.{List}
use Prim.Native.Nat.{ℕ, zero, suc, ◌+◌, ◌-◌, ◌*◌, ◌/◌, ◌%◌, ◌^◌, ◌≤◌, ◌<◌}
use native.Mathlib.Nat.{add-zero, add-suc, add_assoc, add_comm, mul_assoc, mod-lt, pow-suc, add-mul, zero-div, lt_of_lt_of_le}
use native.Mathlib.Omega.{arith}
use native.Mathlib.Decide.{dec_lt}
use native.Mathlib.Numerals.{add-one, one-add}
use lib.ListN.{length, get_or, take, get_or-eq_default}
use lib.Seq.{get_or-take}
use lib.Bits.{bit_or, or_shifted}
use lib.Pow.{shl_exact, pow-add, pow_mono, pow_pos, high, low, shl_lt, shl-shr, shr-shr}
use lib.Dec.{lit<}
use lib.Count.{count_leading_zeros, leading_of_zero, leading_top}
use Rattle.bits.specs.Windows.{bit_at, bits_at}

pub bit-lt : (s : List ℕ) (i : ℕ) → bit_at s i < 2
unfolding bit_at
bit-lt s i = mod-lt _ (lit< tt)

pub bits-lt : (s : List ℕ) (p n : ℕ) → bits_at s p n < 2 ^ n
unfolding bits_at
bits-lt s p zero = lit< tt
bits-lt s p (suc n) = rw pow-suc (omega (arith, bits-lt s p n, bit-lt s (p + n)))

-- the first m bits, and the n after them
pub bits-split : (s : List ℕ) (p m n : ℕ) → bits_at s p (m + n) ≡ bits_at s p m * 2 ^ n + bits_at s (p + m) n
unfolding bits_at
bits-split s p m zero = rw add-zero (omega arith)
bits-split s p m (suc n) = rw (add-suc, pow-suc, ← add_assoc, ← mul_assoc) (omega (arith, bits-split s p m n))

-- the first bits of a longer run
pub bits-front : (s : List ℕ) (p m n : ℕ) → bits_at s p (m + n) / 2 ^ n ≡ bits_at s p m
bits-front s p m n = rw bits-split (high (bits_at s p m) n (bits-lt s (p + m) n))

-- a run shifted left by r within its own width: the bits from place p + r on stand above r zeros
shift-up : (s : List ℕ) (p r n : ℕ) → (bits_at s p (r + n) * 2 ^ r) % 2 ^ (r + n) ≡ bits_at s (p + r) n * 2 ^ r
shift-up s p r n =
    ap (λ (x : ℕ). x % 2 ^ (r + n)) (ap (λ (x : ℕ). x * 2 ^ r) (bits-split s p r n) ∙ rw (add-mul, mul_assoc, ← pow-add, add_comm n r))
    ∙ low (bits_at s p r) (r + n) (rw (add_comm r n) (shl_lt n r (bits-lt s (p + r) n)))

-- and then right: the n bits from place p + r on
bits-shift : (s : List ℕ) (p r n d : ℕ) → (bits_at s p (r + (n + d)) * 2 ^ r) % 2 ^ (r + (n + d)) / 2 ^ (r + d) ≡ bits_at s (p + r) n
bits-shift s p r n d =
    ap (λ (x : ℕ). x / 2 ^ (r + d)) (shift-up s p r (n + d))
    ∙ sym (shr-shr (bits_at s (p + r) (n + d) * 2 ^ r) r d)
    ∙ ap (λ (x : ℕ). x / 2 ^ d) (shl-shr (bits_at s (p + r) (n + d)) r)
    ∙ bits-front s (p + r) n d

-- the eight bits of a byte
byte-bit : (s : List ℕ) (k j : ℕ) → j < 8 → bit_at s (8 * k + j) ≡ get_or s k 0 / 2 ^ (7 - j) % 2
unfolding bit_at
byte-bit s k j h =
    let q : (8 * k + j) / 8 ≡ k = omega arith in
    let m : (8 * k + j) % 8 ≡ j = omega arith in
    rw (q, m)

byte-front : (s : List ℕ) (k : ℕ) → get_or s k 0 < 256 → (j i : ℕ) → i + j ≡ 8 → bits_at s (8 * k) j ≡ get_or s k 0 / 2 ^ i
unfolding bits_at
byte-front s k h zero i e = let e8 : i ≡ 8 = omega arith in rw e8 (omega arith)
byte-front s k h (suc j) i e =
    let e7 : 7 - j ≡ i = omega arith in
    let b : bit_at s (8 * k + j) ≡ get_or s k 0 / 2 ^ i % 2 = rw (← e7) (byte-bit s k j (omega arith)) in
    let d : get_or s k 0 / 2 ^ suc i ≡ get_or s k 0 / 2 ^ i / 2 = ap (λ (x : ℕ). get_or s k 0 / 2 ^ x) (sym (add-one i)) ∙ sym (shr-shr (get_or s k 0) i 1) in
    omega (arith, byte-front s k h j (suc i) (omega arith))

pub bits-byte : (s : List ℕ) (k : ℕ) → get_or s k 0 < 256 → bits_at s (8 * k) 8 ≡ get_or s k 0
bits-byte s k h = byte-front s k h 8 0 refl ∙ omega arith

-- two runs side by side
pub joined : (s : List ℕ) (p q m n w a b : ℕ) → q ≡ p + m → w ≡ m + n → a ≡ bits_at s p m → b ≡ bits_at s q n → a * 2 ^ n + b ≡ bits_at s p w
joined s p q m n w a b e d f g = rw (f, g, e, d) (sym (bits-split s p m n))

-- the n bits after the first m, put under them by `|`: both stand k places above the lowest, within 64
pub or-first : (s : List ℕ) (p m k b : ℕ) → m + k ≤ 64 → b ≡ bits_at s p m → (b * 2 ^ k) % 2 ^ 64 ≡ bits_at s p m * 2 ^ k
or-first s p m k b e g = rw g (shl_exact m k 64 (bits-lt s p m) (omega arith))

pub or-last : (s : List ℕ) (p q m n a b : ℕ) → q ≡ p + m → a ≡ bits_at s p m * 2 ^ n → b ≡ bits_at s q n → bit_or a b ≡ bits_at s p (m + n)
or-last s p q m n a b f g h = rw (g, h, f) (or_shifted (bits_at s p m) n (bits_at s (p + m) n) (bits-lt s (p + m) n) ∙ sym (bits-split s p m n))

pub or-next : (s : List ℕ) (p q m n k j a b : ℕ) → m + j ≤ 64 → n + k ≡ j → q ≡ p + m → a ≡ bits_at s p m * 2 ^ j → b ≡ bits_at s q n
    → bit_or a ((b * 2 ^ k) % 2 ^ 64) ≡ bits_at s p (m + n) * 2 ^ k
or-next s p q m n k j a b e d f g h =
    let B : ℕ = bits_at s (p + m) n in
    let lt : B * 2 ^ k < 2 ^ (n + k) = shl_lt n k (bits-lt s (p + m) n) in
    rw (g, h, f, shl_exact {a = B} n k 64 (bits-lt s (p + m) n) (omega arith), ← d)
    (or_shifted (bits_at s p m) (n + k) (B * 2 ^ k) lt ∙ rw (bits-split s p m n, add-mul, pow-add 2 n k, mul_assoc))

pub under : (s : List ℕ) (p n a : ℕ) → a ≡ bits_at s p n → a < 2 ^ n
under s p n a e = rw e (bits-lt s p n)

pub under-le : (s : List ℕ) (p n w a : ℕ) → a ≡ bits_at s p n → n ≤ w → a < 2 ^ w
under-le s p n w a e h = lt_of_lt_of_le (under s p n a e) (pow_mono h)

-- past the end there are zeros
pub bit_past : (s : List ℕ) (i : ℕ) → 8 * length s ≤ i → bit_at s i ≡ 0
unfolding bit_at
bit_past s i h =
    let g : get_or s (i / 8) 0 ≡ 0 = get_or-eq_default s 0 (omega arith) in
    rw (g, zero-div)

pub bits-past : (s : List ℕ) (p n : ℕ) → 8 * length s ≤ p → bits_at s p n ≡ 0
unfolding bits_at
bits-past s p zero h = refl
bits-past s p (suc n) h = omega (arith, bits-past s p n h, bit_past s (p + n) (omega arith))

-- the last bits shifted up: zeros follow them
pub bits-late : (s : List ℕ) (p q r w : ℕ) → q ≡ p + r → r ≤ w → 8 * length s ≤ p + w → (bits_at s p w * 2 ^ r) % 2 ^ w ≡ bits_at s q w
bits-late s p q r w e h g =
    let n : ℕ = w - r in
    let f : r + n ≡ w = omega arith in
    rw (e, ← f)
    (shift-up s p r n
    ∙ sym (ap (λ (x : ℕ). bits_at s (p + r) x) (add_comm r n) ∙ bits-split s (p + r) n r ∙ rw (bits-past s (p + r + n) r (omega arith), add-zero)))

pub bits-one : (s : List ℕ) (p : ℕ) → bits_at s p 1 ≡ bit_at s p
unfolding bits_at
bits-one s p = rw (add-zero p) (omega arith)

-- the first bit, and the rest
pub bits-first : (s : List ℕ) (p n : ℕ) → bits_at s p (suc n) ≡ bit_at s p * 2 ^ n + bits_at s (suc p) n
bits-first s p n = ap (λ (x : ℕ). bits_at s p x) (sym (one-add n)) ∙ bits-split s p 1 n ∙ rw (bits-one, add-one)

-- bytes cut off later change none
pub bits-take : (s : List ℕ) (m p n : ℕ) → p + n ≤ 8 * m → bits_at (take m s) p n ≡ bits_at s p n
unfolding bits_at bit_at
bits-take s m p zero h = refl
bits-take s m p (suc n) h = rw (bits-take s m p n (omega arith), get_or-take m s ((p + n) / 8) 0 (omega arith))

-- a number's highest set digit stands after its leading zeros
pub leading-set : (k a : ℕ) → a < 2 ^ k → count_leading_zeros k a < k → a / 2 ^ (k - (count_leading_zeros k a + 1)) ≡ 1
leading-set k zero g h = absurd (omega (arith, leading_of_zero k))
leading-set k (suc a) g h =
    let t = leading_top k (suc a) (omega arith) g in
    let e : k - (count_leading_zeros k (suc a) + 1) ≡ t.0 = omega (arith, t.1) in
    let up : 1 * 2 ^ t.0 + (suc a - 2 ^ t.0) ≡ suc a = omega (arith, t.2) in
    let lt : suc a - 2 ^ t.0 < 2 ^ t.0 = omega (arith, t.2, t.3, pow-suc 2 t.0) in
    rw e (rw up at (high 1 t.0 lt))

pub leading-none : (k a : ℕ) → a < 2 ^ k → k ≤ count_leading_zeros k a → a ≡ 0
leading-none k zero g h = refl
leading-none k (suc a) g h = absurd (omega (arith, (leading_top k (suc a) (omega arith) g).1))

-- and there are few of them in a large number
pub leading_lt : (k j a : ℕ) → a < 2 ^ k → 2 ^ j ≤ a → count_leading_zeros k a + j < k
leading_lt k j zero g h = absurd (omega (arith, pow_pos j))
leading_lt k j (suc a) g h =
    let t = leading_top k (suc a) (omega arith) g in
    go t (dec_lt j (suc t.0))
  where
    go : (t : (m : ℕ) × (count_leading_zeros k (suc a) + suc m ≡ k) × (2 ^ m ≤ suc a) × (suc a < 2 ^ suc m)) → Dec (j < suc t.0) → count_leading_zeros k (suc a) + j < k
    go t (yes l) = omega (arith, t.1)
    go t (no l) = absurd (omega (arith, t.3, pow_mono {i = suc t.0} {j = j} (omega arith)))

-- the first bits of a longer run, where the widths are given
pub front : (s : List ℕ) (p m n w : ℕ) → m + n ≡ w → bits_at s p w / 2 ^ n ≡ bits_at s p m
front s p m n w e = rw (← e) (bits-front s p m n)

-- the n bits at a place, out of the w from its byte on shifted up to it
pub short-law : (w : ℕ) (s : List ℕ) (at n : ℕ) → n + 7 ≤ w → (bits_at s (8 * (at / 8)) w * 2 ^ (at % 8)) % 2 ^ w / 2 ^ (w - n) ≡ bits_at s at n
short-law w s at n h =
    let e : at % 8 + (n + (w - n - at % 8)) ≡ w = omega arith in
    let d : at % 8 + (w - n - at % 8) ≡ w - n = omega arith in
    let p : 8 * (at / 8) + at % 8 ≡ at = omega arith in
    rw (e, d, p) at (bits-shift s (8 * (at / 8)) (at % 8) n (w - n - at % 8))

-- all w of them, with the first bits of the byte after those
pub long-law : (w : ℕ) (s : List ℕ) (at q a b : ℕ) → 8 ≤ w → q ≡ 8 * (at / 8) + w → a ≡ bits_at s (8 * (at / 8)) w → b ≡ bits_at s q 8
    → bit_or ((a * 2 ^ (at % 8)) % 2 ^ w) (b / 2 ^ (8 - at % 8)) ≡ bits_at s at w
long-law w s at q a b h e f g =
    let r : ℕ = at % 8 in
    let d : r + (w - r) ≡ w = omega arith in
    let c : w - r + r ≡ w = omega arith in
    let p : 8 * (at / 8) + r ≡ at = omega arith in
    let up : (bits_at s (8 * (at / 8)) w * 2 ^ r) % 2 ^ w ≡ bits_at s at (w - r) * 2 ^ r = rw (d, p) at (shift-up s (8 * (at / 8)) r (w - r)) in
    rw (f, g) (rw c at (or-last s at q (w - r) r _ _ (omega arith) up (front s q r (8 - r) 8 (omega arith))))

-- the leading zeros of the number of n bits, and the set bit after them, are 1 as a number
pub bits-set : (s : List ℕ) (p n x : ℕ) → x ≡ bits_at s p n → count_leading_zeros n x < n → bits_at s p (count_leading_zeros n x + 1) ≡ 1
bits-set s p n x e h =
    let d : ℕ = n - (count_leading_zeros n x + 1) in
    sym (front s p (count_leading_zeros n x + 1) d n (omega arith)) ∙ ap (λ (y : ℕ). y / 2 ^ d) (sym e) ∙ leading-set n x (under s p n x e) h

-- a ue(v) code is its value plus 1 in 2z + 1 bits: z zeros and a one, which are 1 as a number, and z bits
pub code-bits : (s : List ℕ) (p z : ℕ) → bits_at s p (z + 1) ≡ 1 → bits_at s p (2 * z + 1) ≡ 2 ^ z + bits_at s (p + (z + 1)) z
code-bits s p z e =
    let w : 2 * z + 1 ≡ z + 1 + z = omega arith in
    rw w (bits-split s p (z + 1) z ∙ rw e (omega arith))

-- a code with z zeros in front, whose other digits stand for b, is worth at most 2 ^ 32 - 2
pub value-lt : (z b : ℕ) → z < 32 → b < 2 ^ z → 2 ^ z - 1 + b < 2 ^ 32 - 1
value-lt z b h g =
    let m : 2 ^ suc z ≤ 2 ^ 32 = pow_mono h in
    omega (arith, rw pow-suc at m, pow_pos z)

pub code-range : (s : List ℕ) (p z : ℕ) → bits_at s p (z + 1) ≡ 1 → z < 32 → (0 < bits_at s p (2 * z + 1)) × (bits_at s p (2 * z + 1) < 2 ^ 32)
code-range s p z e h =
    let b = code-bits s p z e in
    (omega (arith, b, pow_pos z), omega (arith, b, pow_pos z, value-lt z _ h (bits-lt s (p + (z + 1)) z)))
