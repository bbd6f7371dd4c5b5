-- The byte that `fill_byte` computes, and a turn of the loop of `fill`.
use mathlib.Core.Path.{◌≡◌, refl, sym, ap, ap₂, subst, ◌∙◌}
use mathlib.Core.List.{List, [], ◌++◌, append-nil, append_assoc}
use mathlib.Core.Bool.{false}
use Prim.Native.Nat.{ℕ, zero, suc, ◌+◌, ◌-◌, ◌*◌, ◌/◌, ◌%◌, ◌^◌, ◌≤◌, ◌<◌}
use native.Mathlib.Omega.{arith}
use native.Mathlib.Nat.{lt_of_lt_of_le, mod-lt, div-one, sub-zero, one-mul, zero-div, add-zero}
use lib.Arith.{digits_lt}
use lib.Dec.{lit<}
use lib.ListN.{length, get_or, set, take, drop, replicate, drop_of_length-le}
use lib.Pow.{pow_pos, pow_mono, pow-add, shl_lt, shl_exact, shr_lt, shr-shr, split}
use Rattle.bits.specs.Bits.{Bits, digits, number_of}
use Rattle.bits.specs.Put.{put_bits}
use Rattle.bits.proofs.Fields.{take-digits}
use Rattle.bits.proofs.Digits.{length_digits, number-digits-small, digits_append, number_append}
use Rattle.bits.proofs.Laid.{laid}
use Rattle.bits.proofs.Puts.{put-append, put-in-byte}

pub one_shl : (l : ℕ) → l < 64 → (1 * 2 ^ l) % 2 ^ 64 ≡ 2 ^ l
one_shl l h = shl_exact {a = 1} 1 l 64 (lit< tt) (omega arith) ∙ one-mul (2 ^ l)

-- the digits of 0
pub digits-zero : (n : ℕ) → digits n 0 ≡ replicate n false
unfolding digits
digits-zero zero = refl
digits-zero (suc n) = rw (zero-div, digits-zero n)

-- the number of a byte's first r bits, n bits after them, and e zeros
number-laid : (b r n e v : ℕ) → r + n + e ≡ 8 → b < 256 → v < 2 ^ n
    → number_of (laid (digits 8 b) r (digits n v) 8) ≡ (b / 2 ^ (8 - r) * 2 ^ n + v) * 2 ^ e
number-laid b r n e v w hb hv =
    let x : Bits = digits r (b / 2 ^ (8 - r)) in
    let y : Bits = digits n v in
    let g : r + (8 - r) ≡ 8 = omega arith in
    let front : take r (digits 8 b) ≡ x = rw g at (take-digits r (8 - r) b) in
    let zeros : 8 - (r + length y) ≡ e = rw length_digits (omega arith) in
    let none : drop 8 (digits 8 b) ≡ [] = drop_of_length-le (digits 8 b) {i = 8} (omega (arith, length_digits 8 b)) in
    let top : b / 2 ^ (8 - r) < 2 ^ r = shr_lt r (8 - r) (rw g hb) in
    rw (front, zeros, none, append-nil, ← digits-zero e, ← append_assoc x y (digits e 0), number_append (x ++ y) (digits e 0), number_append x y)
    (rw (length_digits n v, length_digits e 0, number-digits-small r (b / 2 ^ (8 - r)) top, number-digits-small n v hv, number-digits-small e 0 (pow_pos e)) (add-zero _))

-- the byte as the machine computes it, from the byte b that stood there
module _ (s : List ℕ) (at n v b : ℕ) (inside : at / 8 < length s) (fits : at % 8 + n ≤ 8) (some : 0 < n) (hv : v < 2 ^ n)
    (eb : b ≡ get_or s (at / 8) 0) (hb : b < 256) where
  abbrev pub hi : ℕ
  hi = b / 2 ^ (8 - at % 8)

  abbrev pub e : ℕ
  e = 8 - at % 8 - n

  hi-lt : hi < 2 ^ (at % 8)
  hi-lt = let g : at % 8 + (8 - at % 8) ≡ 8 = omega arith in shr_lt (at % 8) (8 - at % 8) (rw g hb)

  shifted : (hi * 2 ^ n) % 2 ^ 64 ≡ hi * 2 ^ n
  shifted = shl_exact (at % 8) n 64 hi-lt (omega arith)

  top_lt : hi * 2 ^ n + v < 2 ^ (at % 8 + n)
  top_lt = rw pow-add (digits_lt hi-lt hv)

  pub top-fits : (hi * 2 ^ n) % 2 ^ 64 + v < 2 ^ 64
  top-fits = rw shifted (lt_of_lt_of_le top_lt (pow_mono {j = 64} (omega arith)))

  abbrev pub made : ℕ
  made = (((hi * 2 ^ n) % 2 ^ 64 + v) * 2 ^ e) % 2 ^ 64

  exact : made ≡ (hi * 2 ^ n + v) * 2 ^ e
  exact = rw shifted (shl_exact (at % 8 + n) e 64 top_lt (omega arith))

  pub made-lt : made < 256
  made-lt = let g : at % 8 + n + e ≡ 8 = omega arith in rw exact (subst (λ (x : ℕ). (hi * 2 ^ n + v) * 2 ^ e < 2 ^ x) g (shl_lt (at % 8 + n) e top_lt))

  pub put-made : set s (at / 8) made ≡ put_bits s at (digits n v)
  put-made =
      let g : at % 8 + n + e ≡ 8 = omega arith in
      let number = put-in-byte s at (digits n v) (rw length_digits some) inside (rw length_digits fits) in
      sym (number ∙ ap (set s (at / 8)) (rw (← eb) (number-laid b (at % 8) n e v g hb hv) ∙ sym exact))

-- before the first turn, a turn, and after the last
pub fill_start : (s : List ℕ) (at n v : ℕ) → s ≡ put_bits s at (digits (n - n) (v / 2 ^ n))
unfolding put_bits digits
fill_start s at n v = let a : n - n ≡ 0 = omega arith in rw a

pub fill-turn : (s t u : List ℕ) (at n left take v p : ℕ) → take ≤ left → left ≤ n → p ≡ at + (n - left)
    → t ≡ put_bits s at (digits (n - left) (v / 2 ^ left)) → u ≡ put_bits t p (digits take (v / 2 ^ (left - take) % 2 ^ take))
    → u ≡ put_bits s at (digits (n - (left - take)) (v / 2 ^ (left - take)))
fill-turn s t u at n left take v p h g e et eu =
    let q : ℕ = v / 2 ^ (left - take) in
    let x : Bits = digits (n - left) (v / 2 ^ left) in
    let y : Bits = digits take (q % 2 ^ take) in
    let l : left - take + take ≡ left = omega arith in
    let top : v / 2 ^ left ≡ q / 2 ^ take = ap (λ (i : ℕ). v / 2 ^ i) (sym l) ∙ sym (shr-shr v (left - take) take) in
    let w : n - left + take ≡ n - (left - take) = omega arith in
    let both : x ++ y ≡ digits (n - (left - take)) q =
    ap (λ (i : ℕ). digits (n - left) i ++ y) top ∙ sym (digits_append (n - left) take (q / 2 ^ take) (q % 2 ^ take) (mod-lt q (pow_pos take)))
    ∙ ap₂ digits w (split q take) in
    let pl : p ≡ at + length x = rw length_digits e in
    eu ∙ ap₂ (λ (a : List ℕ) (b : ℕ). put_bits a b y) et pl ∙ put-append s at x y ∙ ap (put_bits s at) both

pub fill-all : (s t : List ℕ) (at n left v : ℕ) → left ≤ 0 → t ≡ put_bits s at (digits (n - left) (v / 2 ^ left)) → t ≡ put_bits s at (digits n v)
fill-all s t at n left v h e =
    let z : left ≡ 0 = omega arith in
    rw (z, sub-zero, div-one) at e
