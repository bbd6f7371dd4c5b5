-- Laws of putting bits into a buffer.
use mathlib.Core.Path.{◌≡◌, refl, sym, ap, ap₂, subst, ◌∙◌}
use mathlib.Core.List.{List, [], ◌∷◌, ◌++◌, append-nil}
use mathlib.Core.Bool.{Bool, false}
use Prim.Native.Nat.{ℕ, suc, ◌+◌, ◌-◌, ◌*◌, ◌/◌, ◌%◌, ◌^◌, ◌≤◌, ◌<◌}
use native.Mathlib.Omega.{arith}
use native.Mathlib.Nat.{add-zero}
use native.Mathlib.Decide.{ℕ_discrete, dec_lt}
use lib.ListN.{length, get_or, set, take, drop, replicate, length-set, drop_of_length-le}
use lib.Seq.{get_or-set_same, get_or-set_other, get_or-take, set_out, set-set, take-set-lt, take-set-le, drop-set-lt, lt-length-set}
use Rattle.bits.specs.Bits.{Bits, digits, number_of}
use Rattle.bits.specs.Put.{put_bit, put_bits}
use Rattle.bits.proofs.Digits.{length_digits, digits_number, number_lt}
use Rattle.bits.proofs.Laid.{laid, length-laid, laid-laid}

-- the buffer with one bit put
abbrev pub with_bit : List ℕ → ℕ → Bool → List ℕ
with_bit d at x = set d (at / 8) (put_bit (get_or d (at / 8) 0) (at % 8) x)

pub length-put : (d : List ℕ) (at : ℕ) (l : Bits) → length (put_bits d at l) ≡ length d
unfolding put_bits
length-put d at [] = refl
length-put d at (x ∷ l) = length-put (with_bit d at x) (suc at) l ∙ length-set d _ _

-- one run of bits after another
pub put-append : (d : List ℕ) (at : ℕ) (x y : Bits) → put_bits (put_bits d at x) (at + length x) y ≡ put_bits d at (x ++ y)
unfolding put_bits
put-append d at [] y = ap (λ (n : ℕ). put_bits d n y) (add-zero at)
put-append d at (b ∷ x) y =
    let e : at + suc (length x) ≡ suc at + length x = omega arith in
    rw e (put-append (with_bit d at b) (suc at) x y)

-- a byte as put_bit makes it
pub bit-row : (b r : ℕ) (x : Bool) → r < 8 → take r (digits 8 b) ++ (x ∷ replicate (7 - r) false) ≡ laid (digits 8 b) r (x ∷ []) 8
bit-row b r x h =
    let e : 7 - r ≡ 8 - (r + 1) = omega arith in
    let n : drop 8 (digits 8 b) ≡ [] = drop_of_length-le (digits 8 b) {i = 8} (omega (arith, length_digits 8 b)) in
    ap (λ (z : Bits). take r (digits 8 b) ++ (x ∷ z)) (rw (e, n) (sym (append-nil (replicate (8 - (r + 1)) false))))

bit-laid : (b r : ℕ) (x : Bool) → r < 8 → put_bit b r x ≡ number_of (laid (digits 8 b) r (x ∷ []) 8)
unfolding put_bit
bit-laid b r x h = ap number_of (bit-row b r x h)

laid-length : (b r : ℕ) (l : Bits) → r + length l ≤ 8 → length (laid (digits 8 b) r l 8) ≡ 8
laid-length b r l h = length-laid (digits 8 b) r l 8 (rw length_digits (omega arith)) h (rw length_digits (omega arith)) ∙ length_digits 8 b

pub digits-laid : (b r : ℕ) (l : Bits) → r + length l ≤ 8 → digits 8 (number_of (laid (digits 8 b) r l 8)) ≡ laid (digits 8 b) r l 8
digits-laid b r l h =
    let w : Bits = laid (digits 8 b) r l 8 in
    ap (λ (n : ℕ). digits n (number_of w)) (sym (laid-length b r l h)) ∙ digits_number w

pub digits-bit : (b r : ℕ) (x : Bool) → r < 8 → digits 8 (put_bit b r x) ≡ laid (digits 8 b) r (x ∷ []) 8
digits-bit b r x h = ap (digits 8) (bit-laid b r x h) ∙ digits-laid b r (x ∷ []) (omega arith)

pub bit-lt : (b r : ℕ) (x : Bool) → r < 8 → put_bit b r x < 256
bit-lt b r x h =
    let w : Bits = laid (digits 8 b) r (x ∷ []) 8 in
    rw (bit-laid b r x h) (subst (λ (n : ℕ). number_of w < 2 ^ n) (laid-length b r (x ∷ []) (omega arith)) (number_lt w))

-- bits that all stand in one byte
pub put-in-byte : (d : List ℕ) (at : ℕ) (l : Bits) → 0 < length l → at / 8 < length d → at % 8 + length l ≤ 8
    → put_bits d at l ≡ set d (at / 8) (number_of (laid (digits 8 (get_or d (at / 8) 0)) (at % 8) l 8))
unfolding put_bits
put-in-byte d at [] some inside h = absurd (omega arith)
put-in-byte d at (x ∷ []) some inside h = ap (set d (at / 8)) (bit-laid _ _ x (omega arith))
put-in-byte d at (x ∷ (y ∷ l)) some inside h =
    let b : ℕ = get_or d (at / 8) 0 in
    let c : ℕ = put_bit b (at % 8) x in
    let e : List ℕ = set d (at / 8) c in
    let k : suc at / 8 ≡ at / 8 = omega arith in
    let r : suc at % 8 ≡ at % 8 + 1 = omega arith in
    let g : digits 8 (get_or e (at / 8) 0) ≡ laid (digits 8 b) (at % 8) (x ∷ []) 8 =
    ap (digits 8) (get_or-set_same d (at / 8) c 0 inside) ∙ digits-bit b (at % 8) x (omega arith) in
    put-in-byte e (suc at) (y ∷ l) (omega arith) (rw k (lt-length-set d (at / 8) c inside)) (omega (arith, h, r))
    ∙ ap₂ (λ (i j : ℕ). set e i (number_of (laid (digits 8 (get_or e i 0)) j (y ∷ l) 8))) k r
    ∙ set-set d (at / 8) c _
    ∙ ap (λ (w : Bits). set d (at / 8) (number_of w))
    (ap (λ (w : Bits). laid w (at % 8 + 1) (y ∷ l) 8) g
    ∙ laid-laid (digits 8 b) (at % 8) (x ∷ []) 8 (rw length_digits (omega arith)) (omega arith) (y ∷ l) 8 (omega arith))

-- every byte stays one
pub put-bytes : (d : List ℕ) (at : ℕ) (l : Bits) → ((i : ℕ) → get_or d i 0 < 256) → (i : ℕ) → get_or (put_bits d at l) i 0 < 256
unfolding put_bits
put-bytes d at [] h i = h i
put-bytes d at (x ∷ l) h i = put-bytes (with_bit d at x) (suc at) l (λ j. go j (ℕ_discrete j (at / 8)) (dec_lt (at / 8) (length d))) i
  where
    c : ℕ
    c = put_bit (get_or d (at / 8) 0) (at % 8) x

    go : (j : ℕ) → Dec (j ≡ at / 8) → Dec (at / 8 < length d) → get_or (set d (at / 8) c) j 0 < 256
    go j (yes e) (yes k) = rw (e, get_or-set_same d (at / 8) c 0 k) (bit-lt (get_or d (at / 8) 0) (at % 8) x (omega arith))
    go j (yes e) (no k) = rw (set_out d (at / 8) c (omega arith)) (h j)
    go j (no e) k = rw (get_or-set_other d (at / 8) j c 0 e) (h j)

-- the front of a buffer is written like a whole one
pub take_put : (n : ℕ) (d : List ℕ) (at : ℕ) (l : Bits) → at + length l ≤ 8 * n → take n (put_bits d at l) ≡ put_bits (take n d) at l
unfolding put_bits
take_put n d at [] h = refl
take_put n d at (x ∷ l) h =
    let k : at / 8 < n = omega arith in
    take_put n (with_bit d at x) (suc at) l (omega arith)
    ∙ rw (take-set-lt n d (at / 8) _ k, get_or-take n d (at / 8) 0 k)

-- the bytes before and after are untouched
pub put-before : (k : ℕ) (d : List ℕ) (at : ℕ) (l : Bits) → 8 * k ≤ at → take k (put_bits d at l) ≡ take k d
unfolding put_bits
put-before k d at [] h = refl
put-before k d at (x ∷ l) h = put-before k (with_bit d at x) (suc at) l (omega arith) ∙ take-set-le k d (at / 8) _ (omega arith)

pub put-after : (k : ℕ) (d : List ℕ) (at : ℕ) (l : Bits) → at + length l ≤ 8 * k → drop k (put_bits d at l) ≡ drop k d
unfolding put_bits
put-after k d at [] h = refl
put-after k d at (x ∷ l) h = put-after k (with_bit d at x) (suc at) l (omega arith) ∙ drop-set-lt k d (at / 8) _ (omega arith)
