-- What the bits of a buffer are after a write: those before the place are kept, the bits written stand there, zeros follow to the end of their last byte, and
-- the rest is as it was.
use mathlib.Core.Path.{◌≡◌, refl, sym, ap, ap₂, ◌∙◌}
use mathlib.Core.List.{List, [], ◌∷◌, ◌++◌, append_assoc}
use mathlib.Core.Bool.{Bool, false}
use Prim.Native.Nat.{ℕ, zero, suc, ◌+◌, ◌-◌, ◌*◌, ◌/◌, ◌%◌, ◌≤◌, ◌<◌}
use native.Mathlib.Omega.{arith}
use native.Mathlib.Nat.{add-zero}
use native.Mathlib.Numerals.{add-one}
use lib.ListN.{length, get_or, set, take, drop, replicate, length-set, length-take, take-append-drop}
use lib.Seq.{length-take-le, set-get_or, drop_at, take-append-le, take-append-add, drop-append-add, take-take}
use Rattle.bits.specs.Bits.{Bits, digits, bytes_bits, bits_of, reach}
use Rattle.bits.specs.Put.{put_bit, put_bits}
use Rattle.bits.proofs.Digits.{length_digits}
use Rattle.bits.proofs.Slices.{length-bytes, length-bits}
use Rattle.bits.proofs.Laid.{laid, laid-laid, take-laid}
use Rattle.bits.proofs.Puts.{bit-row, digits-bit, length-put, take_put}

-- the end of the byte that the bit before place p stands in
abbrev pub byte_end : ℕ → ℕ
byte_end p = 8 * ((p + 7) / 8)

-- a byte replaced
bytes-set : (d : List ℕ) (k c : ℕ) → k < length d → bytes_bits (set d k c) ≡ take (8 * k) (bytes_bits d) ++ (digits 8 c ++ drop (8 * k + 8) (bytes_bits d))
unfolding bytes_bits
bytes-set [] k c h = absurd (omega arith)
bytes-set (b ∷ d) zero c h = ap (λ (x : Bits). digits 8 c ++ x) (sym (drop_at (digits 8 b) (bytes_bits d) 8 (length_digits 8 b)))
bytes-set (b ∷ d) (suc k) c h =
    let x : Bits = digits 8 b in
    let i : length x + 8 * k ≡ 8 * suc k = omega (arith, length_digits 8 b) in
    let j : length x + (8 * k + 8) ≡ 8 * suc k + 8 = omega (arith, length_digits 8 b) in
    ap (λ (l : Bits). x ++ l) (bytes-set d k c (omega arith))
    ∙ sym (append_assoc x (take (8 * k) (bytes_bits d)) _)
    ∙ ap₂ (λ (a r : Bits). a ++ (digits 8 c ++ r)) (sym (rw i at (take-append-add x (bytes_bits d) (8 * k)))) (sym (rw j at (drop-append-add x (bytes_bits d) (8 * k + 8))))

-- the first bits of a byte among those of the buffer
byte-front : (d : List ℕ) (k r : ℕ) → r ≤ 8 → k < length d → take (8 * k + r) (bytes_bits d) ≡ take (8 * k) (bytes_bits d) ++ take r (digits 8 (get_or d k 0))
byte-front d k r h g =
    let s : Bits = bytes_bits d in
    let x : Bits = digits 8 (get_or d k 0) in
    let f : Bits = take (8 * k) s in
    let whole : s ≡ f ++ (x ++ drop (8 * k + 8) s) = ap bytes_bits (sym (set-get_or d k 0)) ∙ bytes-set d k (get_or d k 0) g in
    let n : length f ≡ 8 * k = length-take-le (8 * k) s (omega (arith, length-bytes d)) in
    ap (take (8 * k + r)) whole
    ∙ rw n at (take-append-add f (x ++ drop (8 * k + 8) s) r)
    ∙ ap (λ (l : Bits). f ++ l) (take-append-le r x _ (omega (arith, length_digits 8 (get_or d k 0))))

-- one bit
bits-bit : (d : List ℕ) (at : ℕ) (x : Bool) → at / 8 < length d
    → bytes_bits (set d (at / 8) (put_bit (get_or d (at / 8) 0) (at % 8) x)) ≡ laid (bytes_bits d) at (x ∷ []) (byte_end (at + 1))
bits-bit d at x h =
    let s : Bits = bytes_bits d in
    let b : ℕ = get_or d (at / 8) 0 in
    let r : ℕ = at % 8 in
    let f : Bits = take (8 * (at / 8)) s in
    let z : Bits = replicate (7 - r) false in
    let at-is : 8 * (at / 8) + r ≡ at = omega arith in
    let e : 8 * (at / 8) + 8 ≡ byte_end (at + 1) = omega arith in
    let n : 7 - r ≡ byte_end (at + 1) - (at + 1) = omega arith in
    let row : digits 8 (put_bit b r x) ≡ take r (digits 8 b) ++ (x ∷ z) = digits-bit b r x (omega arith) ∙ sym (bit-row b r x (omega arith)) in
    let front : f ++ take r (digits 8 b) ≡ take at s = sym (rw at-is at (byte-front d (at / 8) r (omega arith) h)) in
    bytes-set d (at / 8) (put_bit b r x) h
    ∙ ap₂ (λ (y : Bits) (i : ℕ). f ++ (y ++ drop i s)) row e
    ∙ ap (λ (y : Bits). f ++ y) (append_assoc (take r (digits 8 b)) (x ∷ z) _)
    ∙ sym (append_assoc f (take r (digits 8 b)) _)
    ∙ ap₂ (λ (y : Bits) (i : ℕ). y ++ (x ∷ (replicate i false ++ drop (byte_end (at + 1)) s))) front n

-- a run of bits
pub bits_put : (d : List ℕ) (at : ℕ) (l : Bits) → 0 < length l → at + length l ≤ 8 * length d
    → bytes_bits (put_bits d at l) ≡ laid (bytes_bits d) at l (byte_end (at + length l))
unfolding put_bits
bits_put d at [] some h = absurd (omega arith)
bits_put d at (x ∷ []) some h = bits-bit d at x (omega arith)
bits_put d at (x ∷ (y ∷ l)) some h =
    let e : List ℕ = set d (at / 8) (put_bit (get_or d (at / 8) 0) (at % 8) x) in
    let n : suc at + length (y ∷ l) ≡ at + length (x ∷ (y ∷ l)) = omega arith in
    let q : ℕ = byte_end (at + length (x ∷ (y ∷ l))) in
    bits_put e (suc at) (y ∷ l) (omega arith) (rw (n, length-set) h)
    ∙ ap (λ (i : ℕ). laid (bytes_bits e) (suc at) (y ∷ l) (byte_end i)) n
    ∙ ap₂ (λ (w : Bits) (i : ℕ). laid w i (y ∷ l) q) (bits-bit d at x (omega arith)) (sym (add-one at))
    ∙ laid-laid (bytes_bits d) at (x ∷ []) (byte_end (at + 1)) (omega (arith, length-bytes d)) (omega arith) (y ∷ l) q (omega arith)

-- ---- the same of the bits that have a place; the laws are on the first n bytes, for any n, since antt computes too long with the number `reach`

front_fits : (n : ℕ) (d : List ℕ) (m : ℕ) → m ≤ length (bytes_bits (take n d)) → (m ≤ 8 * length d) × (m ≤ 8 * n)
front_fits n d m h = omega (arith, length-bytes (take n d), length-take n d)

bits-front : (n : ℕ) (d : List ℕ) (at : ℕ) (l : Bits) → 0 < length l → at + length l ≤ length (bytes_bits (take n d))
    → bytes_bits (take n (put_bits d at l)) ≡ laid (bytes_bits (take n d)) at l (byte_end (at + length l))
bits-front n d at l some room =
    ap bytes_bits (take_put n d at l (front_fits n d (at + length l) room).1) ∙ bits_put (take n d) at l some (rw length-bytes at room)

pub length-bits-put : (d : List ℕ) (at : ℕ) (l : Bits) → length (bits_of (put_bits d at l)) ≡ length (bits_of d)
length-bits-put d at l = length-bits (put_bits d at l) ∙ rw (length-put d at l) (sym (length-bits d))

-- so many bits fit into the buffer, and their places are numbers of 64 bits
pub bits_fit : (d : List ℕ) (m : ℕ) → m ≤ length (bits_of d) → (m ≤ 8 * length d) × (m ≤ 8 * reach)
unfolding bits_of
bits_fit d m h = front_fits reach d m h

-- a run of bits
pub bits-of-put : (d : List ℕ) (at : ℕ) (l : Bits) → 0 < length l → at + length l ≤ length (bits_of d)
    → bits_of (put_bits d at l) ≡ laid (bits_of d) at l (byte_end (at + length l))
unfolding bits_of
bits-of-put d at l some room = bits-front reach d at l some room

module _ (d : List ℕ) (at : ℕ) where
  -- what stands before the place is kept
  pub put_keeps : (l : Bits) (p : ℕ) → at + length l ≤ length (bits_of d) → p ≤ at → take p (bits_of (put_bits d at l)) ≡ take p (bits_of d)
  unfolding put_bits
  put_keeps [] p room h = refl
  put_keeps (x ∷ l) p room h =
      let n : length (take at (bits_of d)) ≡ at = length-take-le at (bits_of d) (omega arith) in
      ap (take p) (bits-of-put d at (x ∷ l) (omega arith) room)
      ∙ take-append-le p (take at (bits_of d)) _ (omega arith)
      ∙ take-take p at (bits_of d) h

  -- the bits stand at the place
  pub round_trip : (l : Bits) → at + length l ≤ length (bits_of d)
      → drop at (bits_of (put_bits d at l)) ≡ l ++ drop (at + length l) (bits_of (put_bits d at l))
  unfolding put_bits
  round_trip [] room = rw add-zero
  round_trip (x ∷ l) room =
      let t : Bits = bits_of (put_bits d at (x ∷ l)) in
      let q : ℕ = at + length (x ∷ l) in
      let f : Bits = take at (bits_of d) in
      let front : take q t ≡ f ++ (x ∷ l) =
      ap (take q) (bits-of-put d at (x ∷ l) (omega arith) room)
      ∙ take-laid (bits_of d) at (x ∷ l) (byte_end q) (omega arith) (omega arith) in
      let whole : t ≡ f ++ ((x ∷ l) ++ drop q t) = sym (take-append-drop q t) ∙ ap (λ (w : Bits). w ++ drop q t) front ∙ append_assoc f (x ∷ l) (drop q t) in
      ap (drop at) whole ∙ drop_at f ((x ∷ l) ++ drop q t) at (length-take-le at (bits_of d) (omega arith))
