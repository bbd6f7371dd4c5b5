-- The bits of a slice: how many there are, and that they are those of all its bytes, for any slice that fits in a machine.
use mathlib.Core.Path.{◌≡◌, refl, sym, ap, ◌∙◌}
use mathlib.Core.List.{List, [], ◌∷◌, ◌++◌, append_assoc}
use Prim.Native.Nat.{ℕ, ◌*◌, ◌≤◌, ◌<◌}
use native.Mathlib.Omega.{arith}
use native.Mathlib.Decide.{dec_lt}
use native.Mathlib.Nat.{min-le_left}
use borrow.Author.Tests.{lt-ltb, le-ltb}
use lib.Dec.{ltb}
use lib.ListN.{length, take, length-append, length-take}
use lib.Seq.{length-take-le, take_all, take-length}
use Rattle.bits.specs.Refusals.{pick}
use Rattle.bits.specs.Bits.{Bits, digits, bytes_bits, reach, bits_of}
use Rattle.bits.proofs.Digits.{length_digits}

pub length-bytes : (s : List ℕ) → length (bytes_bits s) ≡ 8 * length s
unfolding bytes_bits
length-bytes [] = refl
length-bytes (b ∷ s) = rw (length-append, length_digits 8 b) (omega (arith, length-bytes s))

pub bytes-append : (x y : List ℕ) → bytes_bits (x ++ y) ≡ bytes_bits x ++ bytes_bits y
unfolding bytes_bits
bytes-append [] y = refl
bytes-append (b ∷ x) y = ap (λ (s : Bits). digits 8 b ++ s) (bytes-append x y) ∙ sym (append_assoc (digits 8 b) (bytes_bits x) (bytes_bits y))

pub bits-reach : (s : List ℕ) → length s ≤ reach → bits_of s ≡ bytes_bits s
unfolding bits_of
bits-reach s h = rw (take_all reach s h)

pub length-bits-reach : (s : List ℕ) → length s ≤ reach → length (bits_of s) ≡ 8 * length s
length-bits-reach s h = rw (bits-reach s h) (length-bytes s)

pub length-bits : (s : List ℕ) → length (bits_of s) ≡ 8 * pick (ltb (length s) reach) (length s) reach
unfolding bits_of
length-bits s = go (dec_lt (length s) reach)
  where
    go : Dec (length s < reach) → length (bytes_bits (take reach s)) ≡ 8 * pick (ltb (length s) reach) (length s) reach
    go (yes h) = rw (lt-ltb _ _ h) (length-bits-reach s (omega arith))
    go (no h) = rw (le-ltb (length s) reach (omega arith), length-bytes, length-take-le reach s (omega arith))

-- ---- the part of a slice whose bits have a place

pub take-reached : (s : List ℕ) (r : ℕ) → r ≤ reach → (r < reach → r ≡ length s) → take r s ≡ take reach s
take-reached s r h e = go (dec_lt r reach)
  where
    go : Dec (r < reach) → take r s ≡ take reach s
    go (yes g) = rw (e g, take-length) (sym (take_all reach s (omega (arith, e g))))
    go (no g) = let q : r ≡ reach = omega arith in rw q

pub reached-le : (l s : List ℕ) → l ≡ take reach s → length l ≤ reach
reached-le l s e = rw (e, length-take) (min-le_left reach (length s))
