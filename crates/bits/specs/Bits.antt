-- The bits of bytes, and the numbers they stand for: the first bit is the highest (H.264, 7.2).
use Rattle.std.specs.Prelude.{ℕ, zero, suc, ◌+◌, ◌/◌, ◌%◌, ◌^◌, List, [], ◌∷◌, ◌++◌, Bool, eqb, length, take, drop}
use Rattle.bits.specs.Refusals.{pick}

abbrev pub Bits : Type 0
Bits = List Bool

-- the n lowest binary digits of v, the highest first
unfoldable pub digits : ℕ → ℕ → Bits
digits zero v = []
digits (suc n) v = eqb (v / 2 ^ n % 2) 1 ∷ digits n v

-- the number that bits stand for
unfoldable pub number_of : Bits → ℕ
number_of [] = 0
number_of (b ∷ l) = pick b (2 ^ length l) 0 + number_of l

-- the number in the n bits from place p on
abbrev pub field : ℕ → ℕ → Bits → ℕ
field p n s = number_of (take n (drop p s))

-- the bits of bytes, eight each
unfoldable pub bytes_bits : List ℕ → Bits
bytes_bits [] = []
bytes_bits (b ∷ s) = digits 8 b ++ bytes_bits s

-- so many bytes have bits with a place: a place is a usize, and so is the one after the last bit
abbrev pub reach : ℕ
reach = 2305843009213693951

-- the bits of a body: all of them, for any body that fits in a machine
unfoldable pub bits_of : List ℕ → Bits
bits_of s = bytes_bits (take reach s)
