-- The bits of bytes as numbers, zeros past the end: what the private functions of `window` and `read` say of the machine's words. No public contract cites
-- these; the laws in proofs/ carry them over to the definitions of Bits and Codes.
use Rattle.std.specs.Prelude.{ℕ, zero, suc, ◌+◌, ◌-◌, ◌*◌, ◌/◌, ◌%◌, ◌^◌, List, get_or}

-- bit i
unfoldable pub bit_at : List ℕ → ℕ → ℕ
bit_at s i = get_or s (i / 8) 0 / 2 ^ (7 - i % 8) % 2

-- the n bits from place p on, the first the highest
unfoldable pub bits_at : List ℕ → ℕ → ℕ → ℕ
bits_at s p zero = 0
bits_at s p (suc n) = bits_at s p n * 2 + bit_at s (p + n)
