-- Writing bits at a place of a buffer: what is answered, and what the buffer then holds.
use Rattle.std.specs.Prelude.{ℕ, suc, ◌+◌, ◌-◌, ◌/◌, ◌%◌, List, [], ◌∷◌, ◌++◌, Bool, false, leb, pos, length, get_or, take, set, replicate}
use Rattle.bits.specs.Refusals.{pick, refusal, no_bits, buffer_too_short}
use Rattle.bits.specs.Bits.{Bits, digits, number_of, bits_of}
use Rattle.std.specs.Prelude.{Result, Ok, Err}
use Rattle.bits.specs.declared.read.Cursor.{Cursor}
use Rattle.bits.specs.declared.refusals.Refusal.{Refusal}

-- byte b with the bit x at place r: the bits before it as they were, and zeros after it
unfoldable pub put_bit : ℕ → ℕ → Bool → ℕ
put_bit b r x = number_of (take r (digits 8 b) ++ (x ∷ replicate (7 - r) false))

-- buffer d with the bits l from place `at` on, and zeros after them to the end of their last byte
unfoldable pub put_bits : List ℕ → ℕ → Bits → List ℕ
put_bits d at [] = d
put_bits d at (x ∷ l) = put_bits (set d (at / 8) (put_bit (get_or d (at / 8) 0) (at % 8) x)) (suc at) l

-- the answer, and the buffer at exit
pub record Written : Type 0 where
  pub answer : Result Cursor Refusal
  pub left : List ℕ

-- how many bytes n bits need
abbrev pub bytes_for : ℕ → ℕ
bytes_for n = (n + 7) / 8

-- writing the bits l at a place, where `good` says whether the value has bits: 25 where it has none, then 26 where there is no room; refused, nothing changes
unfoldable pub written : Bool → Bits → List ℕ → ℕ → Written
written good l d at =
    pick good
    (pick (leb (at + length l) (length (bits_of d)))
    (record { answer = Ok (record { at = at + length l }); left = put_bits d at l })
    (record { answer = Err (refusal buffer_too_short (pos (bytes_for (at + length l)))); left = d }))
    (record { answer = Err (refusal no_bits (pos 0)); left = d })
