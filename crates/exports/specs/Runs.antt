-- A run of codes, one after the other.
use Rattle.std.specs.Prelude.{ℕ, zero, suc, ◌+◌, ◌*◌, ◌%◌, ◌^◌}
use Rattle.bits.specs.Refusals.{Res, got, no}
use Rattle.bits.specs.Bits.{Bits}
use Rattle.bits.specs.Codes.{ue_at}

-- a count and a 32-bit sum in one number
abbrev pub packed : ℕ → ℕ → ℕ
packed count sum = count * 2 ^ 32 + sum

-- on with a value and the place after it; at a refusal, stop
abbrev pub onward : Res ℕ → (ℕ → ℕ → ℕ) → ℕ → ℕ
onward (got v e) next stop = next v e
onward (no r) next stop = stop

-- after `count` codes with this sum: up to n more from place p on
unfoldable pub ue_run : ℕ → Bits → ℕ → ℕ → ℕ → ℕ
ue_run zero s p count sum = packed count sum
ue_run (suc n) s p count sum = onward (ue_at s p) (λ v e. ue_run n s e (suc count) ((sum + v) % 2 ^ 32)) (packed count sum)
