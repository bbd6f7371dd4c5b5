-- What the block tests say; for contracts of private functions alone.
use Rattle.std.specs.Prelude.{ℕ, ◌+◌, ◌*◌, ◌%◌, ◌≤◌, ◌<◌, ◌≡◌, List, get_or}
use Rattle.std.specs.Int.Bits.{bit_and, bit_or, bit_xor}

-- 00 00 and a byte up to 3 that the mask and the flip take to 0 stand at j
pub record Spot (mask flip : ℕ) (s : List ℕ) (j : ℕ) : Type 0 where
  pub one : get_or s j 0 ≡ 0
  pub two : get_or s (j + 1) 0 ≡ 0
  pub three : bit_xor (bit_and (get_or s (j + 2) 0) mask) flip ≡ 0
  pub small : get_or s (j + 2) 0 ≤ 3

-- at no place from i up to e
abbrev pub Clear : ℕ → ℕ → List ℕ → ℕ → ℕ → Type 0
Clear mask flip s i e = (j : ℕ) → i ≤ j → j < e → Spot mask flip s j → ⊥

-- the bytes at j and behind it, the second one on top
abbrev pub pair_at : List ℕ → ℕ → ℕ
pair_at s j = bit_or (get_or s j 0) (get_or s (j + 1) 0 * 256 % 65536)

-- 00 and a byte up to 3 stand at j
pub record Low (s : List ℕ) (j : ℕ) : Type 0 where
  pub one : get_or s j 0 ≡ 0
  pub two : get_or s (j + 1) 0 ≤ 3

-- at none of `half` places, every other one behind i
abbrev pub Quiet : List ℕ → ℕ → ℕ → Type 0
Quiet s i half = (k : ℕ) → k < half → Low s (i + 1 + 2 * k) → ⊥
