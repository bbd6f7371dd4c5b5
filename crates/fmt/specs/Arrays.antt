-- Lists in arrays of a fixed length: the first k elements, and zeros after them.
use Rattle.std.specs.Prelude.{ℕ, ◌-◌, List, [], ◌∷◌, ◌++◌, Bool, true, ◌&&◌, eqb, leb, length, drop, replicate}

-- l, and zeros z up to n elements
unfoldable pub pad : {A : Type 0} → A → ℕ → List A → List A
pad z n l = l ++ replicate (n - length l) z

abbrev pub all_zero : {A : Type 0} → (A → Bool) → List A → Bool
all_zero isz [] = true
all_zero isz (x ∷ l) = isz x && all_zero isz l

-- n elements, and those from k on are zero
unfoldable pub padded : {A : Type 0} → (A → Bool) → ℕ → ℕ → List A → Bool
padded isz n k xs = (leb k n && eqb (length xs) n) && all_zero isz (drop k xs)
