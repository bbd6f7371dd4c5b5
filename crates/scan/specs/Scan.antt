-- Where 00 00 and a byte within bounds stand: the start code 00 00 01, the end marks 00 00 00 and 00 00 01, and 00 00 03 (H.264, 7.4.1, B.1).
use Rattle.std.specs.Prelude.{ℕ, suc, List, [], ◌∷◌, Bool, false, ◌&&◌, leb, eqb}
use Rattle.bits.specs.Refusals.{pick}

-- 00 00 and a byte from `low` to `high` stand here
abbrev pub hit : ℕ → ℕ → List ℕ → Bool
hit low high [] = false
hit low high (a ∷ []) = false
hit low high (a ∷ b ∷ []) = false
hit low high (a ∷ b ∷ c ∷ r) = eqb a 0 && (eqb b 0 && (leb low c && leb c high))

-- how many bytes stand before the first place where they do; all of them where they stand nowhere
abbrev pub upto : ℕ → ℕ → List ℕ → ℕ
upto low high [] = 0
upto low high (a ∷ r) = pick (hit low high (a ∷ r)) 0 (suc (upto low high r))
