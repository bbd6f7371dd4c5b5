-- Unescaping for a caller who knows that no 00 00 03 begins before a place of the unit: the bytes before it are taken as they stand. Where that is so, the body is the
-- same (`known-body` in proofs/Runs.antt).
use Rattle.std.specs.Prelude.{ℕ, ◌-◌, List, ◌++◌, take, drop}
use Rattle.escape.specs.Body.{body, Unescaped, placed}

-- a unit's bytes from `from` on: those before `known` as they stand, then the body of those from there on
abbrev pub known_body : List ℕ → ℕ → ℕ → List ℕ
known_body unit from known = take (known - from) (drop from unit) ++ body 0 (drop (known - from) (drop from unit))

unfoldable pub unescaped_known : List ℕ → ℕ → ℕ → List ℕ → Unescaped
unescaped_known unit from known scratch = placed unit (known_body unit from known) scratch
