-- A unit's body with its emulation prevention bytes dropped (docs/RULES.md, 'Units and bodies'; H.264, 7.3.1).
use Rattle.std.specs.Prelude.{ℕ, suc, List, [], ◌∷◌, ◌++◌, Bool, ◌&&◌, leb, eqb, pos, length, drop}
use Rattle.bits.specs.Refusals.{pick, refusal, buffer_too_short, too_large, limit}
use Rattle.std.specs.Prelude.{Result, Ok, Err}
use Rattle.bits.specs.declared.refusals.Refusal.{Refusal}

-- the byte a is dropped, where z zero bytes stand right before it, none of them before a dropped byte
abbrev pub drops : ℕ → ℕ → Bool
drops z a = leb 2 z && eqb a 3

-- how many zero bytes stand right before the byte that follows a
abbrev pub zeros : ℕ → ℕ → ℕ
zeros z a = pick (eqb a 0) (suc z) 0

-- the bytes that are kept, where z zero bytes stand right before the first; 0 at the body's start
abbrev pub body : ℕ → List ℕ → List ℕ
body z [] = []
body z (a ∷ r) = pick (drops z a) (body 0 r) (a ∷ body (zeros z a) r)

-- the answer, and scratch at exit
pub record Unescaped : Type 0 where
  pub answer : Result ℕ Refusal
  pub left : List ℕ

-- scratch with s in front and otherwise as it was
abbrev pub start_with : List ℕ → List ℕ → List ℕ
start_with s scratch = s ++ drop (length s) scratch

-- the bytes b of a unit go to scratch: 27 where the unit is over the limit, then 26 where scratch is shorter than the unit; refused, scratch is as it was
unfoldable pub placed : List ℕ → List ℕ → List ℕ → Unescaped
placed unit b scratch =
    pick (leb (length unit) limit)
    (pick (leb (length unit) (length scratch))
    (record { answer = Ok (length b); left = start_with b scratch })
    (record { answer = Err (refusal buffer_too_short (pos (length unit))); left = scratch }))
    (record { answer = Err (refusal too_large (pos 0)); left = scratch })

-- the body of a unit's bytes from `from` on
unfoldable pub unescaped : List ℕ → ℕ → List ℕ → Unescaped
unescaped unit from scratch = placed unit (body 0 (drop from unit)) scratch
