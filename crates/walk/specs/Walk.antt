-- Where a recording's units are (docs/RULES.md, 'Units and bodies'). A recording is the list of its bytes, and what stands from a place on is a list too: each definition goes along it and looks at nothing before it.
use Rattle.std.specs.Prelude.{ℕ, zero, suc, ◌+◌, List, [], ◌∷◌, Bool, false, ◌&&◌, leb, ltb, eqb, length, drop, Option, Some, None}
use Rattle.bits.specs.Refusals.{pick}
use Rattle.walk.specs.declared.search.Span.{Span}

-- 00 00 and a byte from `least` to 1 stand here. With 1 that is the start code, 00 00 01; with 0 an end mark, 00 00 00 or 00 00 01
abbrev pub hit : ℕ → List ℕ → Bool
hit least [] = false
hit least (a ∷ []) = false
hit least (a ∷ b ∷ []) = false
hit least (a ∷ b ∷ c ∷ r) = eqb a 0 && (eqb b 0 && (leb least c && leb c 1))

-- how many bytes stand before the first place where `hit least` holds; all of them where it holds nowhere
abbrev pub upto : ℕ → List ℕ → ℕ
upto least [] = 0
upto least (a ∷ r) = pick (hit least (a ∷ r)) 0 (suc (upto least r))

-- how many bytes are left when the zero bytes at the end are dropped; n are left of those after a
abbrev pub keep : ℕ → ℕ → ℕ
keep a zero = pick (eqb a 0) 0 1
keep a (suc n) = suc (suc n)

abbrev pub kept : List ℕ → ℕ
kept [] = 0
kept (a ∷ r) = keep a (kept r)

-- the length of a unit, where b stands after its start code: up to its end mark; without one, to the recording's end, where zero bytes are dropped
unfoldable pub len_of : List ℕ → ℕ
len_of b = pick (ltb (upto 0 b) (length b)) (upto 0 b) (kept b)

-- the unit whose start code begins at `at`: its place, its length, and the place to go on from, which is its end mark or the recording's end
unfoldable pub unit_at : List ℕ → ℕ → Span
unit_at s at = record { place = at + 3; length = len_of (drop (at + 3) s); next = at + 3 + upto 0 (drop (at + 3) s) }

-- where the first start code from `from` on begins; at the end or later where there is none
unfoldable pub first_from : List ℕ → ℕ → ℕ
first_from s from = from + upto 1 (drop from s)

-- the first unit whose start code begins at `from` or later
unfoldable pub next_unit : List ℕ → ℕ → Option Span
next_unit s from = pick (ltb (first_from s from) (length s)) (Some (unit_at s (first_from s from))) None
