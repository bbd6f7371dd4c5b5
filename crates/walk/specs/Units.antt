-- All units of a recording, one for each start code.
use Rattle.std.specs.Prelude.{ℕ, suc, ◌+◌, List, [], ◌∷◌, take, drop}
use Rattle.bits.specs.Refusals.{pick}
use Rattle.walk.specs.Walk.{hit, upto, len_of}

-- what is said of a unit: the place of its first byte, how many bytes it has, the place to go on from, and what reading it gives
pub record Report (A : Type 0) : Type 0 where
  pub place : ℕ
  pub size : ℕ
  pub next : ℕ
  pub read : A

-- a unit itself: what is said of it is its bytes
abbrev pub Span : Type 0
Span = Report (List ℕ)

-- the unit whose start code begins at n, where b stands after the start code
abbrev pub span_of : ℕ → List ℕ → Span
span_of n b = record { place = n + 3; size = len_of b; next = n + 3 + upto 0 b; read = take (len_of b) b }

-- the units of what stands from the place n on
abbrev pub units_at : ℕ → List ℕ → List Span
units_at n [] = []
units_at n (a ∷ r) = pick (hit 1 (a ∷ r)) (span_of n (drop 2 r) ∷ units_at (suc n) r) (units_at (suc n) r)

abbrev pub units : List ℕ → List Span
units s = units_at 0 s

-- a unit's report: what is read of its bytes
abbrev pub report_of : {A : Type 0} → (List ℕ → A) → Span → Report A
report_of f u = record { place = u.place; size = u.size; next = u.next; read = f u.read }
