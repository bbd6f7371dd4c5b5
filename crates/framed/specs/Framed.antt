-- A recording framed by length (docs/RULES.md, 'Framed by length'): no start codes; each unit stands behind its length, four bytes, the first the highest. What stands from a place on is a list, and each definition goes along it and looks at nothing before it.
use Rattle.std.specs.Prelude.{ℕ, zero, suc, ◌+◌, ◌*◌, List, [], ◌∷◌, leb, ltb, pos, length, take, drop}
use Rattle.bits.specs.Refusals.{pick, refusal, too_large, limit}
use Rattle.walk.specs.Units.{Report, Span}
use Rattle.walk.specs.Reports.{sift}
use Rattle.walk.specs.declared.walk.Step.{Step}

-- fewer bytes are left than a length says, or 1 to 3 bytes where a length starts; its value is the place of the length
abbrev pub broken_length : ℕ
broken_length = 29

-- the number that four bytes say
abbrev pub four : ℕ → ℕ → ℕ → ℕ → ℕ
four a b c d = ((a * 256 + b) * 256 + c) * 256 + d

-- the unit of k bytes whose first byte is at n, where b stands from there on
abbrev pub span_by : ℕ → ℕ → List ℕ → Span
span_by n k b = record { place = n; size = k; next = n + k; read = take k b }

-- the units of what stands from the place n on, of which the first `skip` bytes belong to the unit before. They end where no byte is left, or at a length that is broken
abbrev pub framed_at : (skip : ℕ) → ℕ → List ℕ → List Span
framed_at (suc k) n [] = []
framed_at (suc k) n (a ∷ r) = framed_at k (suc n) r
framed_at zero n [] = []
framed_at zero n (a ∷ []) = []
framed_at zero n (a ∷ b ∷ []) = []
framed_at zero n (a ∷ b ∷ c ∷ []) = []
framed_at zero n (a ∷ b ∷ c ∷ d ∷ r) = pick (leb (four a b c d) (length r)) (span_by (n + 4) (four a b c d) r ∷ framed_at (four a b c d) (n + 4) r) []

abbrev pub framed_units : List ℕ → List Span
framed_units s = framed_at 0 0 s

-- where units end that begin at n: the place to go on from after the last
abbrev pub end_of : ℕ → List Span → ℕ
end_of n [] = n
end_of n (u ∷ us) = end_of u.next us

-- those that end at k or before. No end mark follows a unit here
abbrev pub ends_by : {A : Type 0} → ℕ → List (Report A) → List (Report A)
ends_by {A} k rs = sift (λ (u : Report A). leb u.next k) rs

-- where a step from `from` comes to in a recording of n bytes, us being the units from there on: the first of them; without one the end, or 29 where bytes are left
abbrev pub step_to : ℕ → ℕ → List Span → Step
step_to from n (u ∷ us) = Step.Unit u.place u.size u.next
step_to from n [] = pick (ltb from n) (Step.Refused (refusal broken_length (pos from))) Step.End

-- one step, from any place: what stands there is taken for a length, whether a unit ended there or not. 27 first
unfoldable pub next_framed : List ℕ → ℕ → Step
next_framed recording from =
    pick (leb (length recording) limit) (step_to from (length recording) (framed_at 0 from (drop from recording)))
    (Step.Refused (refusal too_large (pos 0)))
