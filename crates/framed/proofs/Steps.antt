-- The cases of a step, and what a caller goes by: `went` and `stopped`.
use mathlib.Core.Path.{◌≡◌, refl, sym, ◌∙◌}
use mathlib.Core.List.{List, [], ◌∷◌}
use mathlib.Core.Bool.{Bool, true, false}
use Prim.Native.Nat.{ℕ, ◌+◌, ◌≤◌, ◌<◌}
use native.Mathlib.Omega.{arith}
use native.Mathlib.Decide.{dec_le, dec_lt}
use lib.Dec.{ltb}
use borrow.Author.Tests.{le-leb, lt-leb, lt-ltb, le-ltb, ltb-true}
use lib.IntN.{pos}
use lib.ListN.{length, take, drop}
use Rattle.bits.specs.Refusals.{pick, refusal, too_large, limit}
use Rattle.bits.specs.declared.refusals.Refusal.{Refusal}
use Rattle.walk.specs.Units.{Span}
use Rattle.walk.proofs.Steps.{NoUnit}
use Rattle.walk.specs.declared.walk.Step.{Step}
use Rattle.framed.specs.Framed.{broken_length, framed_at, step_to, next_framed}
use Rattle.framed.proofs.Frames.{size_at, short-at, broken-at, unit-at}

-- asked from `from` it came to a unit at p with l bytes, and says to go on from m
pub record Went (s : List ℕ) (from p l m : ℕ) : Type 0 where
  pub on : p ≡ from + 4
  pub inside : p + l ≡ m
  pub within : m ≤ length s
  pub there : framed_at 0 from (drop from s) ≡ record { place = p; size = l; next = m; read = take l (drop p s) } ∷ framed_at 0 m (drop m s)

module _ (s : List ℕ) (from : ℕ) where
  pub over : limit < length s → Step.Refused (refusal too_large (pos 0)) ≡ next_framed s from
  unfolding next_framed
  over h = rw (lt-leb (length s) limit h)

  module _ (small : length s ≤ limit) where
    pub stays : step_to from (length s) (framed_at 0 from (drop from s)) ≡ next_framed s from
    unfolding next_framed
    stays = rw (le-leb (length s) limit small)

    pub at-end : length s ≤ from → Step.End ≡ next_framed s from
    at-end h =
        let e : framed_at 0 from (drop from s) ≡ [] = short-at s from (omega arith) in
        rw (← stays, e, le-ltb from (length s) h)

    broken : from < length s → framed_at 0 from (drop from s) ≡ [] → Step.Refused (refusal broken_length (pos from)) ≡ next_framed s from
    broken h e = rw (← stays, e, lt-ltb from (length s) h)

    pub few : from < length s → length s < from + 4 → Step.Refused (refusal broken_length (pos from)) ≡ next_framed s from
    few h l = broken h (short-at s from l)

    pub fewer : from + 3 < length s → length s < from + 4 + size_at s from → Step.Refused (refusal broken_length (pos from)) ≡ next_framed s from
    fewer h l = broken (omega arith) (broken-at s from h l)

    pub at_unit : from + 3 < length s → from + 4 + size_at s from ≤ length s → Step.Unit (from + 4) (size_at s from) (from + 4 + size_at s from) ≡ next_framed s from
    at_unit h l = rw (← stays, unit-at s from h l)

    -- where the step is to no unit, none is left
    pub stopped : {r : Step} → r ≡ next_framed s from → NoUnit r → framed_at 0 from (drop from s) ≡ []
    stopped {r} e k = go (framed_at 0 from (drop from s)) (e ∙ sym stays)
      where
        go : (us : List Span) → r ≡ step_to from (length s) us → us ≡ []
        go [] q = refl
        go (u ∷ us) q = absurd (k u.place u.size u.next q)

    pub went : {p l m : ℕ} → next_framed s from ≡ Step.Unit p l m → Went s from p l m
    went {p} {l} {m} e = go (dec_lt (from + 3) (length s)) (dec_lt (length s) (from + 4 + size_at s from))
      where
        no-unit : framed_at 0 from (drop from s) ≡ [] → ⊥
        no-unit z = tell (ltb from (length s)) (rw z at stays ∙ e)
          where
            tell : (t : Bool) → pick t (Step.Refused (refusal broken_length (pos from))) Step.End ≡ Step.Unit p l m → ⊥
            tell true q = let z : ◌≡◌ {A = ℕ} 0 1 = cc in omega arith
            tell false q = let z : ◌≡◌ {A = ℕ} 0 1 = cc in omega arith

        go : Dec (from + 3 < length s) → Dec (length s < from + 4 + size_at s from) → Went s from p l m
        go (no h) d = absurd (no-unit (short-at s from (omega arith)))
        go (yes h) (yes d) = absurd (no-unit (broken-at s from h d))
        go (yes h) (no d) =
            let q : Step.Unit (from + 4) (size_at s from) (from + 4 + size_at s from) ≡ Step.Unit p l m = at_unit h (omega arith) ∙ e in
            let qp : from + 4 ≡ p = cc in
            let ql : size_at s from ≡ l = cc in
            let qm : from + 4 + size_at s from ≡ m = cc in
            record { on = sym qp; inside = rw (← qp, ← ql) qm; within = rw (← qm) (omega arith); there = rw (← qp, ← ql, ← qm) (unit-at s from h (omega arith)) }

    -- what is refused is 29, with the place that was asked from: so asked from there again it is 29 again
    pub broken-there : {r : Refusal} → next_framed s from ≡ Step.Refused r → (r ≡ refusal broken_length (pos from)) × (from < length s)
    broken-there {r} e = go (framed_at 0 from (drop from s)) (stays ∙ e)
      where
        by : (t : Bool) → ltb from (length s) ≡ t → pick t (Step.Refused (refusal broken_length (pos from))) Step.End ≡ Step.Refused r → (r ≡ refusal broken_length (pos from)) × (from < length s)
        by true h q = (cc, ltb-true from (length s) h)
        by false h q = let z : ◌≡◌ {A = ℕ} 0 1 = cc in absurd (omega arith)

        go : (us : List Span) → step_to from (length s) us ≡ Step.Refused r → (r ≡ refusal broken_length (pos from)) × (from < length s)
        go [] q = by (ltb from (length s)) refl q
        go (u ∷ us) q = let z : ◌≡◌ {A = ℕ} 0 1 = cc in absurd (omega arith)

  -- a recording in which a step comes to a unit is within the limit
  pub found : {p l m : ℕ} → next_framed s from ≡ Step.Unit p l m → Went s from p l m
  found {p} {l} {m} e = go (dec_le (length s) limit)
    where
      go : Dec (length s ≤ limit) → Went s from p l m
      go (yes h) = went h e
      go (no h) =
          let q : Step.Refused (refusal too_large (pos 0)) ≡ Step.Unit p l m = over (omega arith) ∙ e in
          let z : ◌≡◌ {A = ℕ} 0 1 = cc in
          absurd (omega arith)
