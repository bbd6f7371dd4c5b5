-- The cases of the next unit, by what the searches found. `at` is where its start code begins, `next` where its end mark does.
use mathlib.Core.Path.{◌≡◌}
use mathlib.Core.List.{List}
use Prim.Native.Nat.{ℕ, ◌+◌, ◌-◌, ◌≤◌, ◌<◌}
use native.Mathlib.Omega.{arith}
use borrow.Author.Tests.{lt-ltb, le-ltb}
use lib.ListN.{length, drop, length-drop}
use Rattle.std.specs.Prelude.{Some, None}
use Rattle.walk.specs.declared.search.Span.{Span}
use Rattle.walk.specs.Walk.{upto, kept, len_of, unit_at, first_from, next_unit}

pub none_from : (s : List ℕ) (from at : ℕ) → at ≡ from + upto 1 (drop from s) → length s ≤ at → None ≡ next_unit s from
unfolding next_unit first_from
none_from s from at e h = rw (← e, le-ltb at (length s) h)

pub first-there : (s : List ℕ) (from at : ℕ) → at ≡ from + upto 1 (drop from s) → at < length s → Some (unit_at s at) ≡ next_unit s from
unfolding next_unit first_from
first-there s from at e h = rw (← e, lt-ltb at (length s) h)

module _ (s : List ℕ) (at next : ℕ) (mark : next ≡ at + 3 + upto 0 (drop (at + 3) s)) where
  pub marked : next < length s → ◌≡◌ {A = Span} (record { place = at + 3; length = next - (at + 3); next = next }) (unit_at s at)
  unfolding unit_at len_of
  marked g =
      let l : upto 0 (drop (at + 3) s) < length (drop (at + 3) s) = rw length-drop (omega arith) in
      let k : next - (at + 3) ≡ upto 0 (drop (at + 3) s) = omega arith in
      rw (lt-ltb (upto 0 (drop (at + 3) s)) (length (drop (at + 3) s)) l, k, ← mark)

  pub open-ended : (len : ℕ) → length s ≤ next → len ≡ kept (drop (at + 3) s) → ◌≡◌ {A = Span} (record { place = at + 3; length = len; next = next }) (unit_at s at)
  unfolding unit_at len_of
  open-ended len g k =
      let l : length (drop (at + 3) s) ≤ upto 0 (drop (at + 3) s) = rw length-drop (omega arith) in
      rw (le-ltb (upto 0 (drop (at + 3) s)) (length (drop (at + 3) s)) l, ← mark, k)
