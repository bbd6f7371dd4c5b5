-- The edges of the search, by computing.
use mathlib.Core.Path.{◌≡◌, refl}
use mathlib.Core.List.{[], ◌∷◌}
use Rattle.std.specs.Prelude.{Some, None}
use Rattle.walk.specs.Walk.{len_of, unit_at, first_from, next_unit}

module _ where
  -- a start code in the last three bytes: an empty unit
  pub last_code : next_unit (7 ∷ 0 ∷ 0 ∷ 1 ∷ []) 0 ≡ Some (record { place = 4; length = 0; next = 4 })
  unfolding next_unit unit_at len_of first_from
  last_code = refl

  -- past the end
  pub past_end : next_unit (0 ∷ 0 ∷ 1 ∷ 9 ∷ []) 99 ≡ None
  unfolding next_unit unit_at len_of first_from
  past_end = refl

  -- two zeros at the end are dropped; three are an end mark
  pub two-zeros : next_unit (0 ∷ 0 ∷ 1 ∷ 9 ∷ 0 ∷ 0 ∷ []) 0 ≡ Some (record { place = 3; length = 1; next = 6 })
  unfolding next_unit unit_at len_of first_from
  two-zeros = refl

  pub three-zeros : next_unit (0 ∷ 0 ∷ 1 ∷ 9 ∷ 0 ∷ 0 ∷ 0 ∷ []) 0 ≡ Some (record { place = 3; length = 1; next = 4 })
  unfolding next_unit unit_at len_of first_from
  three-zeros = refl

  pub only-zeros : next_unit (0 ∷ 0 ∷ 1 ∷ 0 ∷ 0 ∷ []) 0 ≡ Some (record { place = 3; length = 0; next = 5 })
  unfolding next_unit unit_at len_of first_from
  only-zeros = refl

  -- a start code right after a start code: an empty unit, and the walk goes on from there
  pub code-code : next_unit (0 ∷ 0 ∷ 1 ∷ 0 ∷ 0 ∷ 1 ∷ []) 0 ≡ Some (record { place = 3; length = 0; next = 3 })
  unfolding next_unit unit_at len_of first_from
  code-code = refl

  -- 00 00 00 01: the end mark is at 4, and from there the start code at 5 is found
  pub four_bytes : next_unit (0 ∷ 0 ∷ 1 ∷ 9 ∷ 0 ∷ 0 ∷ 0 ∷ 1 ∷ 7 ∷ []) 4 ≡ Some (record { place = 8; length = 1; next = 9 })
  unfolding next_unit unit_at len_of first_from
  four_bytes = refl

  -- why demand 3 asks for an end mark that lies wholly in P: of P = 00 00 01 41 00 00 it lies across the border, and what follows decides
  pub across-1 : next_unit (0 ∷ 0 ∷ 1 ∷ 65 ∷ 0 ∷ 0 ∷ 0 ∷ 0 ∷ 1 ∷ 7 ∷ []) 0 ≡ Some (record { place = 3; length = 1; next = 4 })
  unfolding next_unit unit_at len_of first_from
  across-1 = refl

  pub across-2 : next_unit (0 ∷ 0 ∷ 1 ∷ 65 ∷ 0 ∷ 0 ∷ 5 ∷ 0 ∷ 0 ∷ 1 ∷ 7 ∷ []) 0 ≡ Some (record { place = 3; length = 4; next = 7 })
  unfolding next_unit unit_at len_of first_from
  across-2 = refl
