-- The edges of the walk by length and of the converters, by computing.
use mathlib.Core.Path.{◌≡◌, refl}
use mathlib.Core.List.{[], ◌∷◌, ◌++◌}
use lib.IntN.{pos}
use Rattle.bits.specs.Refusals.{refusal}
use Rattle.walk.specs.Walk.{len_of}
use Rattle.walk.specs.declared.walk.Step.{Step}
use Rattle.framed.specs.Framed.{framed_units, next_framed}
use Rattle.framed.specs.Convert.{refuses, to_start_codes, to_lengths}
use Rattle.std.specs.Prelude.{Ok}

module _ where
  -- a unit without a byte, and the end
  pub empty-unit : next_framed (0 ∷ 0 ∷ 0 ∷ 0 ∷ []) 0 ≡ Step.Unit 4 0 4
  unfolding next_framed
  empty-unit = refl

  pub at-end : next_framed (0 ∷ 0 ∷ 0 ∷ 0 ∷ []) 4 ≡ Step.End
  unfolding next_framed
  at-end = refl

  pub past_end : next_framed (0 ∷ 0 ∷ 0 ∷ 0 ∷ []) 99 ≡ Step.End
  unfolding next_framed
  past_end = refl

  -- three bytes where a length starts; a byte less than the length says
  pub three-left : next_framed (0 ∷ 0 ∷ 0 ∷ 0 ∷ 7 ∷ 7 ∷ 7 ∷ []) 4 ≡ Step.Refused (refusal 29 (pos 4))
  unfolding next_framed
  three-left = refl

  pub one_less : next_framed (0 ∷ 0 ∷ 0 ∷ 2 ∷ 65 ∷ []) 0 ≡ Step.Refused (refusal 29 (pos 0))
  unfolding next_framed
  one_less = refl

  -- from the middle of a length: 00 01 00 00 is taken for one
  pub from-middle : next_framed (0 ∷ 0 ∷ 0 ∷ 1 ∷ 0 ∷ 0 ∷ 7 ∷ []) 2 ≡ Step.Refused (refusal 29 (pos 2))
  unfolding next_framed
  from-middle = refl

  -- 29 comes before 35, wherever it stands; 35 has the place of the unit's first byte
  pub broken-first : to_start_codes (0 ∷ 0 ∷ 0 ∷ 1 ∷ 0 ∷ 9 ∷ []) [] ≡ refuses 29 5 []
  unfolding to_start_codes
  broken-first = refl

  pub zero-last : to_start_codes (0 ∷ 0 ∷ 0 ∷ 0 ∷ 0 ∷ 0 ∷ 0 ∷ 1 ∷ 0 ∷ []) [] ≡ refuses 35 8 []
  unfolding to_start_codes
  zero-last = refl

  -- a unit without a byte is carried; 26 has the bytes needed
  pub empty-carried : to_start_codes (0 ∷ 0 ∷ 0 ∷ 0 ∷ []) (7 ∷ 7 ∷ 7 ∷ []) ≡ refuses 26 4 (7 ∷ 7 ∷ 7 ∷ [])
  unfolding to_start_codes
  empty-carried = refl

  pub put-codes : to_start_codes (0 ∷ 0 ∷ 0 ∷ 1 ∷ 65 ∷ []) (7 ∷ 7 ∷ 7 ∷ 7 ∷ 7 ∷ 7 ∷ []) ≡ record { answer = Ok 5; left = 0 ∷ 0 ∷ 0 ∷ 1 ∷ 65 ∷ 7 ∷ [] }
  unfolding to_start_codes
  put-codes = refl

  pub put-lengths : to_lengths (9 ∷ 0 ∷ 0 ∷ 1 ∷ 65 ∷ 0 ∷ []) (7 ∷ 7 ∷ 7 ∷ 7 ∷ 7 ∷ 7 ∷ []) ≡ record { answer = Ok 5; left = 0 ∷ 0 ∷ 0 ∷ 1 ∷ 65 ∷ 7 ∷ [] }
  unfolding to_lengths len_of
  put-lengths = refl

  -- ---- why demand 3 does not hold here

  -- S = 00 00 00 00 is a unit without a byte. With one byte put in before it, no length begins in S: the unit at 4 has its length across the border, and then one byte is left
  pub alone : framed_units (0 ∷ 0 ∷ 0 ∷ 0 ∷ []) ≡ record { place = 4; size = 0; next = 4; read = [] } ∷ []
  alone = refl

  pub behind : framed_units ((0 ∷ []) ++ (0 ∷ 0 ∷ 0 ∷ 0 ∷ [])) ≡ record { place = 4; size = 0; next = 4; read = [] } ∷ []
  behind = refl

  pub behind-then : next_framed ((0 ∷ []) ++ (0 ∷ 0 ∷ 0 ∷ 0 ∷ [])) 4 ≡ Step.Refused (refusal 29 (pos 4))
  unfolding next_framed
  behind-then = refl

  -- the same by one bit of a length: the unit at 8 is lost
  pub bit-clear : framed_units (0 ∷ 0 ∷ 0 ∷ 0 ∷ 0 ∷ 0 ∷ 0 ∷ 0 ∷ []) ≡ record { place = 4; size = 0; next = 4; read = [] } ∷ record { place = 8; size = 0; next = 8; read = [] } ∷ []
  bit-clear = refl

  pub bit-set : framed_units (0 ∷ 0 ∷ 0 ∷ 1 ∷ 0 ∷ 0 ∷ 0 ∷ 0 ∷ []) ≡ record { place = 4; size = 1; next = 5; read = 0 ∷ [] } ∷ []
  bit-set = refl
