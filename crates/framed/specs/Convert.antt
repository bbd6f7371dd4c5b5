-- From lengths to start codes and back (docs/RULES.md, 'Framed by length'): the answer, and the output at exit.
use Rattle.std.specs.Prelude.{ℕ, ◌/◌, ◌%◌, List, [], ◌∷◌, ◌++◌, map, Bool, ◌&&◌, leb, ltb, eqb, pos, length}
use Rattle.bits.specs.Refusals.{pick, refusal, buffer_too_short, too_large, limit}
use Rattle.escape.specs.Body.{start_with}
use Rattle.walk.specs.Walk.{upto, kept}
use Rattle.walk.specs.Units.{Span, units}
use Rattle.framed.specs.Framed.{framed_units, end_of, broken_length}
use Rattle.std.specs.Prelude.{Result, Ok, Err, Option, Some, None}
use Rattle.bits.specs.declared.refusals.Refusal.{Refusal}

-- a unit that cannot be carried; the value is the place of its first byte
abbrev pub not_carried : ℕ
not_carried = 35

-- ---- which units are carried

-- neither 00 00 00 nor 00 00 01 stands in the unit, and its last byte is not zero; so a unit without a byte is carried
abbrev pub carried : List ℕ → Bool
carried u = eqb (upto 0 u) (length u) && eqb (kept u) (length u)

-- the place of the first unit that is not
abbrev pub first_uncarried : List Span → Option ℕ
first_uncarried [] = None
first_uncarried (u ∷ us) = pick (carried u.read) (first_uncarried us) (Some u.place)

-- ---- the result

-- what stands before a unit of n bytes: a start code, or its length
abbrev pub start_code : ℕ → List ℕ
start_code n = 0 ∷ 0 ∷ 0 ∷ 1 ∷ []

abbrev pub length_bytes : ℕ → List ℕ
length_bytes n = n / 16777216 % 256 ∷ n / 65536 % 256 ∷ n / 256 % 256 ∷ n % 256 ∷ []

-- units one behind the other, each behind what stands before it
abbrev pub joined : (ℕ → List ℕ) → List (List ℕ) → List ℕ
joined before [] = []
joined before (b ∷ bs) = before (length b) ++ (b ++ joined before bs)

-- the bytes of units
abbrev pub bytes_of : List Span → List (List ℕ)
bytes_of us = map (λ (u : Span). u.read) us

-- ---- the two converters

-- what is answered, and the output at exit
pub record ConvertOut : Type 0 where
  pub answer : Result ℕ Refusal
  pub left : List ℕ

-- refused: the output is as it was
abbrev pub refuses : ℕ → ℕ → List ℕ → ConvertOut
refuses number value out = record { answer = Err (refusal number (pos value)); left = out }

-- 27 for the result, then 26; else the output starts with the result and is otherwise as it was
abbrev pub puts : List ℕ → List ℕ → ConvertOut
puts result out =
    pick (leb (length result) limit)
    (pick (leb (length result) (length out)) (record { answer = Ok (length result); left = start_with result out }) (refuses buffer_too_short (length result) out))
    (refuses too_large 0 out)

-- 35 first
abbrev pub unless_at : Option ℕ → ConvertOut → List ℕ → ConvertOut
unless_at (Some place) done out = refuses not_carried place out
unless_at None done out = done

abbrev pub carries : (ℕ → List ℕ) → List Span → List ℕ → ConvertOut
carries before us out = unless_at (first_uncarried us) (puts (joined before (bytes_of us)) out) out

-- from lengths to start codes: 27, then 29 for a length that is broken, wherever it stands, then the rest
unfoldable pub to_start_codes : List ℕ → List ℕ → ConvertOut
to_start_codes recording out =
    pick (leb (length recording) limit)
    (pick (ltb (end_of 0 (framed_units recording)) (length recording)) (refuses broken_length (end_of 0 (framed_units recording)) out) (carries start_code (framed_units recording) out))
    (refuses too_large 0 out)

-- from start codes to lengths: 27, then the rest
unfoldable pub to_lengths : List ℕ → List ℕ → ConvertOut
to_lengths recording out = pick (leb (length recording) limit) (carries length_bytes (units recording) out) (refuses too_large 0 out)
