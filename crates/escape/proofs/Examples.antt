-- Worked examples, by computing: the rules' P5 and the edges of unescaping.
use mathlib.Core.Path.{◌≡◌, refl}
use mathlib.Core.List.{[], ◌∷◌}
use lib.ListN.{drop}
use Rattle.escape.specs.Body.{body}

-- P5
pub p5 : body 0 (0 ∷ 0 ∷ 3 ∷ 0 ∷ 0 ∷ 3 ∷ 1 ∷ []) ≡ 0 ∷ 0 ∷ 0 ∷ 0 ∷ 1 ∷ []
p5 = refl

-- one zero after a dropped 03 is not two: the second 03 stays
pub one-zero-after : body 0 (0 ∷ 0 ∷ 3 ∷ 0 ∷ 3 ∷ []) ≡ 0 ∷ 0 ∷ 0 ∷ 3 ∷ []
one-zero-after = refl

-- a 03 at the end is dropped too
pub at-the-end : body 0 (7 ∷ 0 ∷ 0 ∷ 3 ∷ []) ≡ 7 ∷ 0 ∷ 0 ∷ []
at-the-end = refl

-- three zeros are two and one more; of two 03 after them the first is dropped
pub three-zeros : body 0 (0 ∷ 0 ∷ 0 ∷ 3 ∷ 3 ∷ []) ≡ 0 ∷ 0 ∷ 0 ∷ 3 ∷ []
three-zeros = refl

-- other bytes after two zeros stay
pub others-stay : body 0 (0 ∷ 0 ∷ 2 ∷ 0 ∷ 0 ∷ 4 ∷ 3 ∷ []) ≡ 0 ∷ 0 ∷ 2 ∷ 0 ∷ 0 ∷ 4 ∷ 3 ∷ []
others-stay = refl

-- a unit of type 20: the zeros of its extension do not count towards the 03 that the body starts with
pub extension-zeros : body 0 (drop 4 (116 ∷ 64 ∷ 0 ∷ 0 ∷ 3 ∷ 1 ∷ [])) ≡ 3 ∷ 1 ∷ []
extension-zeros = refl
