-- Text as bytes: words in ASCII, decimal numbers.
use Rattle.std.specs.Prelude.{ℕ, zero, suc, ◌+◌, ◌/◌, ◌%◌, ◌≡◌, List, [], ◌∷◌, ◌++◌, ltb, ℤ, pos, negsuc, length}
use Prim.Native.Char.{code}
use Prim.Native.String.{String, [] as ε, ◌∷◌ as ◌▹◌}
use Rattle.std.proofs.lemmas.List.Edits.{sets}
use Rattle.bits.specs.Refusals.{pick}

-- the characters of a word (ε is the empty one)
abbrev pub words : String → List ℕ
words ε = []
words (c ▹ s) = code c ∷ words s

-- the character of a digit: 48 is `0`
abbrev pub digit : ℕ → ℕ
digit n = 48 + n

-- the digits of n by so many divisions at most
abbrev pub digits_in : ℕ → ℕ → List ℕ
digits_in zero n = digit n ∷ []
digits_in (suc turns) n = pick (ltb n 10) (digit n ∷ []) (digits_in turns (n / 10) ++ (digit (n % 10) ∷ []))

-- the digits of n: n divisions are never too few
unfoldable pub decimal : ℕ → List ℕ
decimal n = digits_in n n

abbrev pub signed : ℤ → List ℕ
signed (pos n) = decimal n
signed (negsuc n) = words "-" ++ decimal (suc n)

-- a name and its number
abbrev pub field : String → ℕ → List ℕ
field name n = words name ++ decimal n

-- for contracts of private functions: the text is put at a place of a buffer, and the answer is the place after it
pub record Put (before : List ℕ) (at : ℕ) (text : List ℕ) (next : ℕ) (after : List ℕ) : Type 0 where
  pub end : next ≡ at + length text
  pub holds : after ≡ sets before at text
