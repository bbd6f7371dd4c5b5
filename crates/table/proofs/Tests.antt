-- Tests as the code makes them, one at a time, and as the definitions write them, all at once.
use mathlib.Core.Path.{◌≡◌, refl, sym, ◌∙◌}
use mathlib.Core.Bool.{Bool, true, false, ◌&&◌, and-true, true≢false}
use mathlib.Core.List.{List, [], ◌∷◌}
use Prim.Native.Nat.{ℕ, zero, suc}
use borrow.Author.Tests.{eqb-true, eqb-false}
use lib.Dec.{eqb}
use lib.ListN.{get_or}
use Rattle.table.specs.Sets.{all}

-- ---- a list of tests

pub both : (a b : Bool) → a && b ≡ true → (a ≡ true) × (b ≡ true)
both true b h = (refl, h)
both false b h = absurd (true≢false (sym h))

-- the test at place k fails
pub one-fails : (l : List Bool) (k : ℕ) → get_or l k true ≡ false → all l ≡ false
unfolding all
one-fails [] k h = h
one-fails (b ∷ l) zero h = rw h
one-fails (true ∷ l) (suc k) h = one-fails l k h
one-fails (false ∷ l) (suc k) h = refl

-- the first test holds
pub next : {b : Bool} (l : List Bool) → b ≡ true → all (b ∷ l) ≡ all l
unfolding all
next l h = rw h

pub last : (b : Bool) → all (b ∷ []) ≡ b
unfolding all
last b = and-true b

-- the last test of two holds
pub but_last : (b : Bool) {d : Bool} → d ≡ true → all (b ∷ d ∷ []) ≡ b
unfolding all
but_last b h = rw h (and-true b)

pub joined : {a b : Bool} → a ≡ true → b ≡ true → a && b ≡ true
joined f g = rw (f, g)

abbrev pub Each : List Bool → Type 0
Each [] = Unit {0}
Each (b ∷ l) = (b ≡ true) × Each l

pub each : (l : List Bool) → all l ≡ true → Each l
unfolding all
each [] h = tt
each (true ∷ l) h = (refl, each l h)
each (false ∷ l) h = absurd (true≢false (sym h))

-- ---- a test by a call: what r answers is the test b

pub refuted : {b r : Bool} → r ≡ b → r ≡ false → b ≡ false
refuted e h = sym e ∙ h

pub held : {b r : Bool} → r ≡ b → r ≡ true → b ≡ true
held e h = sym e ∙ h

-- tests joined by calls
pub two : {a b x y r : Bool} → r ≡ x && y → x ≡ a → y ≡ b → all (a ∷ b ∷ []) ≡ r
unfolding all
two {b = b} e f g = rw (e, f, g, and-true b)

-- ---- two numbers are one, or not

pub is-it : (a b : ℕ) → Dec (a ≡ b)
is-it a b = by (eqb a b) refl
  where
    by : (t : Bool) → eqb a b ≡ t → Dec (a ≡ b)
    by true e = yes (eqb-true a b e)
    by false e = no (eqb-false a b e)
