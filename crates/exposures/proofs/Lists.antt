-- Laws of a list of units: its parts, and the QPs and the last of its slices, when a unit comes behind it.
use Prim.Native.Nat.{ℕ, suc, ◌≤◌}
use mathlib.Core.Path.{◌≡◌, refl}
use mathlib.Core.Bool.{Bool, true, false}
use mathlib.Core.List.{List, [], ◌∷◌, ◌++◌}
use native.Mathlib.Omega.{arith}
use lib.IntN.{ℤ}
use Rattle.bits.specs.Refusals.{pick}
use Rattle.exposures.specs.declared.slice.Slice.{Slice}
use Rattle.exposures.specs.declared.slice.Kind.{Kind}
use Rattle.exposures.specs.declared.slice.Item.{Item}
use Rattle.exposures.specs.Exposure.{held, over}
use Rattle.exposures.specs.Pictures.{last_of, slices_of, same, those}

pub slices-append : (l m : List Item) → slices_of (l ++ m) ≡ slices_of l ++ slices_of m
slices-append [] m = refl
slices-append (Item.Slice s ∷ r) m = rw (slices-append r m)
slices-append (Item.Unit k ∷ r) m = slices-append r m

pub those-append : (j : Kind) (l m : List Item) → those j (l ++ m) ≡ those j l ++ those j m
those-append j [] m = refl
those-append j (Item.Slice s ∷ r) m = those-append j r m
those-append j (Item.Unit k ∷ r) m = go (same k j) (those-append j r m)
  where
    go : (b : Bool) → those j (r ++ m) ≡ those j r ++ those j m → pick b (k ∷ those j (r ++ m)) (those j (r ++ m)) ≡ pick b (k ∷ those j r) (those j r) ++ those j m
    go true ih = rw ih
    go false ih = ih

pub over-append : (f : ℤ → ℤ → ℤ) (x : ℤ) (l m : List Slice) → over f x (l ++ m) ≡ over f (over f x l) m
over-append f x [] m = refl
over-append f x (a ∷ r) m = over-append f (f x a.qp) r m

pub last-append : (x : Slice) (l m : List Slice) → last_of x (l ++ m) ≡ last_of (last_of x l) m
last-append x [] m = refl
last-append x (a ∷ r) m = last-append a r m

-- a count in a word, and one more
pub held-suc : (n : ℕ) → held (suc (held n)) ≡ held (suc n)
unfolding held
held-suc n = omega arith

pub held-is : (n : ℕ) → n ≤ 18446744073709551615 → held n ≡ n
unfolding held
held-is n h = omega arith
