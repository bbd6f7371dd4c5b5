-- Dropping the zero bytes at the end, from the end: what `trim` cites.
use mathlib.Core.Path.{◌≡◌, refl, ap}
use mathlib.Core.List.{List, [], ◌∷◌, ◌++◌}
use mathlib.Core.Bool.{Bool, true, false}
use Prim.Native.Nat.{ℕ, zero, suc, ◌+◌, ◌-◌, ◌≤◌, ◌<◌}
use native.Mathlib.Omega.{arith}
use lib.Dec.{eqb}
use borrow.Author.Tests.{ne_eqb}
use lib.ListN.{length, get_or, take, drop, length-drop, length-take}
use lib.Seq.{take-suc, take_all, get_or-drop}
use Rattle.bits.specs.Refusals.{pick}
use Rattle.walk.specs.Walk.{keep, kept}

-- one byte more at the end: a zero is dropped, any other byte is kept with all before it
kept-zero : (l : List ℕ) → kept (l ++ (0 ∷ [])) ≡ kept l
kept-zero [] = refl
kept-zero (a ∷ r) = ap (keep a) (kept-zero r)

kept-other : (l : List ℕ) (x : ℕ) → (x ≡ 0 → ⊥) → kept (l ++ (x ∷ [])) ≡ suc (length l)
kept-other [] x n = rw (ne_eqb x 0 n)
kept-other (a ∷ r) x n = rw (kept-other r x n)

pub kept-le : (l : List ℕ) → kept l ≤ length l
kept-le [] = omega arith
kept-le (a ∷ r) = go (kept r) (kept-le r)
  where
    one : (t : Bool) → pick t 0 1 ≤ suc (length r)
    one true = omega arith
    one false = omega arith

    go : (k : ℕ) → k ≤ length r → keep a k ≤ suc (length r)
    go zero h = one (eqb a 0)
    go (suc k) h = omega arith

-- the bytes from b to e
module _ (s : List ℕ) (b e : ℕ) (more : b < e) (within : e ≤ length s) where
  last : take (e - b) (drop b s) ≡ take (e - 1 - b) (drop b s) ++ (get_or s (e - 1) 0 ∷ [])
  last =
      let j : e - b ≡ suc (e - 1 - b) = omega arith in
      let h : e - 1 - b < length (drop b s) = rw length-drop (omega arith) in
      let i : b + (e - 1 - b) ≡ e - 1 = omega arith in
      rw (j, take-suc (drop b s) (e - 1 - b) 0 h, get_or-drop b s (e - 1 - b) 0, i)

  pub trim-on : get_or s (e - 1) 0 ≡ 0 → kept (take (e - b) (drop b s)) ≡ kept (take (e - 1 - b) (drop b s))
  trim-on z = rw (last, z) (kept-zero (take (e - 1 - b) (drop b s)))

  pub trim-stop : (get_or s (e - 1) 0 ≡ 0 → ⊥) → kept (take (e - b) (drop b s)) ≡ e - b
  trim-stop z = rw (last, kept-other (take (e - 1 - b) (drop b s)) (get_or s (e - 1) 0) z, length-take, length-drop) (omega arith)

pub trim_start : (s : List ℕ) (b : ℕ) → kept (take (length s - b) (drop b s)) ≡ kept (drop b s)
trim_start s b = rw (take_all (length s - b) (drop b s) (rw length-drop (omega arith)))
