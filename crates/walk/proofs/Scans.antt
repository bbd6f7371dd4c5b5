-- The walk's marks are those that the crate scan searches for, with a third byte of at most 1.
use mathlib.Core.Path.{◌≡◌, refl, sym, ap₂, ◌∙◌}
use mathlib.Core.List.{List, [], ◌∷◌}
use mathlib.Core.Bool.{Bool}
use Prim.Native.Nat.{ℕ, suc, ◌+◌, ◌≤◌}
use native.Mathlib.Omega.{arith}
use lib.ListN.{length, drop}
use Rattle.bits.specs.Refusals.{pick}
use Rattle.scan.specs.Scan as scan
use Rattle.scan.proofs.Clears.{upto-wider}
use Rattle.walk.specs.Walk.{hit, upto}

pub same-hit : (k : ℕ) (l : List ℕ) → scan.hit k 1 l ≡ hit k l
same-hit k [] = refl
same-hit k (a ∷ []) = refl
same-hit k (a ∷ b ∷ []) = refl
same-hit k (a ∷ b ∷ c ∷ r) = refl

same-upto : (k : ℕ) (l : List ℕ) → scan.upto k 1 l ≡ upto k l
same-upto k [] = refl
same-upto k (a ∷ r) = ap₂ (λ (t : Bool) (n : ℕ). pick t 0 (suc n)) (same-hit k (a ∷ r)) (same-upto k r)

-- so a search finds what the walk asks for
pub sought : (k : ℕ) (s : List ℕ) (from r : ℕ) → r ≡ from + scan.upto k 1 (drop from s) → r ≡ from + upto k (drop from s)
sought k s from r e = rw (same-upto k (drop from s)) at e

-- an end mark is where one is from the place on at which a search for marks and escapes stopped
pub sought-on : (s : List ℕ) (from stop r : ℕ) → from ≤ length s → stop ≡ from + scan.upto 0 3 (drop from s) → r ≡ stop + upto 0 (drop stop s) → r ≡ from + upto 0 (drop from s)
sought-on s from stop r h e k =
    k ∙ rw (same-upto 0 (drop stop s), same-upto 0 (drop from s)) at (sym (upto-wider 0 1 0 3 s from stop (omega arith) (omega arith) h e))
