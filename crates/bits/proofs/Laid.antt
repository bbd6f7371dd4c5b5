-- Bits laid over a list: `laid w p l e` is w with l from place p on and zeros after l up to place e. A byte and a whole buffer are written alike.
use mathlib.Core.Path.{◌≡◌, ap, ap₂, ◌∙◌}
use mathlib.Core.List.{◌++◌, append_assoc}
use mathlib.Core.Bool.{false}
use Prim.Native.Nat.{ℕ, ◌+◌, ◌-◌, ◌≤◌}
use native.Mathlib.Omega.{arith}
use native.Mathlib.Nat.{add_assoc}
use lib.ListN.{length, take, drop, replicate, length-append, length-replicate, length-drop}
use lib.Seq.{length-take-le, take_at, drop-append-add, drop-drop}
use Rattle.bits.specs.Bits.{Bits}

abbrev pub laid : Bits → ℕ → Bits → ℕ → Bits
laid w p l e = take p w ++ (l ++ (replicate (e - (p + length l)) false ++ drop e w))

module _ (w : Bits) (p : ℕ) (x : Bits) (e : ℕ) (inside : p ≤ length w) (room : p + length x ≤ e) where
  front_length : length (take p w ++ x) ≡ p + length x
  front_length = simp (length-append, length-take-le)

  pub take-laid : take (p + length x) (laid w p x e) ≡ take p w ++ x
  take-laid = rw (← append_assoc (take p w) x) (take_at (take p w ++ x) _ (p + length x) front_length)

  -- all that stands before place e
  abbrev upto : Bits
  upto = (take p w ++ x) ++ replicate (e - (p + length x)) false

  upto-length : length upto ≡ e
  upto-length = simp (length-append (take p w ++ x), length-replicate) (omega (arith, front_length))

  regroup : laid w p x e ≡ upto ++ drop e w
  regroup = simp append_assoc

  pub drop-laid : (j : ℕ) → e ≤ j → drop j (laid w p x e) ≡ drop j w
  drop-laid j h =
      let k : length upto + (j - e) ≡ j = omega (arith, upto-length) in
      let g : e + (j - e) ≡ j = omega arith in
      ap (drop j) regroup ∙ rw k at (drop-append-add upto (drop e w) (j - e)) ∙ rw g at (drop-drop (j - e) e w)

  pub length-laid : e ≤ length w → length (laid w p x e) ≡ length w
  length-laid h = ap length regroup ∙ length-append upto (drop e w) ∙ omega (arith, upto-length, length-drop e w)

  -- more bits right after
  pub laid-laid : (y : Bits) (j : ℕ) → e ≤ j → laid (laid w p x e) (p + length x) y j ≡ laid w p (x ++ y) j
  laid-laid y j h =
      ap₂ (λ (a b : Bits). a ++ (y ++ (replicate (j - (p + length x + length y)) false ++ b))) take-laid (drop-laid j h)
      ∙ simp (append_assoc, length-append, add_assoc)
