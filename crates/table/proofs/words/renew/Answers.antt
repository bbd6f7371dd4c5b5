use Prim.Native.Nat.{ℕ, ◌+◌}
use mathlib.Core.Path.{◌≡◌, refl, ap, ◌∙◌}
use mathlib.Core.List.{List}
use native.Mathlib.Numerals.{add-one}
use native.Mathlib.Omega.{arith}
use Rattle.table.specs.Tables.{picture_in, renewed_by, renewed}
use Rattle.table.proofs.words.renew.Goals as goal

pub loop-j-init : goal.loop-j-init
unfolding renewed
loop-j-init c = refl

more : (id size : ℕ) (t₀ t : List ℕ) (j : ℕ) → t ≡ renewed id size t₀ j → renewed_by id size t j (picture_in t j) ≡ renewed id size t₀ (j + 1)
unfolding renewed
more id size t₀ t j e = rw (add-one, e)

pub loop-j-preserved : goal.loop-j-preserved
loop-j-preserved c = c.renew_entry.ensures ∙ more _ _ _ _ _ c.loop-j.invariant

pub returns : goal.returns
returns c = c.loop-j.invariant ∙ ap (renewed _ _ _) (omega arith)
