use mathlib.Core.Path.{sym, ◌∙◌}
use Prim.Native.Nat.{◌≤◌}
use native.Mathlib.Omega.{arith}
use borrow.Author.Tests.{eq-eqb, ne_eqb}
use Rattle.table.proofs.Entries.{found-picture}
use Rattle.table.proofs.words.renew_entry.Goals as goal

pub returns-in_default : goal.returns-in_default
returns-in_default c = rw (← c.picture_in-found.ensures, c.in_default.is)

pub returns-then-p-id : goal.returns-then-p-id
returns-then-p-id c = rw (← c.picture_in-found.ensures, c.in-Some.is, ne_eqb _ _ c.if-p-id.true)

-- a set was found, so there is such an entry
inside : (c : goal.After-change_cycle_width-width) → c.args.j ≤ 255
inside c = (found-picture _ _ _ _ (sym c.picture_in-found.ensures ∙ c.in-Some.is)).0

pub overflow_mul-k : goal.overflow_mul-k
overflow_mul-k c = record { fits = omega (arith, inside c) }

pub overflow_add-k : goal.overflow_add-k
overflow_add-k c = record { fits = omega (arith, inside c) }

pub bounds-t-k : goal.bounds-t-k
bounds-t-k c = omega (arith, inside c.before)

pub returns : goal.returns
returns c = rw (← c.picture_in-found.ensures, c.in-Some.is, eq-eqb _ _ c.if-p-id.false, c.change_cycle_width-width.ensures)
