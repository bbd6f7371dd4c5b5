use borrow.Author.Rules.{rules}
use mathlib.Core.Path.{sym, ◌∙◌}
use Rattle.header.specs.Lead.{table_in}
use Rattle.header.proofs.Tried.{tried-got, tried-no, tried-short, tried-far}
use Rattle.header.proofs.escaped.fill_by_parts.Goals as goal

pub returns-in_default : goal.returns-in_default
returns-in_default c =
    let a = c.args in
    record { filled = tried-got (table_in a.sets) a.kind a.unit.now _ _ _ c.fill_near-a.ensures.filled _ c.in_default.is; same = search rules }

pub returns-then-unit-le-NEAR : goal.returns-then-unit-le-NEAR
returns-then-unit-le-NEAR c =
    let a = c.args in
    record { filled = rw (← c.in-Err.is) (tried-short (table_in a.sets) a.kind a.unit.now _ _ _ c.if-unit-le-NEAR.true c.fill_near-a.ensures.filled); same = search rules }

pub returns-then-not-may_change : goal.returns-then-not-may_change
returns-then-not-may_change c =
    let a = c.args in
    record { filled = rw (← c.in-Err.is) (tried-no (table_in a.sets) a.kind a.unit.now _ _ _ c.fill_near-a.ensures.filled _ c.in-Err.is (sym c.may_change.ensures ∙ c.if-not-may_change.true)); same = search rules }

pub returns : goal.returns
returns c =
    let a = c.args in
    record { filled = tried-far (table_in a.sets) a.kind a.unit.now _ _ _ c.fill_near-a.ensures.kept _ c.fill_far.ensures.filled; same = search rules }
