use mathlib.Core.Path.{sym, ◌∙◌}
use Rattle.header.specs.Lead.{table_in}
use Rattle.unit.proofs.Begun.{begun-own}
use Rattle.unit.proofs.Held.{refused-into}
use Rattle.unit.proofs.Known.{known-own, known-other}
use Rattle.unit.proofs.into.read_known_into.Goals as goal

pub returns-then-not-is_head_of-clause-read : goal.returns-then-not-is_head_of-clause-read
returns-then-not-is_head_of-clause-read c =
    let a = c.args in
    let e = sym c.is_head_of.ensures ∙ c.if-not-is_head_of.true in
    rw c.refuse.ensures (refused-into (known-other a.known (table_in a.sets) a.unit.now a.scratch.now a.head e) _ c.clear.ensures.words)

pub read_into-requires : goal.read_into-requires
read_into-requires c = begun-own _ _ (sym c.is_head_of.ensures ∙ c.if-not-is_head_of.false)

pub returns-clause-read : goal.returns-clause-read
returns-clause-read c =
    let a = c.args in
    let e = sym c.is_head_of.ensures ∙ c.if-not-is_head_of.false in
    rw (known-own a.known (table_in a.sets) a.unit.now a.scratch.now a.head e) c.read_into.ensures.read
