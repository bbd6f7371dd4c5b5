use mathlib.Core.Path.{sym, ◌∙◌}
use Rattle.header.specs.Lead.{table_in}
use Rattle.unit.proofs.Held.{refused-into}
use Rattle.unit.proofs.Known.{known-given, known-refused}
use Rattle.walk.proofs.turn.read_unit.Goals as goal

pub returns-in-Ok : goal.returns-in-Ok
returns-in-Ok c =
    let a = c.args in
    rw (← known-given a.known (table_in a.sets) a.unit.now a.scratch.now (sym c.head.ensures ∙ c.in-Ok.is))
    c.read_known_into.ensures

pub returns-in-Err-clause-read : goal.returns-in-Err-clause-read
returns-in-Err-clause-read c =
    let a = c.args in
    refused-into
    (known-refused a.known (table_in a.sets) a.unit.now a.scratch.now (sym c.head.ensures ∙ c.in-Err.is)) _
    c.clear.ensures.words
