use mathlib.Core.Path.{sym, ◌∙◌}
use mathlib.Core.List.{[]}
use Rattle.header.specs.Lead.{table_in}
use Rattle.unit.proofs.Held.{refused-into}
use Rattle.front.proofs.Units.{front-given, front-refused}
use Rattle.walk.proofs.headers.read_headers.Goals as goal

pub returns-in-Ok : goal.returns-in-Ok
returns-in-Ok c =
    let a = c.args in
    rw (← front-given (table_in a.sets) a.unit.now [] (sym c.head.ensures ∙ c.in-Ok.is))
    c.read_front_into.ensures

pub returns-in-Err-clause-read : goal.returns-in-Err-clause-read
returns-in-Err-clause-read c =
    let a = c.args in
    refused-into
    (front-refused (table_in a.sets) a.unit.now [] (sym c.head.ensures ∙ c.in-Err.is)) _
    c.clear.ensures.words
