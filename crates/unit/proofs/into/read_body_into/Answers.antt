use Rattle.header.specs.Lead.{table_in}
use Rattle.unit.proofs.Known.{none-known-body}
use Rattle.unit.proofs.into.read_body_into.Goals as goal

pub returns-clause-read : goal.returns-clause-read
returns-clause-read c =
    let a = c.args in
    rw (← none-known-body (table_in a.sets) a.head a.unit.now a.scratch.now) c.read_known_into.ensures.read
