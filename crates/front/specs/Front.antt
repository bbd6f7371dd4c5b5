-- Reading a unit without its body: what `unit_read` answers with scratch as long as the unit; no scratch is asked for, and one that a walk hands on is untouched.
use Rattle.std.specs.Prelude.{List, ℕ, length, replicate}
use Rattle.table.specs.declared.table.Table.{Table}
use Rattle.unit.specs.declared.head.UnitHead.{UnitHead}
use Rattle.unit.specs.Unit.{UnitOut, unit_read}
use Rattle.unit.specs.Head.{by_head}

unfoldable pub unit_front : Table → List ℕ → List ℕ → UnitOut
unit_front t unit scratch = record { read = (unit_read t unit (replicate (length unit) 0)).read; left = scratch }

-- the same for a unit whose head is given: 34 first
unfoldable pub body_front : Table → UnitHead → List ℕ → List ℕ → UnitOut
body_front t h unit scratch = by_head h unit scratch (unit_front t unit scratch)
