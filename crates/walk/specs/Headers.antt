-- The walk that reads headers alone (docs/RULES.md, 'The walk'): units are read from the recording itself, and no scratch is asked for.
use Rattle.std.specs.Prelude.{ℕ, List, []}
use Rattle.table.specs.declared.table.Table.{Table}
use Rattle.unit.specs.declared.answer.UnitRead.{UnitRead}
use Rattle.front.specs.Front.{unit_front}
use Rattle.walk.specs.Units.{Report}
use Rattle.walk.specs.Walked.{next_step, Walking, walk_by}
use Rattle.walk.specs.Reports.{reports_in}

-- steps are those of the walk
unfoldable pub walked_headers : Walking
walked_headers t recording from scratch = walk_by unit_front next_step t recording from scratch

-- all reports of the recording s
abbrev pub headers_reports : Table → List ℕ → List (Report UnitRead)
headers_reports t s = reports_in walked_headers t [] s
