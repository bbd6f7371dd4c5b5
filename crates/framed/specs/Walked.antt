-- The walk over a recording framed by length (docs/RULES.md, 'Framed by length'): the walk's own step, with another place to step to.
use Rattle.std.specs.Prelude.{List, [], ℕ}
use Rattle.table.specs.declared.table.Table.{Table}
use Rattle.unit.specs.declared.answer.UnitRead.{UnitRead}
use Rattle.unit.specs.Unit.{unit_read}
use Rattle.front.specs.Front.{unit_front}
use Rattle.walk.specs.Units.{Report}
use Rattle.walk.specs.Walked.{Walking, walk_by}
use Rattle.walk.specs.Reports.{reports_in}
use Rattle.framed.specs.Framed.{next_framed}

unfoldable pub walked_framed : Walking
walked_framed t recording from scratch = walk_by unit_read next_framed t recording from scratch

-- the one that reads headers alone, and asks for no scratch
unfoldable pub walked_framed_headers : Walking
walked_framed_headers t recording from scratch = walk_by unit_front next_framed t recording from scratch

-- all reports of a recording
abbrev pub framed_reports : Table → List ℕ → List ℕ → List (Report UnitRead)
framed_reports t scratch s = reports_in walked_framed t scratch s

abbrev pub framed_headers_reports : Table → List ℕ → List (Report UnitRead)
framed_headers_reports t s = reports_in walked_framed_headers t [] s

-- a report with its places aside
abbrev pub aside : {A : Type 0} → Report A → Report A
aside u = record { place = 0; size = u.size; next = 0; read = u.read }
