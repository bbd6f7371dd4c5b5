-- What the search of the walk sees beside a unit; for contracts of private functions alone.
use Rattle.std.specs.Prelude.{ℕ, List, drop, Option, Some, None}
use Rattle.scan.specs.Scan.{upto}
use Rattle.walk.specs.declared.search.Span.{Span}
use Rattle.walk.specs.declared.search.Seen.{Seen}
use Rattle.walk.specs.Walk.{next_unit}

-- how many bytes of the recording s from the unit's first on stand before the first 00 00 and a byte of at most 3
abbrev pub clear_in : List ℕ → Option Span → ℕ
clear_in s (Some u) = upto 0 3 (drop u.place s)
clear_in s None = 0

abbrev pub next_seen : List ℕ → ℕ → Seen
next_seen s from = record { found = next_unit s from; clear = clear_in s (next_unit s from) }
