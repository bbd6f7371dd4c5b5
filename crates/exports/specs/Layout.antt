-- The number of the boundary's layout.
use Rattle.std.specs.Prelude.{ℕ}

abbrev pub layout : ℕ
layout = 12
