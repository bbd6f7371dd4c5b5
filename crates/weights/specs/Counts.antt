-- How many entries a list holds.
use Rattle.std.specs.Prelude.{ℕ, leb}
use Rattle.bits.specs.Refusals.{pick}

-- a count over 32, the most that a list holds, counts as 32
unfoldable pub at_most32 : ℕ → ℕ
at_most32 n = pick (leb n 32) n 32
