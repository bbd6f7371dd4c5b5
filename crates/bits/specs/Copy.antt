-- Bytes copied into others, from a place on.
use Rattle.std.specs.Prelude.{ℕ, ◌+◌, List, Bool, leb, length}
use Rattle.std.proofs.Math.Seq.{paste}
use Rattle.bits.specs.Refusals.{pick}

-- all of src fits into dst from `at` on
abbrev pub has_room : List ℕ → List ℕ → ℕ → Bool
has_room src dst at = leb (at + length src) (length dst)

-- dst with src in it from `at` on, where it fits; else as it was
unfoldable pub copied : List ℕ → List ℕ → ℕ → List ℕ
copied src dst at = pick (has_room src dst at) (paste dst at src (length src)) dst
