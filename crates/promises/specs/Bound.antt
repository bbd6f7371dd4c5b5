-- A buffer for every header (change request M-110).
use Rattle.std.specs.Prelude.{ℕ}

-- so many bytes are enough, whatever the header: the C header's TUZ_HEADER_BYTES
abbrev pub enough : ℕ
enough = 6144
