-- Damage behind the header (change request M-109): which bytes of a unit hold its header, and what must remain behind them. All counts are of raw bytes.
use Rattle.std.specs.Prelude.{ℕ, zero, suc, ◌+◌, List, [], ◌∷◌, Bool, take, drop}
use Rattle.bits.specs.Refusals.{pick}
use Rattle.bits.specs.Put.{bytes_for}
use Rattle.syntax.specs.SliceHeader.{any_set}
use Rattle.escape.specs.Body.{drops, zeros}
use Rattle.walk.specs.Walk.{len_of}
use Rattle.promises.specs.Demands.{is_long, first_of, body_of, body_bits}

-- the bytes up to and with the n-th that unescaping keeps, dropped ones counted; z zero bytes stand right before the first, as for `body`
abbrev pub raw_bytes : ℕ → ℕ → List ℕ → ℕ
raw_bytes z zero s = 0
raw_bytes z (suc n) [] = 0
raw_bytes z (suc n) (a ∷ r) = suc (pick (drops z a) (raw_bytes 0 (suc n) r) (raw_bytes (zeros z a) n r))

-- the bytes of a slice's unit up to and with the last that holds a bit of its header, which has e bits
abbrev pub header_bytes : ℕ → List ℕ → ℕ
header_bytes e u = pick (is_long (first_of u)) 4 1 + raw_bytes 0 (bytes_for e) (body_of u)

-- in the unescaped body a bit is set strictly after the bit that follows the first e
abbrev pub more_behind : ℕ → List ℕ → Bool
more_behind e u = any_set (drop (e + 1) (body_bits (body_of u)))

-- the unit whose first byte stands at the place p, up to its end mark, as the walk reports it
abbrev pub unit_from : List ℕ → ℕ → List ℕ
unit_from s p = take (len_of (drop p s)) (drop p s)
