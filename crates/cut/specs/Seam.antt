-- The part of a body that is unescaped, and what stands for the part behind it.
use Rattle.std.specs.Prelude.{ℕ, List, [], ◌∷◌, ◌++◌, Bool, ◌||◌, leb, eqb, length, take, drop}
use Rattle.bits.specs.declared.refusals.Refusal.{Refusal}
use Rattle.bits.specs.Refusals.{pick}
use Rattle.bits.specs.Bits.{Bits, bytes_bits}
use Rattle.escape.specs.Body.{zeros, body}
use Rattle.syntax.specs.SliceHeader.{any_set}

-- how many zero bytes stand right before what follows, where z stood before the first
abbrev pub zeros_over : ℕ → List ℕ → ℕ
zeros_over z [] = z
zeros_over z (a ∷ r) = zeros_over (zeros z a) r

-- the bits of a unit's body, from byte `from` on
abbrev pub body_bits : List ℕ → ℕ → Bits
body_bits unit from = bytes_bits (body 0 (drop from unit))

-- and those behind the unit's first k bytes
abbrev pub behind_bits : List ℕ → ℕ → ℕ → Bits
behind_bits unit from k = bytes_bits (body (zeros_over 0 (drop from (take k unit))) (drop k unit))

-- the bytes of a unit from which nearly every header is read
abbrev pub near : ℕ
near = 130

-- the body of these
abbrev pub near_body : List ℕ → ℕ → List ℕ
near_body unit from = body 0 (drop from (take near unit))

-- refusals that more of the unit may change: it ran out, or nothing follows
abbrev pub may_change : Refusal → Bool
may_change r = eqb r.number 5 || eqb r.number 22

-- the bytes of a unit that hold every header
abbrev pub far : ℕ
far = 12288

-- the body of these, with a byte that stands for all bytes behind: it has a bit set where they have
unfoldable pub far_body : List ℕ → ℕ → List ℕ
far_body unit from =
    pick (leb (length unit) far) (body 0 (drop from unit)) (body 0 (drop from (take far unit)) ++ (pick (any_set (behind_bits unit from far)) 1 0 ∷ []))

-- the body from its byte k on, 256 bytes of it or all that there are
abbrev pub tail_body : List ℕ → ℕ → ℕ → List ℕ
tail_body unit from k = take 256 (drop k (body 0 (drop from unit)))
