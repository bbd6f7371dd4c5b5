-- Room for a header's bits: as many bytes as they need.
use Prim.Native.Nat.{ℕ, ◌*◌, ◌≤◌, ◌<◌}
use mathlib.Core.List.{List}
use native.Mathlib.Omega.{arith}
use native.Mathlib.Decide.{dec_lt}
use borrow.Author.Tests.{lt-ltb, le-ltb}
use lib.Dec.{ltb, lit≤}
use lib.ListN.{length}
use Rattle.bits.specs.Refusals.{pick}
use Rattle.bits.specs.Bits.{reach, bits_of}
use Rattle.bits.specs.Put.{bytes_for}
use Rattle.bits.proofs.Slices.{length-bits}

-- for any reach of at least 6,144 bytes
within : (r len n : ℕ) → 6144 ≤ r → n ≤ 8 * 6144 → bytes_for n ≤ len → n ≤ 8 * pick (ltb len r) len r
within r len n h s e = go (dec_lt len r)
  where
    go : Dec (len < r) → n ≤ 8 * pick (ltb len r) len r
    go (yes i) = rw (lt-ltb len r i) (omega arith)
    go (no i) = rw (le-ltb len r (omega arith)) (omega arith)

without : (r len n : ℕ) → len < bytes_for n → 8 * pick (ltb len r) len r < n
without r len n e = go (dec_lt len r)
  where
    go : Dec (len < r) → 8 * pick (ltb len r) len r < n
    go (yes i) = rw (lt-ltb len r i) (omega arith)
    go (no i) = rw (le-ltb len r (omega arith)) (omega arith)

pub room-bits : (out : List ℕ) (n : ℕ) → n ≤ 8 * 6144 → bytes_for n ≤ length out → n ≤ length (bits_of out)
room-bits out n s e = rw (length-bits out) (within reach (length out) n (lit≤ tt) s e)

pub no_room : (out : List ℕ) (n : ℕ) → length out < bytes_for n → length (bits_of out) < n
no_room out n e = rw (length-bits out) (without reach (length out) n e)
