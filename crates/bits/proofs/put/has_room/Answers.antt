use mathlib.Core.Path.{◌≡◌, sym, ◌∙◌}
use Prim.Native.Nat.{ℕ, ◌+◌, ◌-◌, ◌*◌, ◌≤◌, ◌<◌}
use native.Mathlib.Omega.{arith}
use native.Mathlib.Decide.{dec_lt, dec_le}
use borrow.Author.Tests.{lt-ltb, le-ltb, le-leb, lt-leb}
use lib.Dec.{ltb, leb}
use Rattle.bits.specs.Refusals.{pick}
use Rattle.bits.specs.Bits.{reach}
use Rattle.bits.proofs.put.has_room.Goals as goal

-- two tests that say the same
same_test : (a b c d : ℕ) → (a ≤ b → c ≤ d) → (c ≤ d → a ≤ b) → leb a b ≡ leb c d
same_test a b c d f g = go (dec_le a b)
  where
    go : Dec (a ≤ b) → leb a b ≡ leb c d
    go (yes h) = le-leb a b h ∙ sym (le-leb c d (f h))
    go (no h) = lt-leb a b (omega arith) ∙ sym (lt-leb c d (out (dec_le c d)))
      where
        out : Dec (c ≤ d) → d < c
        out (yes k) = absurd (h (g k))
        out (no k) = omega arith

-- the smaller of two numbers, by its test
smaller : (r n m : ℕ) → r ≤ n → r ≤ m → (r < m → r ≡ n) → r ≡ pick (ltb n m) n m
smaller r n m a b f = go (dec_lt n m)
  where
    go : Dec (n < m) → r ≡ pick (ltb n m) n m
    go (yes h) = rw (lt-ltb n m h) (f (omega arith))
    go (no h) = rw (le-ltb n m (omega arith)) (out (dec_lt r m))
      where
        out : Dec (r < m) → r ≡ m
        out (yes k) = absurd (omega (arith, f k))
        out (no k) = omega arith

pub returns-then-end-at : goal.returns-then-end-at
returns-then-end-at c =
    let a = c.args in
    let e = c.reached-end.ensures in
    let whole : c.reached-end.result ≡ pick (ltb a.len reach) a.len reach = smaller c.reached-end.result a.len reach e.0 e.1 e.2 in
    sym (rw (← whole) (lt-leb (a.at + a.n) (8 * c.reached-end.result) (omega arith)))

pub returns : goal.returns
returns c =
    let a = c.args in
    let e = c.reached-end.ensures in
    let whole : c.reached-end.result ≡ pick (ltb a.len reach) a.len reach = smaller c.reached-end.result a.len reach e.0 e.1 e.2 in
    let r = c.reached-end.result in
    rw (← whole) (same_test a.n (r * 8 - a.at) (a.at + a.n) (8 * r) (λ h. omega arith) (λ h. omega arith))
