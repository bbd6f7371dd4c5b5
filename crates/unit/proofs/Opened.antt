-- What unescaping a unit's body says of the definition: the part of scratch that was written holds the body, and its bits are the body's.
use mathlib.Core.Path.{◌≡◌, ap}
use mathlib.Core.List.{List}
use Prim.Native.Nat.{ℕ, ◌≤◌}
use native.Mathlib.Omega.{arith}
use native.Mathlib.Nat.{le_trans}
use native.Mathlib.Decide.{dec_le}
use borrow.Author.Tests.{le-leb, lt-leb}
use lib.Dec.{lit≤}
use lib.IntN.{pos}
use lib.ListN.{length, take}
use Rattle.bits.specs.Refusals.{refusal, buffer_too_short, limit}
use Rattle.bits.specs.declared.refusals.Refusal.{Refusal}
use Rattle.bits.specs.Bits.{Bits, reach, bits_of}
use Rattle.bits.proofs.Slices.{bits-reach}
use Rattle.escape.specs.Body.{start_with}
use Rattle.escape.specs.Known.{known_body, unescaped_known}
use Rattle.escape.proofs.Bodies.{front, same-room, known-short, known-done}
use Rattle.escape.proofs.Runs.{known-length}
use Rattle.unit.specs.declared.answer.UnitAnswer.{UnitAnswer}
use Rattle.unit.specs.declared.answer.UnitRead.{UnitRead}
use Rattle.unit.specs.Unit.{untouched}
use Rattle.unit.specs.Known.{in_known}
use Rattle.std.specs.Prelude.{Ok, Err}

-- what is within the limit has bits with a place
within-reach : (n : ℕ) → n ≤ limit → n ≤ reach
within-reach n h = le_trans h (lit≤ tt)

-- z is what unescaping leaves in scratch
module _ (unit : List ℕ) (from known : ℕ) (scratch z : List ℕ) (small : length unit ≤ limit) (left : z ≡ (unescaped_known unit from known scratch).left) where
  abbrev B : List ℕ
  B = known_body unit from known

  abbrev short : Refusal
  short = refusal buffer_too_short (pos (length unit))

  -- the part that was written lies in scratch
  pub written : {n : ℕ} → Ok n ≡ (unescaped_known unit from known scratch).answer → n ≤ length z
  written {n} a = go (dec_le (length unit) (length scratch))
    where
      go : Dec (length unit ≤ length scratch) → n ≤ length z
      go (yes h) =
          let l : z ≡ start_with B scratch = rw (known-done unit from known scratch small h) at left in
          let e : n ≡ length B = cc (rw (known-done unit from known scratch small h) at a) in
          let s = known-length unit from known in
          omega (arith, ap length l, same-room B scratch (omega arith))
      go (no h) =
          let e : Ok n ≡ Err short = rw (known-short unit from known scratch small (omega arith)) at a in
          let q : ◌≡◌ {A = ℕ} 0 1 = cc in
          omega arith

  -- its bits are read, and scratch is as it was left
  pub opened : {n : ℕ} → Ok n ≡ (unescaped_known unit from known scratch).answer → (reads : Bits → UnitRead)
      → in_known known reads unit from scratch ≡ record { read = reads (bits_of (take n z)); left = z }
  unfolding in_known
  opened {n} a reads = go (dec_le (length unit) (length scratch))
    where
      go : Dec (length unit ≤ length scratch) → in_known known reads unit from scratch ≡ record { read = reads (bits_of (take n z)); left = z }
      go (yes h) =
          let l : z ≡ start_with B scratch = rw (known-done unit from known scratch small h) at left in
          let e : n ≡ length B = cc (rw (known-done unit from known scratch small h) at a) in
          let s = known-length unit from known in
          rw (le-leb (length unit) (length scratch) h, l, e, front B scratch, bits-reach B (within-reach _ (omega arith)))
      go (no h) =
          let e : Ok n ≡ Err short = rw (known-short unit from known scratch small (omega arith)) at a in
          let q : ◌≡◌ {A = ℕ} 0 1 = cc in
          absurd (omega arith)

  -- a refusal is passed on: it is 26
  pub closed : {r : Refusal} → Err r ≡ (unescaped_known unit from known scratch).answer → (reads : Bits → UnitRead)
      → in_known known reads unit from scratch ≡ untouched (UnitAnswer.Refused r) z
  unfolding in_known
  closed {r} a reads = go (dec_le (length unit) (length scratch))
    where
      go : Dec (length unit ≤ length scratch) → in_known known reads unit from scratch ≡ untouched (UnitAnswer.Refused r) z
      go (yes h) =
          let e : Err r ≡ Ok (length B) = rw (known-done unit from known scratch small h) at a in
          let q : ◌≡◌ {A = ℕ} 0 1 = cc in
          absurd (omega arith)
      go (no h) =
          let l : z ≡ scratch = rw (known-short unit from known scratch small (omega arith)) at left in
          let e : r ≡ short = cc (rw (known-short unit from known scratch small (omega arith)) at a) in
          rw (lt-leb (length unit) (length scratch) (omega arith), l, e)
