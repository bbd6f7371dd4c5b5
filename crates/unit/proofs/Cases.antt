-- The cases of reading a unit, for any table: which units' bodies are read, and what is left in scratch.
use mathlib.Core.Path.{◌≡◌, refl, sym, ap, ◌∙◌}
use mathlib.Core.List.{List, []}
use mathlib.Core.Bool.{Bool, true, false, true≢false}
use Prim.Native.Nat.{ℕ, ◌≤◌, ◌<◌}
use native.Mathlib.Omega.{arith}
use borrow.Author.Tests.{lt-leb, leb-true}
use lib.Dec.{leb}
use lib.IntN.{pos}
use lib.ListN.{length, drop}
use Rattle.bits.specs.Refusals.{pick, refusal, no_byte, buffer_too_short, too_large, limit}
use Rattle.bits.specs.Bits.{Bits, bytes_bits}
use Rattle.nal.specs.Header.{header_of}
use Rattle.escape.specs.Body.{body, start_with}
use Rattle.escape.proofs.Bodies.{part_length, same-room}
use Rattle.table.specs.declared.table.Table.{Table}
use Rattle.unit.specs.declared.answer.UnitAnswer.{UnitAnswer}
use Rattle.unit.specs.declared.answer.UnitRead.{UnitRead}
use Rattle.unit.specs.declared.begin.Begun.{Begun}
use Rattle.unit.specs.Begin.{begun}
use Rattle.unit.specs.Unit.{untouched, in_body, after_begin, unit_read}

-- whether the body is read
abbrev pub is_read : Begun → Bool
is_read (Begun.Slice kind from) = true
is_read (Begun.«Prefix» kind) = true
is_read Begun.SequenceSet = true
is_read Begun.PictureSet = true
is_read (Begun.Other id) = false
is_read (Begun.Refused r) = false

-- a unit whose body is read is within the limit
pub begun-small : (unit : List ℕ) (b : Begun) → b ≡ begun unit → is_read b ≡ true → length unit ≤ limit
unfolding begun
begun-small unit b e g = go (leb (length unit) limit) refl
  where
    go : (t : Bool) → leb (length unit) limit ≡ t → length unit ≤ limit
    go true p = leb-true (length unit) limit p
    go false p =
        let l : b ≡ Begun.Refused (refusal too_large (pos 0)) = rw p at e in
        absurd (true≢false (sym g ∙ ap is_read l))

-- ---- a body

module _ (reads : Bits → UnitRead) (unit : List ℕ) (from : ℕ) (scratch : List ℕ) where
  body-short : length scratch < length unit → in_body reads unit from scratch ≡ untouched (UnitAnswer.Refused (refusal buffer_too_short (pos (length unit)))) scratch
  unfolding in_body
  body-short h = rw (lt-leb (length unit) (length scratch) h)

  body-left : length (in_body reads unit from scratch).left ≡ length scratch
  unfolding in_body
  body-left = go (leb (length unit) (length scratch)) refl
    where
      go : (t : Bool) → leb (length unit) (length scratch) ≡ t
          → length (pick t (record { read = reads (bytes_bits (body 0 (drop from unit))); left = start_with (body 0 (drop from unit)) scratch }) (untouched (UnitAnswer.Refused (refusal buffer_too_short (pos (length unit)))) scratch)).left ≡ length scratch
      go true p = same-room (body 0 (drop from unit)) scratch (omega (arith, leb-true (length unit) (length scratch) p, part_length unit from))
      go false p = refl

-- ---- a unit

module _ (t : Table) (unit scratch : List ℕ) where
  -- 27 before all others
  pub too_large_lem : limit < length unit → unit_read t unit scratch ≡ untouched (UnitAnswer.Refused (refusal too_large (pos 0))) scratch
  unfolding unit_read begun
  too_large_lem h = rw (lt-leb (length unit) limit h)

  -- 26
  pub too_short : is_read (begun unit) ≡ true → length scratch < length unit
      → unit_read t unit scratch ≡ untouched (UnitAnswer.Refused (refusal buffer_too_short (pos (length unit)))) scratch
  unfolding unit_read
  too_short g h = go (begun unit) g
    where
      go : (b : Begun) → is_read b ≡ true → after_begin t unit scratch b ≡ untouched (UnitAnswer.Refused (refusal buffer_too_short (pos (length unit)))) scratch
      go (Begun.Slice kind from) g = body-short _ unit from scratch h
      go (Begun.«Prefix» kind) g = body-short _ unit 4 scratch h
      go Begun.SequenceSet g = body-short _ unit 1 scratch h
      go Begun.PictureSet g = body-short _ unit 1 scratch h
      go (Begun.Other id) g = absurd (true≢false (sym g))
      go (Begun.Refused r) g = absurd (true≢false (sym g))

  -- where no body is read, scratch is as it was
  pub not-read : is_read (begun unit) ≡ false → (unit_read t unit scratch).left ≡ scratch
  unfolding unit_read
  not-read g = go (begun unit) g
    where
      go : (b : Begun) → is_read b ≡ false → (after_begin t unit scratch b).left ≡ scratch
      go (Begun.Slice kind from) g = absurd (true≢false g)
      go (Begun.«Prefix» kind) g = absurd (true≢false g)
      go Begun.SequenceSet g = absurd (true≢false g)
      go Begun.PictureSet g = absurd (true≢false g)
      go (Begun.Other id) g = refl
      go (Begun.Refused r) g = refl

  -- whatever the answer, scratch is as long as before
  pub left-length : length (unit_read t unit scratch).left ≡ length scratch
  unfolding unit_read
  left-length = go (begun unit)
    where
      go : (b : Begun) → length (after_begin t unit scratch b).left ≡ length scratch
      go (Begun.Slice kind from) = body-left _ unit from scratch
      go (Begun.«Prefix» kind) = body-left _ unit 4 scratch
      go Begun.SequenceSet = body-left _ unit 1 scratch
      go Begun.PictureSet = body-left _ unit 1 scratch
      go (Begun.Other id) = refl
      go (Begun.Refused r) = refl

-- 1
pub no_byte_lem : (t : Table) (scratch : List ℕ) → unit_read t [] scratch ≡ untouched (UnitAnswer.Refused (refusal no_byte (pos 0))) scratch
unfolding unit_read begun header_of
no_byte_lem t scratch = refl
