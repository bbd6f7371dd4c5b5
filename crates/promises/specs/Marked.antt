-- The rules' marked examples, in one table: each input, and the answer that its definition must give.
use Rattle.std.specs.Prelude.{◌≡◌, List, [], ◌∷◌, ℕ, ℤ, pos, negsuc, length, replicate}
use Rattle.bits.specs.Refusals.{Res, got, refusal_at}
use Rattle.bits.specs.Bits.{bits_of}
use Rattle.bits.specs.Codes.{ue_at, se_at}
use Rattle.bits.specs.Width.{change_cycle_width}
use Rattle.table.specs.declared.table.Table.{Table}
use Rattle.escape.specs.Body.{body}
use Rattle.syntax.specs.Sample.{sample_header}
use Rattle.syntax.specs.Absent.{no_prefix}
use Rattle.unit.specs.declared.answer.UnitAnswer.{UnitAnswer}
use Rattle.unit.specs.declared.answer.UnitRead.{UnitRead}
use Rattle.unit.specs.Answer.{only}
use Rattle.unit.specs.Unit.{unit_read}
use Rattle.walk.specs.Units.{Report}
use Rattle.walk.specs.Reports.{reports}
use Rattle.lines.specs.Text.{words}
use Rattle.list_steps.specs.Listing.{listing}

pub data Example : Type 0 where
  -- bytes whose first code is read, and what reading gives
  ue : List ℕ → Res ℕ → Example
  se : List ℕ → Res ℤ → Example
  -- the rest of a unit, and its unescaped body
  unescaped : List ℕ → List ℕ → Example
  -- a unit, and what reading it gives, with the sample sets and scratch of its length
  unit : List ℕ → UnitRead → Example
  -- size, rate, and the change cycle's width
  width : ℕ → ℕ → ℕ → Example
  -- a recording, and the reports of a walk over it with the sample sets and scratch of its length
  walk : List ℕ → List (Report UnitRead) → Example
  -- a recording, and its listing with the sample sets
  listed : List ℕ → List ℕ → Example

-- with the sets of a table
abbrev pub Holds : Table → Example → Type 0
Holds t (ue s r) = ue_at (bits_of s) 0 ≡ r
Holds t (se s r) = se_at (bits_of s) 0 ≡ r
Holds t (unescaped s b) = body 0 s ≡ b
Holds t (unit s r) = (unit_read t s (replicate (length s) 0)).read ≡ r
Holds t (width size rate b) = change_cycle_width size rate ≡ b
Holds t (walk s rs) = reports t (replicate (length s) 0) s ≡ rs
Holds t (listed s text) = listing t (replicate (length s) 0) s ≡ text

abbrev pub All : Table → List Example → Type 0
All t [] = Unit {0}
All t (e ∷ es) = Holds t e × All t es

-- the recording of P12
abbrev pub recording : List ℕ
recording = 0 ∷ 0 ∷ 0 ∷ 1 ∷ 0x65 ∷ 0x88 ∷ 0x84 ∷ 0xA0 ∷ 0 ∷ 0 ∷ 1 ∷ 0x09 ∷ 0xF0 ∷ []

abbrev pub marked : List Example
marked =
    -- P1 bits 1
    ue (0b1000_0000 ∷ []) (got 0 1)
    -- P2 bits 00100
    ∷ ue (0b0010_0000 ∷ []) (got 3 5)
    -- P3 31 zeros, 32 ones
    ∷ ue (0 ∷ 0 ∷ 0 ∷ 1 ∷ 0xff ∷ 0xff ∷ 0xff ∷ 0xfe ∷ []) (got 4294967294 63)
    -- P4 code 2
    ∷ se (0b0110_0000 ∷ []) (got (negsuc 0) 3)
    -- P5
    ∷ unescaped (0 ∷ 0 ∷ 3 ∷ 0 ∷ 0 ∷ 3 ∷ 1 ∷ []) (0 ∷ 0 ∷ 0 ∷ 0 ∷ 1 ∷ [])
    -- P6 `65 88 84 A0`
    ∷ unit (0x65 ∷ 0x88 ∷ 0x84 ∷ 0xA0 ∷ []) (record { answer = UnitAnswer.Slice 17; header = sample_header; prefix = no_prefix })
    -- P7 `65 88 84 80`
    ∷ unit (0x65 ∷ 0x88 ∷ 0x84 ∷ 0x80 ∷ []) (only (UnitAnswer.Refused (refusal_at 22 (pos 0) 17)))
    -- P8 `65 88 84 C0`
    ∷ unit (0x65 ∷ 0x88 ∷ 0x84 ∷ 0xC0 ∷ []) (only (UnitAnswer.Refused (refusal_at 22 (pos 0) 17)))
    -- P9, P10, P11
    ∷ width 99 11 4
    ∷ width 7 1 3
    ∷ width 8 1 4
    ∷ width 1 5 1
    -- P12
    ∷ walk recording
    (record { place = 4; size = 4; next = 8; read = record { answer = UnitAnswer.Slice 17; header = sample_header; prefix = no_prefix } }
    ∷ record { place = 11; size = 2; next = 13; read = only (UnitAnswer.Other 9) }
    ∷ [])
    ∷ listed recording (words "unit place=4 length=4 slice type=7 frame=0 qp=26\nunit place=11 length=2 other type=9\nend units=2 refused=0\n")
    ∷ []
