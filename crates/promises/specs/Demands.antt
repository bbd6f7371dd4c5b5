-- What the demands' theorems speak of beside the public definitions: lists of refusal numbers, what reading a unit leaves in scratch, and the parts of a unit.
use Rattle.std.specs.Prelude.{ℕ, ◌+◌, ◌≡◌, List, [], ◌∷◌, Bool, true, false, ◌||◌, T, eqb, leb, length, get_or, take, drop}
use Rattle.bits.specs.Refusals.{pick}
use Rattle.bits.specs.Bits.{Bits, bytes_bits}
use Rattle.table.specs.declared.table.Table.{Table}
use Rattle.syntax.specs.declared.context.UnitKind.{UnitKind}
use Rattle.syntax.specs.declared.record.SliceHeader.{SliceHeader}
use Rattle.syntax.specs.SliceHeader.{header, any_set}
use Rattle.escape.specs.Body.{body, start_with}
use Rattle.header.specs.Kinds.{is_extended}
use Rattle.unit.specs.declared.begin.Begun.{Begun}
use Rattle.unit.specs.Begin.{begun}
use Rattle.writer.specs.declared.given.ExtensionGiven.{ExtensionGiven}
use Rattle.std.specs.Prelude.{Result, Ok, Err}
use Rattle.bits.specs.declared.refusals.Refusal.{Refusal}

abbrev pub one_of : List ℕ → ℕ → Bool
one_of [] n = false
one_of (m ∷ ms) n = eqb n m || one_of ms n

-- reading a unit, and so each report of a walk: all but 3 and 25, the writer's, and 24, the table's
abbrev pub read_numbers : List ℕ
read_numbers = 1 ∷ 2 ∷ 4 ∷ 5 ∷ 6 ∷ 7 ∷ 8 ∷ 9 ∷ 10 ∷ 11 ∷ 12 ∷ 13 ∷ 14 ∷ 15 ∷ 16 ∷ 17 ∷ 18 ∷ 19 ∷ 20 ∷ 21 ∷ 22 ∷ 23 ∷ 26 ∷ 27 ∷ 28 ∷ []

-- those of them that arise while a body is read: they have a bit place, the others have none
abbrev pub body_numbers : List ℕ
body_numbers = 5 ∷ 6 ∷ 7 ∷ 8 ∷ 9 ∷ 10 ∷ 11 ∷ 12 ∷ 13 ∷ 14 ∷ 15 ∷ 16 ∷ 17 ∷ 18 ∷ 19 ∷ 20 ∷ 21 ∷ 22 ∷ 23 ∷ 28 ∷ []

-- writing a header
abbrev pub write_numbers : List ℕ
write_numbers = 2 ∷ 3 ∷ 4 ∷ 13 ∷ 8 ∷ 9 ∷ 10 ∷ 25 ∷ 26 ∷ []

-- scratch after a unit: it starts with the unescaped body where the unit has one that is read, and scratch is no shorter than the unit; else it is as before
abbrev pub body_left : List ℕ → ℕ → List ℕ → List ℕ
body_left unit from scratch = pick (leb (length unit) (length scratch)) (start_with (body 0 (drop from unit)) scratch) scratch

abbrev pub left_by : Begun → List ℕ → List ℕ → List ℕ
left_by (Begun.Slice kind from) unit scratch = body_left unit from scratch
left_by (Begun.«Prefix» kind) unit scratch = body_left unit 4 scratch
left_by Begun.SequenceSet unit scratch = body_left unit 1 scratch
left_by Begun.PictureSet unit scratch = body_left unit 1 scratch
left_by (Begun.Other id) unit scratch = scratch
left_by (Begun.Refused r) unit scratch = scratch

abbrev pub scratch_after : List ℕ → List ℕ → List ℕ
scratch_after unit scratch = left_by (begun unit) unit scratch

-- ---- a slice's unit: its first byte, its extension where its type is 20 or 21, and the bytes of its body

abbrev pub is_long : ℕ → Bool
is_long b = is_extended (record { 0 = b })

abbrev pub unit_of : ℕ → ExtensionGiven → List ℕ → List ℕ
unit_of b x v = pick (is_long b) (b ∷ x.b1 ∷ x.b2 ∷ x.b3 ∷ v) (b ∷ v)

abbrev pub first_of : List ℕ → ℕ
first_of u = get_or u 0 0

abbrev pub extension_in : List ℕ → ExtensionGiven
extension_in u = record { there = true; b1 = get_or u 1 0; b2 = get_or u 2 0; b3 = get_or u 3 0 }

abbrev pub body_of : List ℕ → List ℕ
body_of u = drop (pick (is_long (first_of u)) 4 1) u

-- the bits of a body, unescaped
abbrev pub body_bits : List ℕ → Bits
body_bits v = bytes_bits (body 0 v)

-- ---- headers

-- a good record's bits stand at the front of s and end at e, and a bit is set strictly behind the one that follows them
abbrev pub Stands : Table → UnitKind → Bits → SliceHeader → ℕ → Type 0
Stands t k s h e =
    T ((header t k).good h) × ((e ≡ length ((header t k).bits h)) × ((take e s ≡ (header t k).bits h) × (any_set (drop (e + 1) s) ≡ true)))

-- the writer's answer is one of its checks up to 25: neither bits nor 26
abbrev pub UpTo25 : Result ℕ Refusal → Type 0
UpTo25 (Ok n) = ⊥
UpTo25 (Err r) = T (one_of (2 ∷ 3 ∷ 4 ∷ 13 ∷ 8 ∷ 9 ∷ 10 ∷ 25 ∷ []) r.number)
