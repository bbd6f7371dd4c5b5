-- Reading a unit in two (docs/RULES.md, 'The kind without the body'): its head, from the first bytes alone, and its body, for whoever has the head. Used in turn they are
-- `unit_read` (`pair` in proofs/Pair.antt).
use Rattle.std.specs.Prelude.{ℕ, List, Bool, false, ◌&&◌, leb, eqb, pos, length, get_or}
use Rattle.bits.specs.Refusals.{pick, refusal, too_large, limit}
use Rattle.nal.specs.declared.header.NalHeader.{NalHeader}
use Rattle.nal.specs.Header.{nal_ref_idc, header_of}
use Rattle.nal.specs.Extension.{extension_of}
use Rattle.table.specs.declared.table.Table.{Table}
use Rattle.unit.specs.declared.answer.UnitAnswer.{UnitAnswer}
use Rattle.unit.specs.declared.head.UnitHead.{UnitHead}
use Rattle.unit.specs.Begin.{type_in, has_extension}
use Rattle.unit.specs.Unit.{UnitOut, untouched, unit_read}
use Rattle.std.specs.Prelude.{Result, Ok, Err}
use Rattle.bits.specs.declared.refusals.Refusal.{Refusal}
use Rattle.nal.specs.declared.extension.NalHeaderExtension.{NalHeaderExtension}

-- refusal 34: a head that is not the unit's own
abbrev pub not_its_head : ℕ
not_its_head = 34

abbrev pub head_with : NalHeader → ℕ → ℕ → ℕ → UnitHead
head_with h b1 b2 b3 = record { nal_unit_type = type_in h; nal_ref_idc = nal_ref_idc h; b1 = b1; b2 = b2; b3 = b3 }

-- 4, passed on, or the extension's three bytes
abbrev pub head_extended : List ℕ → NalHeader → Result NalHeaderExtension Refusal → Result UnitHead Refusal
head_extended unit h (Ok e) = Ok (head_with h (get_or unit 1 0) (get_or unit 2 0) (get_or unit 3 0))
head_extended unit h (Err r) = Err r

-- zeros for a type that has no extension
unfoldable pub head_typed : List ℕ → NalHeader → Result UnitHead Refusal
head_typed unit h = pick (has_extension (type_in h)) (head_extended unit h (extension_of unit)) (Ok (head_with h 0 0 0))

-- 1 or 2, passed on, or the first byte
abbrev pub head_first : List ℕ → Result NalHeader Refusal → Result UnitHead Refusal
head_first unit (Ok h) = head_typed unit h
head_first unit (Err r) = Err r

-- 27 first
unfoldable pub head_of : List ℕ → Result UnitHead Refusal
head_of unit = pick (leb (length unit) limit) (head_first unit (header_of unit)) (Err (refusal too_large (pos 0)))

-- all of a head is the unit's own
abbrev pub equal : UnitHead → UnitHead → Bool
equal a b =
    (eqb a.nal_unit_type b.nal_unit_type && eqb a.nal_ref_idc b.nal_ref_idc)
    && (eqb a.b1 b.b1 && (eqb a.b2 b.b2 && eqb a.b3 b.b3))

abbrev pub same_head : UnitHead → Result UnitHead Refusal → Bool
same_head h (Ok g) = equal h g
same_head h (Err r) = false

-- what is read of a unit whose head is given: 34 first, with scratch untouched
abbrev pub by_head : UnitHead → List ℕ → List ℕ → UnitOut → UnitOut
by_head h unit scratch read = pick (same_head h (head_of unit)) read (untouched (UnitAnswer.Refused (refusal not_its_head (pos 0))) scratch)

-- the body of a unit whose head is given
unfoldable pub body_read : Table → UnitHead → List ℕ → List ℕ → UnitOut
body_read t h unit scratch = by_head h unit scratch (unit_read t unit scratch)

-- the two, used in turn
abbrev pub in_turn : Table → List ℕ → List ℕ → Result UnitHead Refusal → UnitOut
in_turn t unit scratch (Ok h) = body_read t h unit scratch
in_turn t unit scratch (Err r) = untouched (UnitAnswer.Refused r) scratch
