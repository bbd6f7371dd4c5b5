-- What a unit's first bytes say of its body, with the rules' refusals before the body: 27, 1, 2, units of other types, 4.
use Rattle.std.specs.Prelude.{ℕ, ◌+◌, ◌*◌, ◌%◌, List, Bool, false, not, ◌||◌, leb, eqb, pos, length}
use Rattle.bits.specs.Refusals.{pick, refusal, too_large, limit}
use Rattle.nal.specs.declared.header.NalHeader.{NalHeader}
use Rattle.nal.specs.declared.extension.NalHeaderExtension.{NalHeaderExtension}
use Rattle.nal.specs.Header.{nal_ref_idc, nal_unit_type, header_of}
use Rattle.nal.specs.UnitType.{id_of}
use Rattle.nal.specs.Extension.{extension_from, extension_of, idr_flag, use_ref_base_pic_flag}
use Rattle.syntax.specs.declared.context.PrefixKind.{PrefixKind}
use Rattle.header.specs.Kinds.{kind_of}
use Rattle.unit.specs.declared.begin.Begun.{Begun}
use Rattle.unit.specs.declared.head.UnitHead.{UnitHead}
use Rattle.std.specs.Prelude.{Result, Ok, Err}
use Rattle.bits.specs.declared.refusals.Refusal.{Refusal}

-- what stands for the extension of a unit that has none; types 1 and 5 make no use of it
abbrev pub absent_extension : NalHeaderExtension
absent_extension = NalHeaderExtension.Mvc (record { b1 = 0; b2 = 0; b3 = 0 })

abbrev pub type_in : NalHeader → ℕ
type_in h = id_of (nal_unit_type h)

-- types 1 and 5
abbrev pub is_plain : ℕ → Bool
is_plain t = eqb t 1 || eqb t 5

abbrev pub has_extension : ℕ → Bool
has_extension t = eqb t 14 || (eqb t 20 || eqb t 21)

-- the body of a prefix unit is read where the extension is SVC and nal_ref_idc is not 0
unfoldable pub prefix_kind : NalHeader → NalHeaderExtension → PrefixKind
prefix_kind h (NalHeaderExtension.Mvc m) = record { there = false; use_ref_base_pic_flag = false; idr_flag = false }
prefix_kind h (NalHeaderExtension.Svc v) = record { there = not (eqb (nal_ref_idc h) 0); use_ref_base_pic_flag = use_ref_base_pic_flag v; idr_flag = idr_flag v }

-- with the extension: the body starts after four bytes
unfoldable pub extended : NalHeader → NalHeaderExtension → Begun
extended h e = pick (eqb (type_in h) 14) (Begun.«Prefix» (prefix_kind h e)) (Begun.Slice (kind_of h e) 4)

-- 4, passed on, or the extension
abbrev pub with_extension : NalHeader → Result NalHeaderExtension Refusal → Begun
with_extension h (Ok e) = extended h e
with_extension h (Err r) = Begun.Refused r

-- parameter sets, types 7 and 8, and units of other types
abbrev pub without_extension : ℕ → Begun
without_extension t = pick (eqb t 7) Begun.SequenceSet (pick (eqb t 8) Begun.PictureSet (Begun.Other t))

-- by nal_unit_type: slices without an extension, units with one, and others
abbrev pub by_type : NalHeader → Begun → Begun
by_type h with-one =
    pick (is_plain (type_in h)) (Begun.Slice (kind_of h absent_extension) 1) (pick (has_extension (type_in h)) with-one (without_extension (type_in h)))

unfoldable pub typed : List ℕ → NalHeader → Begun
typed unit h = by_type h (with_extension h (extension_of unit))

-- 1 or 2, passed on, or the first byte
abbrev pub with_header : List ℕ → Result NalHeader Refusal → Begun
with_header unit (Ok h) = typed unit h
with_header unit (Err r) = Begun.Refused r

-- 27 first
unfoldable pub begun : List ℕ → Begun
begun unit = pick (leb (length unit) limit) (with_header unit (header_of unit)) (Begun.Refused (refusal too_large (pos 0)))

-- ---- the same from a unit's head (`begun-given` in proofs/Begun.antt)

-- the first byte
abbrev pub first_of : UnitHead → NalHeader
first_of h = record { 0 = h.nal_ref_idc % 4 * 32 + h.nal_unit_type % 32 }

unfoldable pub begun_by : UnitHead → Begun
begun_by h = by_type (first_of h) (extended (first_of h) (extension_from h.b1 h.b2 h.b3))
