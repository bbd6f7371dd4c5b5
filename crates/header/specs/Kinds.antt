-- What a unit's first byte and its extension say of its slice header (H.264, 7.4.1; H.7.4.1.1 for IdrPicFlag of a view). For types 1 and 5 the extension is
-- unused.
use Rattle.std.specs.Prelude.{Bool, true, false, not, ◌&&◌, ◌||◌, eqb}
use Rattle.nal.specs.declared.header.NalHeader.{NalHeader}
use Rattle.nal.specs.declared.extension.NalHeaderExtension.{NalHeaderExtension}
use Rattle.nal.specs.Header.{nal_ref_idc, nal_unit_type}
use Rattle.nal.specs.UnitType.{id_of}
use Rattle.nal.specs.Extension.{non_idr_flag}
use Rattle.syntax.specs.declared.context.UnitKind.{UnitKind}

abbrev pub is_mvc : NalHeaderExtension → Bool
is_mvc (NalHeaderExtension.Mvc m) = true
is_mvc (NalHeaderExtension.Svc v) = false

-- an MVC extension with non_idr_flag 0
abbrev pub is_mvc_idr : NalHeaderExtension → Bool
is_mvc_idr (NalHeaderExtension.Mvc m) = not (non_idr_flag m)
is_mvc_idr (NalHeaderExtension.Svc v) = false

module _ (h : NalHeader) where
  -- nal_unit_type 20 or 21
  abbrev pub is_extended : Bool
  is_extended = eqb (id_of (nal_unit_type h)) 20 || eqb (id_of (nal_unit_type h)) 21

  unfoldable pub kind_of : NalHeaderExtension → UnitKind
  kind_of e =
      record {
        reference = not (eqb (nal_ref_idc h) 0);
        idr = eqb (id_of (nal_unit_type h)) 5 || (is_extended && is_mvc_idr e);
        mvc = is_extended && is_mvc e;
        svc = is_extended && not (is_mvc e);
      }
