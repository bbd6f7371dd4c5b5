-- What a first byte and an extension, or none, say of the unit that a header is written for, with the rules' checks 2, 3, 4 and 13.
use Rattle.std.specs.Prelude.{ℕ, pos}
use Rattle.bits.specs.Refusals.{pick, refusal, no_extension}
use Rattle.bits.specs.declared.refusals.Refusal.{Refusal}
use Rattle.nal.specs.declared.header.NalHeader.{NalHeader}
use Rattle.nal.specs.declared.extension.NalHeaderExtension.{NalHeaderExtension}
use Rattle.nal.specs.Header.{header_from}
use Rattle.nal.specs.Extension.{extension_from}
use Rattle.header.specs.Kinds.{is_extended, kind_of}
use Rattle.unit.specs.Begin.{absent_extension, type_in, is_plain}
use Rattle.writer.specs.declared.given.ExtensionGiven.{ExtensionGiven}
use Rattle.std.specs.Prelude.{Result, Ok, Err}
use Rattle.syntax.specs.declared.context.UnitKind.{UnitKind}

-- 13 where the extension's top bit is set
abbrev pub with_extension : NalHeader → NalHeaderExtension → Result UnitKind Refusal
with_extension h (NalHeaderExtension.Mvc m) = Ok (kind_of h (NalHeaderExtension.Mvc m))
with_extension h (NalHeaderExtension.Svc v) = Err (refusal 13 (pos 0))

-- types 1 and 5; 3 for others that are not 20 or 21; 4 for these without an extension
unfoldable pub typed : NalHeader → ExtensionGiven → Result UnitKind Refusal
typed h x =
    pick (is_plain (type_in h)) (Ok (kind_of h absent_extension))
    (pick (is_extended h)
    (pick x.there (with_extension h (extension_from x.b1 x.b2 x.b3)) (Err (refusal no_extension (pos 0))))
    (Err (refusal 3 (pos (type_in h)))))

-- 2, passed on, or the first byte
abbrev pub with_header : ExtensionGiven → Result NalHeader Refusal → Result UnitKind Refusal
with_header x (Ok h) = typed h x
with_header x (Err r) = Err r

unfoldable pub kind_given : ℕ → ExtensionGiven → Result UnitKind Refusal
kind_given first x = with_header x (header_from first)
