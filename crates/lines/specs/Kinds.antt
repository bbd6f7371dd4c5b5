-- The lines of a listing of kinds (docs/RULES.md, 'The kind without the body').
use Rattle.std.specs.Prelude.{ℕ, ◌+◌, ◌/◌, ◌%◌, List, [], ◌∷◌, ◌++◌, ltb}
use Rattle.bits.specs.Refusals.{pick}
use Rattle.nal.specs.Extension.{extension_from, is_svc}
use Rattle.unit.specs.declared.head.UnitHead.{UnitHead}
use Rattle.unit.specs.Begin.{has_extension}
use Rattle.lines.specs.Text.{words, field}
use Rattle.lines.specs.Lines.{refused_text, line_of}
use Rattle.std.specs.Prelude.{Result, Ok, Err}
use Rattle.bits.specs.declared.refusals.Refusal.{Refusal}

-- a byte as two hexadecimal digits: 48 is `0`, 97 is `a`
abbrev pub hex_digit : ℕ → ℕ
hex_digit n = pick (ltb n 10) (48 + n) (87 + n)

abbrev pub hex_text : ℕ → List ℕ
hex_text b = hex_digit (b / 16) ∷ hex_digit (b % 16) ∷ []

-- which extension it is, and its three bytes
unfoldable pub extension_text : UnitHead → List ℕ
extension_text h =
    pick (is_svc (extension_from h.b1 h.b2 h.b3)) (words " ext=svc ") (words " ext=mvc ")
    ++ hex_text h.b1 ++ hex_text h.b2 ++ hex_text h.b3

unfoldable pub kind_text : UnitHead → List ℕ
kind_text h = field " type=" h.nal_unit_type ++ field " nal_ref_idc=" h.nal_ref_idc ++ pick (has_extension h.nal_unit_type) (extension_text h) []

abbrev pub head_text : Result UnitHead Refusal → List ℕ
head_text (Ok h) = kind_text h
head_text (Err r) = refused_text r

-- a unit's place, its length and what its head says
unfoldable pub head_line : ℕ → ℕ → Result UnitHead Refusal → List ℕ
head_line place size a = line_of place size (head_text a)
