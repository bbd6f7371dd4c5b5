-- The lines of a listing (docs/RULES.md, 'A listing, whole').
use Rattle.std.specs.Prelude.{ℕ, ◌≤◌, ◌≡◌, List, [], ◌++◌, Bool, false, ℤ, pos, length, get_or}
use Rattle.std.proofs.lemmas.List.Edits.{sets}
use Rattle.bits.specs.Refusals.{pick}
use Rattle.bits.specs.declared.refusals.Refusal.{Refusal}
use Rattle.nal.specs.Extension as extension
use Rattle.nal.specs.Extension.{extension_of}
use Rattle.syntax.specs.declared.record.SliceHeader.{SliceHeader}
use Rattle.unit.specs.declared.answer.UnitAnswer.{UnitAnswer}
use Rattle.unit.specs.declared.answer.UnitRead.{UnitRead}
use Rattle.unit.specs.declared.into.ShortAnswer.{ShortAnswer}
use Rattle.lines.specs.Level.{final_qp}
use Rattle.lines.specs.Text.{words, signed, field}
use Rattle.std.specs.Prelude.{Result, Ok, Err}
use Rattle.nal.specs.declared.extension.NalHeaderExtension.{NalHeaderExtension}

-- the extension is SVC's; a prefix unit has one
abbrev pub svc_in : Result NalHeaderExtension Refusal → Bool
svc_in (Ok e) = extension.is_svc e
svc_in (Err r) = false

unfoldable pub is_svc : List ℕ → Bool
is_svc unit = svc_in (extension_of unit)

-- ---- what reading a unit answered

abbrev pub slice_text : ℕ → ℕ → ℤ → List ℕ
slice_text slice-type frame-num qp = field " slice type=" slice-type ++ field " frame=" frame-num ++ words " qp=" ++ signed qp

abbrev pub prefix_text : Bool → List ℕ
prefix_text svc = pick svc (words " prefix ext=svc") (words " prefix ext=mvc")

-- a parameter set, by its id

abbrev pub sequence_text : ℕ → List ℕ
sequence_text id = field " sps id=" id

abbrev pub picture_text : ℕ → List ℕ
picture_text id = field " pps id=" id

abbrev pub other_text : ℕ → List ℕ
other_text id = field " other type=" id

-- where the refused field begins, if the refusal has a place
abbrev pub bit_text : Bool → ℕ → List ℕ
bit_text has-bit bit = pick has-bit (field " bit=" bit) []

abbrev pub refused_text : Refusal → List ℕ
refused_text r = field " refused " r.number ++ words " value=" ++ signed r.value ++ bit_text r.has_bit r.bit

abbrev pub text_of : List ℕ → List ℕ → SliceHeader → UnitAnswer → List ℕ
text_of pictures unit h (UnitAnswer.Slice bits) =
    slice_text h.slice_type h.frame.frame_num (final_qp pictures h.pic_parameter_set_id h.quantiser.slice_qp_delta)
text_of pictures unit h UnitAnswer.«Prefix» = prefix_text (is_svc unit)
text_of pictures unit h (UnitAnswer.Sequence v) = sequence_text v.seq_parameter_set_id
text_of pictures unit h (UnitAnswer.Picture v) = picture_text v.pic_parameter_set_id
text_of pictures unit h (UnitAnswer.Other id) = other_text id
text_of pictures unit h (UnitAnswer.Refused r) = refused_text r

-- the same where the header stands in lent words: of its numbers 1 is slice_type, 2 pic_parameter_set_id and 6 frame_num, of its signed numbers 3 slice_qp_delta
abbrev pub lent_text : List ℕ → List ℕ → List ℕ → List ℤ → ShortAnswer → List ℕ
lent_text pictures unit numbers signed (ShortAnswer.Slice bits) =
    slice_text (get_or numbers 1 0) (get_or numbers 6 0) (final_qp pictures (get_or numbers 2 0) (get_or signed 3 (pos 0)))
lent_text pictures unit numbers signed (ShortAnswer.«Prefix» p) = prefix_text (is_svc unit)
lent_text pictures unit numbers signed (ShortAnswer.Sequence v) = sequence_text v.seq_parameter_set_id
lent_text pictures unit numbers signed (ShortAnswer.Picture v) = picture_text v.pic_parameter_set_id
lent_text pictures unit numbers signed (ShortAnswer.Other id) = other_text id
lent_text pictures unit numbers signed (ShortAnswer.Refused r) = refused_text r

-- ---- the lines; `pictures` is the table's array of picture sets

-- a unit's place, its length and what reading it answered
abbrev pub line_of : ℕ → ℕ → List ℕ → List ℕ
line_of place size text = field "unit place=" place ++ field " length=" size ++ text ++ words "\n"

unfoldable pub unit_line : List ℕ → ℕ → List ℕ → UnitRead → List ℕ
unit_line pictures place unit read = line_of place (length unit) (text_of pictures unit read.header read.answer)

-- the same with the length given, and the header in lent words; of the unit's bytes a prefix unit's extension alone is looked at
unfoldable pub lent_line : List ℕ → ℕ → ℕ → List ℕ → ShortAnswer → List ℕ → List ℤ → List ℕ
lent_line pictures place size unit answer numbers signed = line_of place size (lent_text pictures unit numbers signed answer)

-- how many units there were, and how many of them were refused
unfoldable pub end_line : ℕ → ℕ → List ℕ
end_line units refused = field "end units=" units ++ field " refused=" refused ++ words "\n"

-- a length that is broken, in a recording framed by length: 29 with its place
unfoldable pub broken_line : ℕ → List ℕ
broken_line place = field "refused 29 value=" place ++ words "\n"

unfoldable pub too_long_line : List ℕ
too_long_line = words "end too long\n"

-- the text stands at the front of a buffer that is otherwise as before; the answer is its length, at most 128
pub record Written (text before : List ℕ) (answer : ℕ) (after : List ℕ) : Type 0 where
  pub count : answer ≡ length text
  pub short : answer ≤ 128
  pub front : after ≡ sets before 0 text
