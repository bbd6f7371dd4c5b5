-- What reading a unit answers, as a plain struct.
use Rattle.std.specs.Prelude.{false, pos}
use Rattle.syntax.specs.Absent.{no_prefix}
use Rattle.syntax.specs.Context.{no_sequence, no_picture}
use Rattle.lists.specs.ListsLent.{prefix_short}
use Rattle.unit.specs.declared.answer.UnitRead.{UnitRead}
use Rattle.unit.specs.declared.into.ShortAnswer.{ShortAnswer}
use Rattle.unit.specs.Into.{short_answer}
use Rattle.exports.specs.declared.units.ReadOut.{ReadOut}
use Rattle.exports.specs.declared.units.MarkedFlag.{MarkedFlag}
use Rattle.exports.specs.declared.units.PrefixShort as out
use Rattle.lists.specs.declared.list_words.PrefixShort.{PrefixShort}
use Rattle.syntax.specs.declared.marks.Marked.{Marked}
use Rattle.std.specs.Prelude.{Bool}

-- a mark and its flag, and a prefix, in structs of the same fields that other languages can name
abbrev pub flag_out : Marked Bool → MarkedFlag
flag_out m = record { there = m.there; value = m.value }

abbrev pub prefix_out : PrefixShort → out.PrefixShort
prefix_out p =
    record {
      store_ref_base_pic_flag = flag_out p.store_ref_base_pic_flag;
      adaptive_ref_base_pic_marking_mode_flag = flag_out p.adaptive_ref_base_pic_marking_mode_flag;
      base_markings = p.base_markings;
      additional_prefix_nal_unit_extension_flag = flag_out p.additional_prefix_nal_unit_extension_flag;
    }

-- an answer that speaks of nothing
abbrev pub nothing : ReadOut
nothing =
    record {
      answer = 0;
      number = 0;
      value = pos 0;
      has_bit = false;
      bit = 0;
      bits = 0;
      prefix = prefix_out (prefix_short no_prefix);
      sequence = no_sequence;
      picture = no_picture;
    }

-- 0, another type, with the type; 1, a slice, with its bits; 2, a prefix unit; 3, refused, with number, value and bit place; 4, a sequence set, and 5, a picture set, with
-- its id
unfoldable pub told : ShortAnswer → ReadOut
told (ShortAnswer.Slice n) = record nothing { answer = 1; bits = n }
told (ShortAnswer.«Prefix» p) = record nothing { answer = 2; prefix = prefix_out p }
told (ShortAnswer.Sequence v) = record nothing { answer = 4; number = v.seq_parameter_set_id; sequence = v.sequence }
told (ShortAnswer.Picture v) = record nothing { answer = 5; number = v.pic_parameter_set_id; picture = v.picture }
told (ShortAnswer.Other t) = record nothing { number = t }
told (ShortAnswer.Refused r) = record nothing { answer = 3; number = r.number; value = r.value; has_bit = r.has_bit; bit = r.bit }

-- so; a slice's header and a prefix's list stand in the words
unfoldable pub unit_out : UnitRead → ReadOut
unit_out u = told (short_answer u)
