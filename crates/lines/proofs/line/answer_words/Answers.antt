use borrow.Author.Rules.{rules}
use native.Mathlib.Omega.{arith}
use lib.IntN.{pos}
use lib.ListN.{get_or}
use mir.Facts.{to_z-of_z}
use mir.Syntax.{w32, w64}
use mir.Val.{SFits}
use Rattle.lines.proofs.Decimals.{decimal-8, decimal-32}
use Rattle.lines.proofs.line.answer_words.Goals as goal

pub enum_told-1 : goal.enum_told-1
enum_told-1 c = search rules

pub field-requires : goal.field-requires
field-requires c = omega (arith, decimal-32 c.in-Sequence.v.seq_parameter_set_id (search rules))

pub field-requires-in-Picture : goal.field-requires-in-Picture
field-requires-in-Picture c = omega (arith, decimal-32 c.in-Picture.v.pic_parameter_set_id (search rules))

pub field-requires-in-Other : goal.field-requires-in-Other
field-requires-in-Other c = omega (arith, decimal-8 c.in-Other.id (search rules))

pub returns-in-Slice : goal.returns-in-Slice
returns-in-Slice c =
    let v : SFits w64 c.final_qp-qp.result = record { sfits = c.final_qp-qp.type_inv } in
    let d : SFits w32 (get_or c.args.signed.now 3 (pos 0)) = search rules in
    rw c.in-Slice.is (rw (to_z-of_z v, c.final_qp-qp.ensures, to_z-of_z d) at c.slice_words.ensures)

pub returns-in-Prefix : goal.returns-in-Prefix
returns-in-Prefix c = rw c.in-Prefix.is (rw c.is_svc.ensures at c.prefix_words.ensures)

pub returns-in-Sequence : goal.returns-in-Sequence
returns-in-Sequence c = rw c.in-Sequence.is (c.field.ensures, omega (arith, decimal-32 c.in-Sequence.v.seq_parameter_set_id (search rules)))

pub returns-in-Picture : goal.returns-in-Picture
returns-in-Picture c = rw c.in-Picture.is (c.field-in-Picture.ensures, omega (arith, decimal-32 c.in-Picture.v.pic_parameter_set_id (search rules)))

pub returns-in-Other : goal.returns-in-Other
returns-in-Other c = rw c.in-Other.is (c.field-in-Other.ensures, omega (arith, decimal-8 c.in-Other.id (search rules)))

pub returns-in-Refused : goal.returns-in-Refused
returns-in-Refused c = rw c.in-Refused.is c.refused_words.ensures
