use mathlib.Core.Bool.{Bool, true, false}
use mathlib.Core.Path.{◌≡◌, refl}
use Rattle.bits.specs.Codes.{bit_of}
use mir.Facts.{to_z-of_z}
use mir.Syntax.{w64}
use mir.Val.{SFits, bool_byte}
use Rattle.exposures.specs.Words.{words_of}
use borrow.Author.Rules.{sfits_of}
use Rattle.exposures.proofs.words.lay.Goals as goal

bit-same : (b : Bool) → bool_byte b ≡ bit_of b
bit-same true = refl
bit-same false = refl

-- that each field fits stands deep in what is told of the structs, too deep for a search
pub returns : goal.returns
unfolding words_of
returns c =
    let a = c.args in
    let e = c.struct_told-1.given in
    let s = c.struct_told-2-1.given in
    let f0 : SFits w64 a.e.qp_least = sfits_of e.1.1.0.1 in
    let f1 : SFits w64 a.e.qp_greatest = sfits_of e.1.1.1.0.1 in
    let f2 : SFits w64 a.e.qp_sum = sfits_of e.1.1.1.1.0.1 in
    let f3 : SFits w64 a.last.qp = sfits_of s.1.0.1 in
    let f4 : SFits w64 a.last.delta_pic_order_cnt_bottom = sfits_of s.1.1.1.1.1.1.1.1.1.1.0.1 in
    let f5 : SFits w64 a.last.delta_pic_order_cnt_0 = sfits_of s.1.1.1.1.1.1.1.1.1.1.1.0.1 in
    let f6 : SFits w64 a.last.delta_pic_order_cnt_1 = sfits_of s.1.1.1.1.1.1.1.1.1.1.1.1.0.1 in
    rw (to_z-of_z f0, to_z-of_z f1, to_z-of_z f2, to_z-of_z f3, to_z-of_z f4, to_z-of_z f5, to_z-of_z f6, bit-same a.begun, bit-same a.e.gap, bit-same a.last.idr_pic_flag, bit-same a.last.field_pic_flag, bit-same a.last.bottom_field_flag)
