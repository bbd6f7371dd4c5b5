use mathlib.Core.Path.{refl}
use mir.Facts.{to_z-of_z}
use mir.Syntax.{w32}
use mir.Val.{SFits}
use borrow.Author.Rules.{sfits_of}
use Rattle.header.proofs.words.lay_order.Goals as goal

-- that each field fits stands deep in what is told of the struct, too deep for a search
pub returns : goal.returns
returns c =
    let a = c.args in
    let o = c.struct_told-1.given in
    let f1 : SFits w32 a.o.delta_pic_order_cnt_bottom.value = sfits_of o.1.0.1.1.1.0.1 in
    let f2 : SFits w32 a.o.delta_pic_order_cnt.first = sfits_of o.1.1.0.1.1.1.0.1 in
    let f3 : SFits w32 a.o.delta_pic_order_cnt.second = sfits_of o.1.1.0.1.1.1.1.0.1 in
    record { numbers_after = refl; signed_after = rw (to_z-of_z f1, to_z-of_z f2, to_z-of_z f3) }
