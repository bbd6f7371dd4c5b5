use borrow.Author.Rules.{rules}
use mir.Facts.{to_z-of_z}
use mir.Syntax.{w64}
use mir.Val.{SFits}
use Rattle.exposures.specs.Compare.{counts1}
use Rattle.exposures.proofs.compare.counts_1_differ.Goals as goal

pub returns : goal.returns
unfolding counts1
returns c =
    let f : SFits w64 c.args.a.delta_pic_order_cnt_0 = search (rules, c.struct_told-1.given.1.1.1.1.1.1.1.1.1) in
    let g : SFits w64 c.args.b.delta_pic_order_cnt_0 = search (rules, c.struct_told-2-1.given.1.1.1.1.1.1.1.1.1) in
    let h : SFits w64 c.args.a.delta_pic_order_cnt_1 = search (rules, c.struct_told-3-1.given.1.1.1.1.1.1.1.1.1) in
    let i : SFits w64 c.args.b.delta_pic_order_cnt_1 = search (rules, c.struct_told-4-1.given.1.1.1.1.1.1.1.1.1) in
    rw (c.both-2.ensures, c.both.ensures, c.either.ensures, c.signed.ensures, c.signed-2.ensures, to_z-of_z f, to_z-of_z g, to_z-of_z h, to_z-of_z i)
