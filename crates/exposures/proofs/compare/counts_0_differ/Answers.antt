use borrow.Author.Rules.{rules}
use mir.Facts.{to_z-of_z}
use mir.Syntax.{w64}
use mir.Val.{SFits}
use Rattle.exposures.specs.Compare.{counts0}
use Rattle.exposures.proofs.compare.counts_0_differ.Goals as goal

pub returns : goal.returns
unfolding counts0
returns c =
    let f : SFits w64 c.args.a.delta_pic_order_cnt_bottom = search (rules, c.struct_told-1.given.1.1.1.1.1.1.1.1.1) in
    let g : SFits w64 c.args.b.delta_pic_order_cnt_bottom = search (rules, c.struct_told-2-1.given.1.1.1.1.1.1.1.1.1) in
    rw (c.both-2.ensures, c.both.ensures, c.either.ensures, c.numbers.ensures, c.signed.ensures, to_z-of_z f, to_z-of_z g)
