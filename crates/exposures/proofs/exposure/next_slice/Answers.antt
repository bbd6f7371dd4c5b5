use borrow.Author.Rules.{rules}
use mir.Facts.{to_z-of_z}
use mir.Syntax.{w64}
use mir.Val.{SFits}
use Rattle.exposures.specs.Exposure.{more}
use Rattle.exposures.proofs.exposure.next_slice.Goals as goal

pub returns : goal.returns
unfolding more
returns c =
    let q : SFits w64 c.args.s.qp = search (rules, c.struct_told-2-1.given) in
    let l : SFits w64 c.args.e.qp_least = search (rules, c.struct_told-1.given) in
    let g : SFits w64 c.args.e.qp_greatest = search (rules, c.struct_told-3-1.given) in
    let s : SFits w64 c.args.e.qp_sum = search (rules, c.struct_told-5-1.given) in
    let l' : SFits w64 c.lesser_of.result = record { sfits = c.lesser_of.type_inv } in
    let g' : SFits w64 c.greater_of.result = record { sfits = c.greater_of.type_inv } in
    let s' : SFits w64 c.sum_of.result = record { sfits = c.sum_of.type_inv } in
    rw (to_z-of_z l', to_z-of_z g', to_z-of_z s', c.one_more.ensures, c.lesser_of.ensures, c.greater_of.ensures, c.sum_of.ensures, to_z-of_z q, to_z-of_z l, to_z-of_z g, to_z-of_z s)
