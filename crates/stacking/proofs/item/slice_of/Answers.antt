use borrow.Author.Rules.{rules}
use lib.IntN.{pos}
use lib.ListN.{get_or}
use mir.Facts.{to_z-of_z}
use mir.Syntax.{w32, w64}
use mir.Val.{SFits}
use Rattle.table.proofs.Signs.{wide_fits, wide_is}
use Rattle.record.specs.Fields.{order_count_from, quantiser_from}
use Rattle.lines.specs.Level.{init_qp, final_qp}
use Rattle.record.specs.Record.{header_from}
use Rattle.syntax.specs.Context.{picture_for, sequence_id_for, sequence_for}
use Rattle.stacking.specs.Item.{slice_of}
use Rattle.stacking.proofs.item.slice_of.Goals as goal

pub overflow_cast-bottom : goal.overflow_cast-bottom
overflow_cast-bottom c =
    let f : SFits w32 (get_or c.args.signed.now 0 (pos 0)) = search rules in
    wide_fits f

pub overflow_cast-first : goal.overflow_cast-first
overflow_cast-first c =
    let f : SFits w32 (get_or c.args.signed.now 1 (pos 0)) = search rules in
    wide_fits f

pub overflow_cast-second : goal.overflow_cast-second
overflow_cast-second c =
    let f : SFits w32 (get_or c.args.signed.now 2 (pos 0)) = search rules in
    wide_fits f

pub returns : goal.returns
unfolding slice_of header_from order_count_from quantiser_from final_qp init_qp sequence_for sequence_id_for picture_for
returns c =
    let v : SFits w64 c.level-qp.result = record { sfits = c.level-qp.type_inv } in
    let i : SFits w32 c.named-p.result.pic_init_qp_minus26 = search rules in
    let d : SFits w32 (get_or c.args.signed.now 3 (pos 0)) = search rules in
    let x : SFits w32 (get_or c.args.signed.now 0 (pos 0)) = search rules in
    let y : SFits w32 (get_or c.args.signed.now 1 (pos 0)) = search rules in
    let z : SFits w32 (get_or c.args.signed.now 2 (pos 0)) = search rules in
    rw (to_z-of_z v, c.level-qp.ensures, to_z-of_z i, to_z-of_z d, wide_is x, wide_is y, wide_is z, c.frame_of-f.ensures, c.sequence_of-s.ensures, c.named-p.ensures.0, c.named-p.ensures.1)
