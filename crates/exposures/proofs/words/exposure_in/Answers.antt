use lib.IntN.{pos}
use lib.ListN.{get_or}
use mir.Facts.{to_z-of_z}
use mir.Syntax.{w64}
use mir.Val.{SFits}
use Rattle.exposures.specs.Words.{exposure_in}
use borrow.Author.Rules.{rules}
use Rattle.exposures.proofs.words.exposure_in.Goals as goal

pub returns : goal.returns
unfolding exposure_in
returns c =
    let f0 : SFits w64 (get_or c.args.levels.now 0 (pos 0)) = search rules in
    let f1 : SFits w64 (get_or c.args.levels.now 1 (pos 0)) = search rules in
    let f2 : SFits w64 (get_or c.args.levels.now 2 (pos 0)) = search rules in
    rw (to_z-of_z f0, to_z-of_z f1, to_z-of_z f2)
