use lib.IntN.{pos}
use lib.ListN.{get_or}
use mir.Facts.{to_z-of_z}
use mir.Syntax.{w64}
use mir.Val.{SFits}
use Rattle.exposures.specs.Words.{last_in}
use borrow.Author.Rules.{rules}
use Rattle.exposures.proofs.words.last_in.Goals as goal

pub returns : goal.returns
unfolding last_in
returns c =
    let f3 : SFits w64 (get_or c.args.levels.now 3 (pos 0)) = search rules in
    let f4 : SFits w64 (get_or c.args.levels.now 4 (pos 0)) = search rules in
    let f5 : SFits w64 (get_or c.args.levels.now 5 (pos 0)) = search rules in
    let f6 : SFits w64 (get_or c.args.levels.now 6 (pos 0)) = search rules in
    rw (to_z-of_z f3, to_z-of_z f4, to_z-of_z f5, to_z-of_z f6)
