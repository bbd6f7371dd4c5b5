use Rattle.walk.proofs.Kept.{long-short}
use Rattle.walk.proofs.headers.front_in_turn.Goals as goal

pub returns-clause-turned : goal.returns-clause-turned
returns-clause-turned c =
    let g = c.read_headers-answer.ensures.read in
    record { answered = g.answered; left = g.left; table = long-short _ _ g.answered c.keep_set.ensures; words = g.words }
