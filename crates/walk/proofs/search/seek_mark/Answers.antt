use native.Mathlib.Omega.{arith}
use mathlib.Core.Path.{sym, ◌∙◌}
use lib.ListN.{drop}
use Rattle.walk.proofs.Hits.{upto-hit}
use Rattle.walk.proofs.Scans.{same-hit, sought}
use Rattle.walk.proofs.search.seek_mark.Goals as goal

pub returns-then-hit_at : goal.returns-then-hit_at
returns-then-hit_at c =
    let a = c.args in
    let z = upto-hit 0 (drop a.from a.s.now) (sym (c.hit_at.ensures ∙ same-hit 0 (drop a.from a.s.now)) ∙ c.if-hit_at.true) in
    omega arith

pub returns : goal.returns
returns c = let a = c.args in sought 0 a.s.now a.from c.seek.result c.seek.ensures
