use native.Mathlib.Omega.{arith}
use mathlib.Core.Path.{sym, ◌∙◌}
use Prim.Native.Nat.{◌+◌}
use lib.ListN.{drop}
use Rattle.walk.proofs.Hits.{upto-hit, upto-miss}
use Rattle.walk.proofs.Scans.{same-hit, sought}
use Rattle.walk.proofs.search.seek_start.Goals as goal

pub returns-then-s-from-lt4 : goal.returns-then-s-from-lt4
returns-then-s-from-lt4 c = let a = c.args in sought 1 a.s.now a.from c.seek.result c.seek.ensures

pub returns-then-hit_at : goal.returns-then-hit_at
returns-then-hit_at c =
    let a = c.args in
    let z = upto-hit 1 (drop a.from a.s.now) (sym (c.hit_at.ensures ∙ same-hit 1 (drop a.from a.s.now)) ∙ c.if-hit_at.true) in
    omega arith

pub returns-then-hit_at-2 : goal.returns-then-hit_at-2
returns-then-hit_at-2 c =
    let a = c.args in
    let m = upto-miss 1 a.s.now a.from (omega arith) (sym (c.hit_at.ensures ∙ same-hit 1 (drop a.from a.s.now)) ∙ c.if-hit_at.false) in
    let z = upto-hit 1 (drop (a.from + 1) a.s.now) (sym (c.hit_at-2.ensures ∙ same-hit 1 (drop (a.from + 1) a.s.now)) ∙ c.if-hit_at-2.true) in
    omega arith

pub returns : goal.returns
returns c =
    let a = c.args in
    let m = upto-miss 1 a.s.now a.from (omega arith) (sym (c.hit_at.ensures ∙ same-hit 1 (drop a.from a.s.now)) ∙ c.if-hit_at.false) in
    sought 1 a.s.now (a.from + 1) c.seek-2.result c.seek-2.ensures ∙ sym m
