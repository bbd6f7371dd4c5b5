use Rattle.std.proofs.Common.{to_z-of_z, w64, SFits, rules, eq-eqb, ne_eqb}
use Rattle.exports.specs.Heads.{head_heard}
use Rattle.exports.proofs.heads.hear_head.Goals as goal

pub returns-then-out-eq0 : goal.returns-then-out-eq0
unfolding head_heard
returns-then-out-eq0 c = rw (eq-eqb c.args.out.number 0 c.if-out-eq0.true)

pub returns : goal.returns
unfolding head_heard
returns c =
    let o = c.args.out in
    let f : SFits w64 c.args.out.value = search rules in
    let e = rw (to_z-of_z f) at c.refuse.ensures in
    rw (ne_eqb o.number 0 c.if-out-eq0.false, e)
