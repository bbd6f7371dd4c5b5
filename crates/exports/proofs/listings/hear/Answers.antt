use Rattle.std.proofs.Common.{to_z-of_z, eq-eqb, ne_eqb}
use Rattle.exports.specs.Listings.{heard}
use Rattle.exports.proofs.listings.hear.Goals as goal

pub returns-then-answer-eq0 : goal.returns-then-answer-eq0
unfolding heard
returns-then-answer-eq0 c = rw (eq-eqb c.args.answer 0 c.if-answer-eq0.true)

pub returns-then-answer-eq1 : goal.returns-then-answer-eq1
unfolding heard
returns-then-answer-eq1 c = rw (ne_eqb c.args.answer 0 c.if-answer-eq0.false, eq-eqb c.args.answer 1 c.if-answer-eq1.true)

pub returns-then-answer-eq2 : goal.returns-then-answer-eq2
unfolding heard
returns-then-answer-eq2 c = rw (ne_eqb c.args.answer 0 c.if-answer-eq0.false, ne_eqb c.args.answer 1 c.if-answer-eq1.false, eq-eqb c.args.answer 2 c.if-answer-eq2.true, c.no_prefix.ensures)

pub returns-then-answer-eq4 : goal.returns-then-answer-eq4
unfolding heard
returns-then-answer-eq4 c =
    rw (ne_eqb c.args.answer 0 c.if-answer-eq0.false, ne_eqb c.args.answer 1 c.if-answer-eq1.false, ne_eqb c.args.answer 2 c.if-answer-eq2.false, eq-eqb c.args.answer 4 c.if-answer-eq4.true, c.no_sequence.ensures)

pub returns-then-answer-eq5 : goal.returns-then-answer-eq5
unfolding heard
returns-then-answer-eq5 c =
    rw (ne_eqb c.args.answer 0 c.if-answer-eq0.false, ne_eqb c.args.answer 1 c.if-answer-eq1.false, ne_eqb c.args.answer 2 c.if-answer-eq2.false, ne_eqb c.args.answer 4 c.if-answer-eq4.false, eq-eqb c.args.answer 5 c.if-answer-eq5.true, c.no_picture.ensures)

pub returns : goal.returns
unfolding heard
returns c =
    rw (to_z-of_z c.ranges.value, ne_eqb c.args.answer 0 c.if-answer-eq0.false, ne_eqb c.args.answer 1 c.if-answer-eq1.false, ne_eqb c.args.answer 2 c.if-answer-eq2.false, ne_eqb c.args.answer 4 c.if-answer-eq4.false, ne_eqb c.args.answer 5 c.if-answer-eq5.false)
