use mathlib.Core.Path.{◌∙◌}
use Rattle.std.proofs.lemmas.Result.{err_from_is_err_and}
use Rattle.parameter_sets.proofs.ScalingLists.{lists-no, lists-more}
use Rattle.parameter_sets.proofs.scaling.scaling_lists.Goals as goal

pub returns-in_err-at : goal.returns-in_err-at
returns-in_err-at c =
    let p = err_from_is_err_and c.from_residual.result c.from_residual.ensures.1 in
    rw (p.1, p.2) (lists-no _ _ _ _ c.loop-i-test.true c.in_err-at.ensures ∙ c.loop-i.invariant)

pub loop-i-preserved : goal.loop-i-preserved
loop-i-preserved c = lists-more _ _ _ _ c.loop-i-test.true c.in_ok-at.ensures ∙ c.loop-i.invariant
