use Rattle.std.proofs.lemmas.Result.{err_from_is_err_and}
use mathlib.Core.Path.{sym}
use Rattle.weights.proofs.AtMost.{at-most-32}
use Rattle.weights.proofs.Stored.{stored-none, stored_refused, stored-all, stored_more}
use borrow.Author.Rules.{rules}
use Rattle.weights.proofs.weight_words.list_into.Goals as goal

pub loop-i-init : goal.loop-i-init
loop-i-init c = stored-none _ _ _ _ _ (rw c.at_most_32-count.ensures (at-most-32 c.args.n))

pub returns-in_err-w : goal.returns-in_err-w
returns-in_err-w c =
    let p = err_from_is_err_and c.from_residual.result c.from_residual.ensures.1 in
    let told = stored_refused _ _ _ _ _ c.loop-i.invariant (search rules) (sym c.in_err-w.ensures) in
    rw (p.1, p.2, ← c.at_most_32-count.ensures) (record { value = told.0; words_after = told.1 })

pub loop-i-preserved : goal.loop-i-preserved
loop-i-preserved c = stored_more _ _ _ _ _ c.loop-i.invariant (search rules) (sym c.in_ok-w.ensures) c.store.ensures

pub returns : goal.returns
returns c =
    let told = stored-all _ _ _ _ _ c.loop-i.invariant (search rules) in
    rw (← c.at_most_32-count.ensures) (record { value = told.0; words_after = told.1 })
