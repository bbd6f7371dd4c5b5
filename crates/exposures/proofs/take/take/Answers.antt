use mathlib.Core.Path.{sym, ap, ◌∙◌}
use Rattle.exposures.specs.Take.{unit_taken}
use Rattle.exposures.specs.Words.{words, words_of}
use Rattle.exposures.proofs.Laid.{as-slice, as-unit}
use Rattle.exposures.proofs.take.take.Goals as goal

pub returns-in-Slice : goal.returns-in-Slice
returns-in-Slice c =
    let e = as-slice _ c.in-Slice.is c.counts.ensures c.count-c.ensures in
    (c.take_slice.ensures.0 ∙ ap (λ t. t.closed) (sym e), c.take_slice.ensures.1 ∙ ap (λ t. words_of t.state) (sym e))

pub returns-in-Unit : goal.returns-in-Unit
unfolding unit_taken
returns-in-Unit c =
    let a = c.args in
    let e = as-unit (words a.sizes.now a.numbers.now a.levels.now) c.in-Unit.is c.counts.ensures c.count-c.ensures in
    (ap (λ t. t.closed) (sym e), c.take_unit.ensures ∙ ap (λ t. words_of t.state) (sym e))
