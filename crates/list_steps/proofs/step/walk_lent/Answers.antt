use mathlib.Core.Path.{ap}
use Rattle.unit.specs.Into.{Lent}
use Rattle.list_steps.proofs.step.walk_lent.Goals as goal

pub returns-clause-met : goal.returns-clause-met
returns-clause-met c =
    let g = c.walk_by-walked.ensures.walked in
    record {
      step = g.step;
      answered = g.answered;
      numbers = ap (λ (w : Lent). w.header.numbers) g.words;
      signed = ap (λ (w : Lent). w.header.signed) g.words;
      left = g.left;
      table = g.table;
    }

pub returns-clause-words : goal.returns-clause-words
returns-clause-words c = c.walk_by-walked.ensures.walked.words
