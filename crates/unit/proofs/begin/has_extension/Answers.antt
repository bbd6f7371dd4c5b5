use mathlib.Core.Path.{ap, ◌∙◌}
use mathlib.Core.Bool.{◌||◌}
use lib.Dec.{eqb}
use Rattle.unit.proofs.begin.has_extension.Goals as goal

pub returns : goal.returns
returns c = c.either-2.ensures ∙ ap (λ b. eqb c.args.t 14 || b) c.either.ensures
