use mathlib.Core.Path.{refl}
use Rattle.list_steps.proofs.step.broken.Goals as goal

pub returns : goal.returns
returns c = record { state = rw c.one_more.ensures; more = refl; text = c.broken_line-length.ensures; left = refl; table = refl }
