use mathlib.Core.Path.{ap, ◌∙◌}
use Rattle.escape.proofs.Bodies.{none-known, answered, leaves}
use Rattle.escape.proofs.escape.unescape.Goals as goal

pub returns : goal.returns
returns c =
    let a = c.args in
    let k = c.unescape_known.ensures in
    let e = none-known a.unit.now a.from a.scratch.now in
    record { value = k.value ∙ ap answered e; scratch_after = k.scratch_after ∙ ap leaves e }
