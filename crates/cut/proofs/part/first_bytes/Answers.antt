use mathlib.Core.Path.{sym}
use lib.Seq.{length-take-le}
use Rattle.cut.proofs.Firsts.{first_read, first-none}
use Rattle.cut.proofs.part.first_bytes.Goals as goal

pub slice_bounds-unescape-end : goal.slice_bounds-unescape-end
slice_bounds-unescape-end c = sym (length-take-le _ _ c.requires.0)

pub returns-in-Ok : goal.returns-in-Ok
returns-in-Ok c =
    let a = c.args in
    let e = first_read a.unit.now a.from a.end a.local.now c.requires.0 c.requires.1.0 c.requires.1.1 c.unescape.ensures.value c.unescape.ensures.scratch_after c.in-Ok.is in
    record { value = e.0; local_after = e.1 }

pub returns-in-Err : goal.returns-in-Err
returns-in-Err c = absurd (first-none c.args.unit.now c.args.from c.args.end c.args.local.now c.requires.0 c.requires.1.0 c.requires.1.1 c.unescape.ensures.value c.in-Err.is)
