use native.Mathlib.Omega.{arith}
use mathlib.Core.Path.{refl, ap, ◌∙◌}
use Prim.Native.Nat.{◌+◌}
use Rattle.std.specs.Prelude.{Some}
use Rattle.walk.proofs.Hits.{code-room}
use Rattle.walk.proofs.Scans.{sought}
use Rattle.walk.proofs.Nexts.{none_from, first-there}
use Rattle.walk.proofs.search.next_unit.Goals as goal

pub returns-then-n-from : goal.returns-then-n-from
returns-then-n-from c = let a = c.args in none_from a.recording.now a.from _ refl (omega arith)

pub returns-then-n-at : goal.returns-then-n-at
returns-then-n-at c = let a = c.args in none_from a.recording.now a.from c.seek_start-at.result c.seek_start-at.ensures c.if-n-at.true

pub unit_to-requires : goal.unit_to-requires
unit_to-requires c =
    let a = c.args in
    let at = c.seek_start-at.result in
    (code-room a.recording.now a.from at c.seek_start-at.ensures c.if-n-at.false, sought 0 a.recording.now (at + 3) c.seek-next.result c.seek-next.ensures)

pub returns : goal.returns
returns c = let a = c.args in ap Some c.unit_to.ensures ∙ first-there a.recording.now a.from c.seek_start-at.result c.seek_start-at.ensures c.if-n-at.false
