use native.Mathlib.Omega.{arith}
use mathlib.Core.Path.{refl}
use Prim.Native.Nat.{◌+◌}
use Rattle.walk.proofs.Hits.{code-room}
use Rattle.walk.proofs.Scans.{sought-on}
use Rattle.walk.proofs.Nexts.{none_from, first-there}
use Rattle.walk.proofs.Seen.{stop-room, seen_none, seen-there}
use Rattle.walk.proofs.search.next_seen.Goals as goal

pub returns-then-n-from : goal.returns-then-n-from
returns-then-n-from c = let a = c.args in seen_none a.recording.now a.from (none_from a.recording.now a.from _ refl (omega arith))

pub returns-then-n-at : goal.returns-then-n-at
returns-then-n-at c = let a = c.args in seen_none a.recording.now a.from (none_from a.recording.now a.from c.seek_start-at.result c.seek_start-at.ensures c.if-n-at.true)

pub seek_mark-next-requires : goal.seek_mark-next-requires
seek_mark-next-requires c =
    let a = c.args in
    stop-room a.recording.now (c.seek_start-at.result + 3) c.seek-stop.result (code-room a.recording.now a.from c.seek_start-at.result c.seek_start-at.ensures c.if-n-at.false) c.seek-stop.ensures

pub unit_to-requires : goal.unit_to-requires
unit_to-requires c =
    let a = c.args in
    let at = c.seek_start-at.result in
    let r = code-room a.recording.now a.from at c.seek_start-at.ensures c.if-n-at.false in
    (r, sought-on a.recording.now (at + 3) c.seek-stop.result c.seek_mark-next.result r c.seek-stop.ensures c.seek_mark-next.ensures)

pub returns : goal.returns
returns c =
    let a = c.args in
    let at = c.seek_start-at.result in
    seen-there a.recording.now a.from at c.seek-stop.result c.seek-stop.ensures c.unit_to.ensures (first-there a.recording.now a.from at c.seek_start-at.ensures c.if-n-at.false)
