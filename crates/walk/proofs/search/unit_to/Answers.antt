use Rattle.walk.proofs.Nexts.{marked, open-ended}
use Rattle.walk.proofs.search.unit_to.Goals as goal

pub returns-then-next-recording : goal.returns-then-next-recording
returns-then-next-recording c = let a = c.args in marked a.recording.now a.at a.next c.requires.1 c.if-next-recording.true

pub returns : goal.returns
returns c = let a = c.args in open-ended a.recording.now a.at a.next c.requires.1 c.trim-length.result c.if-next-recording.false c.trim-length.ensures
