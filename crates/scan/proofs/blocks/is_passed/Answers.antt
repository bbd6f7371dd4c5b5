use Rattle.scan.proofs.Clears.{clear-quiet}
use Rattle.scan.proofs.blocks.is_passed.Goals as goal

pub returns-then-is_quiet : goal.returns-then-is_quiet
returns-then-is_quiet c h =
    let a = c.args in
    clear-quiet a.mask a.flip a.s.now a.i a.half (c.is_quiet.ensures c.if-is_quiet.true)
