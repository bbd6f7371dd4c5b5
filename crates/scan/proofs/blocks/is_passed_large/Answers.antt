use Rattle.scan.proofs.Clears.{clear-quiet}
use Rattle.scan.proofs.blocks.is_passed_large.Goals as goal

pub returns-then-is_calm : goal.returns-then-is_calm
returns-then-is_calm c h =
    let a = c.args in
    clear-quiet a.mask a.flip a.s.now a.i 64 (c.is_calm.ensures c.if-is_calm.true)
