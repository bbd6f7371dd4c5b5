use native.Mathlib.Omega.{arith}
use Rattle.scan.proofs.Clears.{clear-join}
use Rattle.scan.proofs.blocks.pass_over.Goals as goal

pub returns : goal.returns
returns c =
    let a = c.args in (
      omega arith,
      omega arith,
      clear-join a.mask a.flip a.s.now a.from c.pass_large-i.result c.pass_near.result c.pass_large-i.ensures.2 c.pass_near.ensures.2,
    )
