use Rattle.scan.proofs.Clears.{trace-zero}
use Rattle.scan.proofs.blocks.trace.Goals as goal

pub returns : goal.returns
returns c = trace-zero
