use native.Mathlib.Omega.{arith}
use Rattle.bits.proofs.Windows.{long-law}
use Rattle.bits.proofs.window.long_window.Goals as goal

pub returns : goal.returns
returns c =
    let a = c.args in
    long-law 64 a.s.now a.at _ _ _ (omega arith) (omega arith) c.gather.ensures c.one_or_zeros.ensures
