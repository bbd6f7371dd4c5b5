use native.Mathlib.Omega.{arith}
use Rattle.lines.proofs.Texts.{copied-text}
use Rattle.lines.proofs.text.words.Goals as goal

pub returns : goal.returns
returns c =
    let a = c.args in
    copied-text a.d.now a.w.now a.at (omega arith) c.copy_in.ensures.value c.copy_in.ensures.dst_after
