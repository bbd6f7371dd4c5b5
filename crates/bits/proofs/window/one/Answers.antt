use mathlib.Core.Path.{sym, ◌∙◌}
use Rattle.bits.proofs.Windows.{bits-byte}
use Rattle.bits.proofs.window.one.Goals as goal

pub returns : goal.returns
returns c =
    let a = c.args in
    c.wide.ensures ∙ sym (bits-byte a.s.now a.i (c.type_inv.s a.i).fits)
