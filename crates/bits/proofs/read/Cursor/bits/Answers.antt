use native.Mathlib.Omega.{arith}
use mathlib.Core.Path.{sym, ◌∙◌}
use native.Mathlib.Nat.{lt_of_le_of_lt}
use borrow.Author.Tests.{le-leb}
use lib.Pow.{shr_le}
use Rattle.bits.specs.Bits.{bits_of}
use Rattle.bits.proofs.Slices.{reached-le}
use Rattle.bits.proofs.Reading.{fixed-near}
use Rattle.bits.proofs.read.Cursor.bits.Goals as goal

pub overflow_cast-result-then-at-reached : goal.overflow_cast-result-then-at-reached
overflow_cast-result-then-at-reached c = record { fits = lt_of_le_of_lt (shr_le _ _) (omega arith) }

pub returns-then-at-reached : goal.returns-then-at-reached
returns-then-at-reached c =
    let a = c.args in
    rw (le-leb a.n 32 (omega arith))
    (sym (fixed-near a.s.now a.self.at _ _ c.reached.ensures (omega arith) c.short_window-w.ensures a.n (omega arith)))

pub slow-requires : goal.slow-requires
slow-requires c = (reached-le _ c.args.s.now c.within.ensures, c.field_width.ensures.1)

pub returns : goal.returns
unfolding bits_of
returns c = c.slow.ensures ∙ rw (c.within.ensures, c.field_width.ensures.0)
