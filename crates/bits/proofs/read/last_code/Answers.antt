use native.Mathlib.Omega.{arith}
use mathlib.Core.Path.{sym}
use lib.Count.{leading_le}
use Rattle.bits.proofs.Reading.{last-pos, ue-last, ue-last-short}
use Rattle.bits.proofs.read.last_code.Goals as goal

pub overflow_cast-size : goal.overflow_cast-size
overflow_cast-size c = omega (arith, leading_le 32 c.args.w)

pub overflow_mul-size : goal.overflow_mul-size
overflow_mul-size c = omega (arith, leading_le 32 c.args.w)

pub overflow_add-size : goal.overflow_add-size
overflow_add-size c = omega (arith, leading_le 32 c.args.w)

pub overflow_sub-result-then-size-left : goal.overflow_sub-result-then-size-left
overflow_sub-result-then-size-left c =
    let a = c.args in
    last-pos a.s.now a.at a.w c.requires.3 c.requires.2 (omega arith)

pub returns-then-size-left : goal.returns-then-size-left
returns-then-size-left c =
    let a = c.args in
    sym (ue-last a.s.now a.at a.w c.requires.3 c.requires.2 (omega arith))

pub returns : goal.returns
returns c =
    let a = c.args in
    rw c.refuse_at.ensures (sym (ue-last-short a.s.now a.at a.w c.requires.3 c.requires.2 c.requires.1 (omega arith)))
