use native.Mathlib.Omega.{arith}
use mathlib.Core.Path.{sym}
use Rattle.bits.proofs.Reading.{ue-past, fixed_out}
use Rattle.bits.proofs.Results.{cases}
use borrow.Author.Rules.{rules}
use Rattle.bits.proofs.read.slow.Goals as goal

pub returns-then-m-at : goal.returns-then-m-at
returns-then-m-at c =
    let a = c.args in
    rw c.refuse_at.ensures
    (cases a.code
    (λ e. rw e (sym (ue-past a.s.now a.at (omega arith))))
    (λ e. rw e (sym (fixed_out a.s.now a.at a.n (omega arith)))))

pub last_bits-requires : goal.last_bits-requires
last_bits-requires c = search rules

pub returns-then-code : goal.returns-then-code
returns-then-code c = rw c.if-code.true c.code_in.ensures

pub returns-else-code : goal.returns-else-code
returns-else-code c = rw c.if-code.false c.fixed_in.ensures
