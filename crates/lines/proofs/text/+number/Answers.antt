use native.Mathlib.Omega.{arith}
use native.Mathlib.Nat.{div-lt_self}
use lib.Dec.{lit<}
use Rattle.lines.proofs.Decimals.{decimal-small, decimal-more, length-small, length_more}
use Rattle.lines.proofs.Texts.{byte, then}
use Rattle.lines.proofs.text.+number.Goals as goal

pub bounds-d-at : goal.bounds-d-at
bounds-d-at t c = omega (arith, length-small c.args.n c.if-n-lt10.true)

pub returns-then-n-lt10 : goal.returns-then-n-lt10
returns-then-n-lt10 t c = rw (decimal-small c.args.n c.if-n-lt10.true) (byte c.args.d.now c.args.at _)

pub number-last-requires : goal.number-last-requires
number-last-requires t c =
    let n = c.args.n in
    (omega (arith, c.decreases, div-lt_self {n = n} {k = 10} (omega arith) (lit< tt)), omega (arith, c.requires, length_more n c.if-n-lt10.false))

pub bounds-d-last : goal.bounds-d-last
bounds-d-last t c = omega (arith, c.number-last.ensures.end, c.requires, length_more c.args.n c.if-n-lt10.false)

pub overflow_add-result-2 : goal.overflow_add-result-2
overflow_add-result-2 t c = record { fits = omega (arith, c.number-last.ensures.end, c.requires, length_more c.args.n c.if-n-lt10.false) }

pub returns : goal.returns
returns t c = rw (decimal-more c.args.n c.if-n-lt10.false) (then c.number-last.ensures (byte c.number-last.new.d c.number-last.result _))
