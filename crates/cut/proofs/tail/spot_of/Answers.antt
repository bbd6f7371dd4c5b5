use native.Mathlib.Omega.{arith}
use Prim.Native.Nat.{ℕ, ◌-◌}
use mathlib.Core.Path.{◌≡◌, sym, ap, ◌∙◌}
use lib.ListN.{length, get_or, drop}
use Rattle.escape.specs.Body.{body}
use lib.Seq.{drop-nil}
use Rattle.cut.proofs.Bytes.{zeros-few}
use Rattle.cut.proofs.Tails.{none_left, few-kept, passed, passed_on}
use borrow.Author.Rules.{rules}
use Rattle.cut.proofs.tail.spot_of.Goals as goal

pub loop-i-init : goal.loop-i-init
loop-i-init c = let e : c.args.k - 0 ≡ c.args.k = omega arith in (ap (λ (m : ℕ). drop m (body 0 (drop c.args.from c.args.unit.now))) e, omega arith, omega arith, omega arith)

pub returns-then-k-n : goal.returns-then-k-n
returns-then-k-n c = (passed c.args.k c.loop-i.n (body c.loop-i.zeros (drop c.loop-i.i c.args.unit.now)) c.if-k-n.true ∙ c.loop-i.invariant.0, omega arith)

pub loop-i-preserved : goal.loop-i-preserved
loop-i-preserved c =
    let l = c.loop-i in
    let u = c.args.unit.now in
    let f = zeros-few l.zeros (get_or u l.i 0) in
    let g = few-kept l.zeros (get_or u l.i 0) in
    let e = c.zeros_after-zeros.ensures in
    let k = c.kept-n.ensures in
    (passed_on u l.zeros l.i (search rules) c.args.k l.n (omega arith) c.kept-n.ensures c.zeros_after-zeros.ensures ∙ l.invariant.0, omega arith, omega arith, omega arith)

pub returns : goal.returns
returns c =
    let u = c.args.unit.now in
    let l = c.loop-i in
    (rw (none_left u l.zeros (length u) (omega arith)) (sym (drop-nil (c.args.k - l.n)) ∙ rw (none_left u l.zeros l.i (search rules)) at l.invariant.0), l.invariant.3)
