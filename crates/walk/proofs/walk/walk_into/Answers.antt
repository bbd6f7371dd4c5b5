use mathlib.Core.Path.{sym}
use native.Mathlib.Omega.{arith}
use Prim.Native.Nat.{◌+◌, ◌-◌}
use Rattle.unit.specs.Unit.{unit_read}
use Rattle.walk.proofs.Chain.{went}
use Rattle.walk.proofs.Seen.{found_in, clear_in_lem, seen_turned}
use Rattle.walk.proofs.Steps.{step-over, step-found, walked_at, none-into, unit-into}
use Rattle.walk.proofs.walk.walk_into.Goals as goal

pub returns-then-n-gt-LIMIT-clause-walked : goal.returns-then-n-gt-LIMIT-clause-walked
returns-then-n-gt-LIMIT-clause-walked c = rw (walked_at _ _ _ _ (sym (step-over _ _ c.if-n-gt-LIMIT.true)), c.refuse.ensures) (none-into unit_read _ c.args.recording.now _ _ (λ p l n e. cc) _)

pub returns-in_default-clause-walked : goal.returns-in_default-clause-walked
returns-in_default-clause-walked c = rw (walked_at _ _ _ _ (sym (step-found _ _ c.if-n-gt-LIMIT.false (found_in _ _ c.next_seen-seen.ensures c.in_default.is)))) (none-into unit_read _ c.args.recording.now _ _ (λ p l n e. cc) _)

-- what the search found
pub overflow_add-end : goal.overflow_add-end
overflow_add-end c = let w = went _ _ _ (found_in _ _ c.next_seen-seen.ensures c.in-Some.is) in omega arith

pub slice_bounds-body_in_turn-end : goal.slice_bounds-body_in_turn-end
slice_bounds-body_in_turn-end c = let w = went _ _ _ (found_in _ _ c.next_seen-seen.ensures c.in-Some.is) in omega arith

pub returns-clause-walked : goal.returns-clause-walked
returns-clause-walked c =
    let s = c.args.recording.now in
    let p = c.in-Some.u.place in
    let e = found_in _ _ c.next_seen-seen.ensures c.in-Some.is in
    rw (walked_at _ _ _ _ (sym (step-found _ _ c.if-n-gt-LIMIT.false e)))
    (unit-into _ _ _ _ (seen_turned s p (p + c.in-Some.u.length - p) (clear_in_lem s _ c.next_seen-seen.ensures e) c.body_in_turn-answer.ensures.turned))
