use Rattle.std.proofs.Common.{◌≡◌, sym, ap, ◌∙◌, arith}
use Rattle.exports.proofs.Runs.{step, stop, last}
use Rattle.exports.proofs.ue_run.tuz_ue_run.Goals as goal
use Rattle.bits.specs.Answers.{as_read}

pub returns-in_default : goal.returns-in_default
returns-in_default c =
    c.pack.ensures ∙ stop _ _ _ _ _ _ c.loop-i.invariant _ (omega arith) (sym c.ue.ensures ∙ ap as_read c.in_default.is)

pub loop-i-preserved : goal.loop-i-preserved
loop-i-preserved c =
    rw c.wrapping_add_u32-sum.ensures.value (step _ _ _ _ _ _ c.loop-i.invariant _ _ (omega arith) (sym c.ue.ensures ∙ ap as_read c.in-Ok.is))

pub returns : goal.returns
returns c =
    let q : c.loop-i.i ≡ c.args.n = omega arith in
    c.pack-2.ensures ∙ rw q at (last _ _ _ _ _ _ c.loop-i.invariant (omega arith))
