use Rattle.std.proofs.Common.{◌≡◌, ◌-◌}
use Rattle.bits.specs.Bits.{bits_of}
use Rattle.exports.specs.Runs.{ue_run}
use Rattle.exports.proofs.ue_run.tuz_ue_run.Given as goal

-- The invariant: what is left of the run, from here on, is the whole run.
abbrev pub invariant-loop-i : goal.invariant-loop-i
invariant-loop-i l = ue_run (l.n - l.i) (bits_of l.s) l.c.at l.i l.sum ≡ ue_run l.n (bits_of l.s) 0 0 0
