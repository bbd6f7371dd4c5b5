-- A run of codes, a step at a time: what a turn of the loop keeps, and what ends it.
use Rattle.std.proofs.Common.{◌≡◌, ℕ, suc, ◌+◌, ◌-◌, ◌%◌, ◌^◌, ◌<◌, ◌≤◌, add-one, arith}
use Rattle.bits.specs.declared.refusals.Refusal.{Refusal}
use Rattle.bits.specs.Refusals.{got, no}
use Rattle.bits.specs.Bits.{Bits}
use Rattle.bits.specs.Codes.{ue_at}
use Rattle.exports.specs.Runs.{packed, ue_run}

module _ (n : ℕ) (s : Bits) (p i sum whole : ℕ) (e : ue_run (n - i) s p i sum ≡ whole) where
  pub step : (v f : ℕ) → i < n → ue_at s p ≡ got v f → ue_run (n - (i + 1)) s f (i + 1) ((sum + v) % 2 ^ 32) ≡ whole
  unfolding ue_run
  step v f h g =
      let k : n - i ≡ suc (n - (i + 1)) = omega arith in
      rw (add-one i) (rw (k, g, add-one i) at e)

  pub stop : (r : Refusal) → i < n → ue_at s p ≡ no r → packed i sum ≡ whole
  unfolding ue_run
  stop r h g =
      let k : n - i ≡ suc (n - (i + 1)) = omega arith in
      rw (k, g) at e

  pub last : n ≤ i → packed i sum ≡ whole
  unfolding ue_run
  last h =
      let k : n - i ≡ 0 = omega arith in
      rw k at e
