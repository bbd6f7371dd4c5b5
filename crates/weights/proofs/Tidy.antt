-- The words of the weights over zeros: as lists' own.
use Prim.Native.Nat.{ℕ, ◌*◌, ◌≤◌}
use mathlib.Core.Path.{◌≡◌, refl, ap, ◌∙◌}
use native.Mathlib.Omega.{arith}
use borrow.Author.Tests.{le-leb}
use lib.Dec.{T}
use lib.IntN.{pos}
use lib.ListN.{length, take, replicate}
use lib.Seq.{sets}
use Rattle.fmt.specs.Arrays.{pad, padded}
use Rattle.fmt.proofs.Arrays.{padded-le, length-unpad}
use Rattle.syntax.specs.declared.record.WeightList.{WeightList}
use Rattle.syntax.specs.SliceHeader.{is_no_weight}
use Rattle.weights.specs.Counts.{at_most32}
use Rattle.weights.specs.WeightsLent.{entry_words, weight_words, emptied_weights}
use Rattle.lists.proofs.Fronts.{length-flat}
use Rattle.lists.proofs.Tidy.{over_zeros, zeros-again}

module _ (w : WeightList) (t : T (padded is_no_weight 32 w.count w.entries)) where
  few-weights : w.count ≤ 32
  few-weights = (padded-le is_no_weight 32 w.count w.entries t).0

  weights-length : length (weight_words w) ≡ 8 * w.count
  unfolding weight_words
  weights-length =
      length-flat entry_words 8 (λ _. refl) (take w.count w.entries) ∙ ap (λ (k : ℕ). 8 * k) (length-unpad is_no_weight 32 w.count w.entries t)

  weights-fit : length (weight_words w) ≤ 256
  weights-fit = omega (arith, weights-length, few-weights)

  weighed : at_most32 w.count ≡ w.count
  unfolding at_most32
  weighed = rw (le-leb w.count 32 few-weights)

  pub weights-padded : sets (replicate 256 (pos 0)) 0 (weight_words w) ≡ pad (pos 0) 256 (weight_words w)
  weights-padded = over_zeros (pos 0) 256 (weight_words w) weights-fit

  pub weights-emptied : emptied_weights w.count (sets (replicate 256 (pos 0)) 0 (weight_words w)) ≡ replicate 256 (pos 0)
  unfolding emptied_weights
  weights-emptied = rw weighed (zeros-again (pos 0) 256 (weight_words w) weights-fit (8 * w.count) weights-length)
