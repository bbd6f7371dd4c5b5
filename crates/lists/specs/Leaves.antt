-- What reading leaves in lent words.
use Rattle.std.specs.Prelude.{◌≡◌, ℕ, ◌≤◌, List, ◌++◌, length}
use Rattle.std.proofs.lemmas.List.Edits.{sets}
use Rattle.bits.specs.Refusals.{Res, got, no}
use Rattle.bits.specs.Bits.{Bits}
use Rattle.fmt.specs.Fmt.{Fmt}

module _ {A B : Type 0} where
  -- what was read is written over the front of the words, which are otherwise as before; beside a refusal they are zeros
  unfoldable pub leaves : List B → (A → List B) → Res A → List B → List B
  leaves zeros words (got a e) before = sets before 0 (words a)
  leaves zeros words (no r) before = zeros

  -- private contracts: what reading a longer input at the same place would write is written over the words as they were before just as over what was left in them
  unfoldable pub Covered : (A → List B) → Fmt A → Bits → ℕ → (before after : List B) → Type 0
  Covered words F s at before after = at ≤ length s → (t : Bits) (a : A) (e : ℕ) → F.read (s ++ t) at ≡ got a e → sets after 0 (words a) ≡ sets before 0 (words a)
