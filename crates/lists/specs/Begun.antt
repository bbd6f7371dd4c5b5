-- The entries of a list that reading finds before the list ends or is refused: those that stand in lent words, whether the list is all there or not.
use Rattle.std.specs.Prelude.{ℕ, zero, suc, List, [], ◌∷◌, eqb}
use Rattle.bits.specs.Refusals.{Res, got, no, pick}
use Rattle.bits.specs.Bits.{Bits}
use Rattle.fmt.specs.Fmt.{Fmt}

-- what follows a value that was read: nothing after a refusal
abbrev pub after : {A B : Type 0} → Res A → (A → ℕ → List B) → List B
after (got a e) k = k a e
after (no r) k = []

-- of `times n F`
unfoldable pub times_begun : {A : Type 0} → ℕ → Fmt A → Bits → ℕ → List A
times_begun zero F s at = []
times_begun (suc n) F s at = after (F.read s at) (λ a e. a ∷ times_begun n F s e)

-- of `until C close G n`: an entry whose operands are refused is none
unfoldable pub until_begun : {A : Type 0} → Fmt ℕ → ℕ → (ℕ → Fmt A) → ℕ → Bits → ℕ → List (ℕ × A)
until_begun C close G zero s at = []
until_begun C close G (suc n) s at =
    after (C.read s at) (λ c e. pick (eqb c close) [] (after ((G c).read s e) (λ a d. (c, a) ∷ until_begun C close G n s d)))
