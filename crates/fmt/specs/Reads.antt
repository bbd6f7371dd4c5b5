-- Reading alone: for syntax structures that are never written, and of which most elements are passed over.
use Rattle.std.specs.Prelude.{ℕ, zero, suc, Bool}
use Rattle.bits.specs.Refusals.{Res, got, bind, pick}
use Rattle.bits.specs.Bits.{Bits}

-- what reading finds at a place of the bits
abbrev pub Reads : Type 0 → Type 0
Reads A = Bits → ℕ → Res A

-- no bits
unfoldable pub found : {A : Type 0} → A → Reads A
found a s at = got a at

-- first F, then what follows its value
unfoldable pub next : {A B : Type 0} → Reads A → (A → Reads B) → Reads B
next F G s at = bind (F s at) (λ a e. G a s e)

-- there only if b; else z
unfoldable pub read_if : {A : Type 0} → Bool → A → Reads A → Reads A
read_if b z F = pick b F (found z)

-- n of F, one after the other, passed over
unfoldable pub passes : {A : Type 0} → ℕ → Reads A → Reads (Unit {0})
passes zero F = found tt
passes (suc n) F = next F (λ a. passes n F)
