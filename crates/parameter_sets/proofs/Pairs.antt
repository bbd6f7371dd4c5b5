-- A pair of codes, passed over, is two codes.
use Prim.Native.Nat.{ℕ, zero, suc, ◌*◌}
use mathlib.Core.Path.{◌≡◌, refl}
use native.Mathlib.Omega.{arith}
use Rattle.bits.specs.Refusals.{Res, got, no, bind}
use Rattle.bits.specs.Bits.{Bits}
use Rattle.fmt.specs.Fmt.{seq}
use Rattle.fmt.specs.Leaves.{ue}
use Rattle.fmt.specs.Reads.{found, next, passes}

-- after a pair, and after two codes, where what follows is the same
after_two : {B : Type 0} (s : Bits) (f g : ℕ → Res B) → ((d : ℕ) → f d ≡ g d) → (m : Res ℕ)
    → bind {A = ℕ × ℕ} (bind m (λ a e. bind (ue.read s e) (λ b d. got (a, b) d))) (λ x d. f d) ≡ bind m (λ a e. bind (ue.read s e) (λ b d. g d))
after_two s f g h (no r) = refl
after_two s f g h (got a e) = go (ue.read s e)
  where
    go : (m : Res ℕ) → bind {A = ℕ × ℕ} (bind m (λ b d. got (a, b) d)) (λ x d. f d) ≡ bind m (λ b d. g d)
    go (got b d) = h d
    go (no r) = refl

pub pairs : (n : ℕ) (s : Bits) (at : ℕ) → passes n (seq ue (λ a. ue)).read s at ≡ passes (2 * n) ue.read s at
unfolding passes next found seq
pairs zero s at = refl
pairs (suc n) s at =
    let e : 2 * suc n ≡ suc (suc (2 * n)) = omega arith in
    rw e (after_two s (passes n (seq ue (λ a. ue)).read s) (passes (2 * n) ue.read s) (λ d. pairs n s d) (ue.read s at))
