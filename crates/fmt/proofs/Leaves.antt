-- The formats of single fields are lawful.
use Prim.Native.Nat.{ℕ, zero, suc, ◌+◌, ◌<◌, ◌^◌}
use mathlib.Core.Path.{◌≡◌, refl, ap, sym, ◌∙◌, subst, subst⁻¹}
use mathlib.Core.Bool.{Bool, true, false}
use native.Mathlib.Omega.{arith}
use lib.Dec.{T, ltb→lt}
use lib.ListN.{length}
use Rattle.bits.specs.Refusals.{got}
use Rattle.bits.specs.Bits.{Bits}
use Rattle.bits.specs.Codes.{width_of, is_set, bit_of, se_of, se_code, se_good}
use Rattle.bits.proofs.Digits.{length_digits}
use Rattle.bits.proofs.Codes.{Found, fixed_back, fixed-exact, ue-back, ue-exact, se-code, code-se, se-good}
use Rattle.fmt.specs.Fmt.{Fmt, shaped}
use Rattle.fmt.specs.Leaves.{flag, u, ue, se}
use Rattle.fmt.proofs.Lawful.{Exact, Lawful}
use Rattle.fmt.proofs.Combinators.{shaped-lawful}

-- what the codes' laws find is what was read
found : {A : Type 0} {F : Fmt A} {p t : Bits} {a : A} {e : ℕ} → Found (F.good a) (F.bits a) p t e → Exact F p t a e
found x = record { rest = x.rest; split = x.split; place = x.place; is-good = x.is-good }

pub u_lawful : (n : ℕ) → Lawful (u n)
unfolding u
u_lawful n =
    record {
      back = λ p q v g. fixed_back (width_of n) v p q (ltb→lt v (2 ^ width_of n) g) ∙ ap (λ (k : ℕ). got v (length p + k)) (sym (length_digits (width_of n) v));
      exact = λ p t v e h. found (fixed-exact (width_of n) v e p t h);
    }

pub ue-lawful : Lawful ue
unfolding ue
ue-lawful = record { back = λ p q v g. ue-back v p q g; exact = λ p t v e h. found (ue-exact v e p t h) }

-- whether a value is good may be said in other words
in_words : {A : Type 0} (F : Fmt A) → Lawful F → (ok : A → Bool) → ((a : A) → ok a ≡ F.good a) → Lawful (record { read = F.read; bits = F.bits; good = ok })
in_words F L ok same =
    record {
      back = λ p q a g. L.back p q a (subst T (same a) g);
      exact = λ p t a e h.
          let x = L.exact p t a e h in
          record { rest = x.rest; split = x.split; place = x.place; is-good = subst⁻¹ T (same a) x.is-good };
    }

pub se-lawful : Lawful se
unfolding se ue shaped
se-lawful =
    in_words (shaped se_of se_code (λ z. true) ue) (shaped-lawful se_of se_code (λ z. true) ue (λ z t. se-code z) (λ k g. (code-se k, tt)) ue-lawful) se_good se-good

set-bit : (b : Bool) → is_set (bit_of b) ≡ b
set-bit true = refl
set-bit false = refl

bit-set : (v : ℕ) → v < 2 → bit_of (is_set v) ≡ v
bit-set zero h = refl
bit-set (suc zero) h = refl
bit-set (suc (suc v)) h = absurd (omega arith)

bit-good : (b : Bool) → true ≡ (u 1).good (bit_of b)
unfolding u
bit-good true = refl
bit-good false = refl

pub flag-lawful : Lawful flag
unfolding flag u shaped
flag-lawful =
    in_words (shaped is_set bit_of (λ b. true) (u 1))
    (shaped-lawful is_set bit_of (λ b. true) (u 1) (λ b t. set-bit b) (λ v g. (bit-set v (ltb→lt v 2 g), tt)) (u_lawful 1)) (λ b. true) bit-good
