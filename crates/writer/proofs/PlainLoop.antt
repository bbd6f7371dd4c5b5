-- Words that hold a record: the loop over the flags of weights, with what holds when those of the first i entries are 0 or 1; and what is known of counts.
use Prim.Native.Nat.{ℕ, zero, suc, ◌+◌, ◌-◌, ◌*◌, ◌≤◌, ◌<◌}
use mathlib.Core.Path.{◌≡◌, refl, sym, ap, subst⁻¹, ◌∙◌}
use mathlib.Core.List.{List, [], ◌∷◌}
use mathlib.Core.Bool.{Bool, true, false, ◌&&◌, ◌||◌, and_assoc}
use native.Mathlib.Omega.{arith}
use native.Mathlib.Nat.{sub-zero}
use borrow.Author.Tests.{ne_eqb, lt-leb}
use mir.Syntax.{w32}
use mir.Val.{SFits, of_z}
use lib.Dec.{T, eqb, leb→le}
use lib.IntN.{ℤ, pos, negsuc}
use lib.ListN.{drop, get_or}
use lib.Seq.{get_or-drop, drop-drop}
use Rattle.fmt.proofs.Lawful.{both-0, both-1}
use Rattle.record.specs.Fields.{number_in}
use Rattle.record.specs.Record.{within, withins, flags, plain_numbers, is_bit_z, plain_weights}

-- a signed number is 0 or 1 where its bits are
pub bit-bits : (z : ℤ) → SFits w32 z → (eqb (of_z w32 z) 0 || eqb (of_z w32 z) 1) ≡ is_bit_z z
bit-bits (pos zero) f = refl
bit-bits (pos (suc zero)) f = refl
bit-bits (pos (suc (suc n))) f =
    rw (ne_eqb (suc (suc n)) 0 (λ h. omega arith), ne_eqb (suc (suc n)) 1 (λ h. omega arith), lt-leb (suc (suc n)) 1 (omega arith))
bit-bits (negsuc n) f =
    rw (ne_eqb (of_z w32 (negsuc n)) 0 (λ h. omega (arith, h, f.sfits)), ne_eqb (of_z w32 (negsuc n)) 1 (λ h. omega (arith, h, f.sfits)))

-- where the counts of lists and of weights stand
abbrev lists : List ℕ
lists = 29 ∷ 32 ∷ 45 ∷ []

abbrev weights : List ℕ
weights = 37 ∷ 38 ∷ []

abbrev pub flags_at : List ℤ → ℕ → Bool
flags_at words k = is_bit_z (get_or words k (pos 0)) && is_bit_z (get_or words (k + 3) (pos 0))

module _ (n : ℕ) (words : List ℤ) where
  pub record Plain (i : ℕ) : Type 0 where
    pub rest : plain_weights n words ≡ plain_weights (n - i) (drop (8 * i) words)

  pub plain-none : Plain 0
  plain-none = record { rest = rw (sub-zero n) }

  module _ {i : ℕ} (p : Plain i) where
    pub plain-all : n ≤ i → plain_weights n words ≡ true
    unfolding plain_weights
    plain-all h = let k : n - i ≡ 0 = omega arith in p.rest ∙ rw k

    module _ (more : i < n) where
      abbrev left : ℕ
      left = n - (i + 1)

      step : plain_weights n words ≡ flags_at words (8 * i) && plain_weights left (drop (8 * (i + 1)) words)
      unfolding plain_weights
      step =
          let k : n - i ≡ suc left = omega arith in
          let e : 8 * i + 0 ≡ 8 * i = omega arith in
          let f : 8 * i + 8 ≡ 8 * (i + 1) = omega arith in
          let a = get_or-drop (8 * i) words 0 (pos 0) ∙ ap (λ (j : ℕ). get_or words j (pos 0)) e in
          let b = get_or-drop (8 * i) words 3 (pos 0) in
          let c = drop-drop 8 (8 * i) words ∙ ap (λ (j : ℕ). drop j words) f in
          p.rest
          ∙ ap (λ (j : ℕ). plain_weights j (drop (8 * i) words)) k
          ∙ (λ z. is_bit_z (a z) && (is_bit_z (b z) && plain_weights left (c z)))
          ∙ sym (and_assoc (is_bit_z (get_or words (8 * i) (pos 0))) (is_bit_z (get_or words (8 * i + 3) (pos 0))) _)

      pub plain-next : flags_at words (8 * i) ≡ true → Plain (i + 1)
      plain-next t = record { rest = step ∙ rw t }

      pub plain-found : flags_at words (8 * i) ≡ false → plain_weights n words ≡ false
      plain-found t = step ∙ rw t

-- ---- counts

-- no count of plain words is over its list's capacity
pub record Counts (n : List ℕ) : Type 0 where
  pub l0 : number_in n 29 ≤ 66
  pub l1 : number_in n 32 ≤ 66
  pub marking : number_in n 45 ≤ 66
  pub w0 : number_in n 37 ≤ 32
  pub w1 : number_in n 38 ≤ 32

pub plain-counts : (n : List ℕ) → plain_numbers n ≡ true → Counts n
unfolding plain_numbers
plain-counts n e =
    let t = both-1 (withins n 1 flags) (withins n 66 lists && withins n 32 weights) (subst⁻¹ T e tt) in
    let a = both-0 (withins n 66 lists) (withins n 32 weights) t in
    let b = both-1 (withins n 66 lists) (withins n 32 weights) t in
    let a₁ = both-1 (within n 66 29) (within n 66 32 && (within n 66 45 && true)) a in
    let a₂ = both-1 (within n 66 32) (within n 66 45 && true) a₁ in
    record {
      l0 = leb→le (number_in n 29) 66 (both-0 (within n 66 29) (within n 66 32 && (within n 66 45 && true)) a);
      l1 = leb→le (number_in n 32) 66 (both-0 (within n 66 32) (within n 66 45 && true) a₁);
      marking = leb→le (number_in n 45) 66 (both-0 (within n 66 45) true a₂);
      w0 = leb→le (number_in n 37) 32 (both-0 (within n 32 37) (within n 32 38 && true) b);
      w1 = leb→le (number_in n 38) 32 (both-0 (within n 32 38) true (both-1 (within n 32 37) (within n 32 38 && true) b));
    }
