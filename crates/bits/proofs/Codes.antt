-- The codes at a seam of bits, p ++ t at length p: the bits of a good value are read back, what is read is a good value whose bits are those that were read,
-- and how many bits a value has.
use mathlib.Core.Path.{◌≡◌, refl, sym, ap, ◌∙◌, subst}
use mathlib.Core.List.{[], ◌∷◌, ◌++◌, append_assoc}
use mathlib.Core.Bool.{Bool, true, false}
use Prim.Native.Nat.{ℕ, zero, suc, ◌+◌, ◌-◌, ◌*◌, ◌/◌, ◌%◌, ◌^◌, ◌≤◌, ◌<◌}
use native.Mathlib.Omega.{arith}
use native.Mathlib.Nat.{add-zero, zero-add, pow-suc, mod-eq_of_lt}
use borrow.Author.Tests.{eqb-true, eqb-false, ltb-true, ltb-false, le-leb, eq-eqb, ne_eqb, lt-ltb, le-ltb}
use lib.Count.{count_leading_zeros, leading_top, leading_unique}
use lib.Dec.{T, eqb, leb, ltb, leb→le, ltb→lt, lt→ltb}
use lib.IntN.{ℤ, pos, negsuc}
use lib.ListN.{length, take, drop, replicate, length-append, length-replicate, take-append-drop}
use lib.Pow.{pow_pos, pow_mono, low}
use lib.Seq.{drop-append_seam, take_at, length-take-le}
use Rattle.bits.specs.Refusals.{got, refusal_at, ran_out}
use Rattle.bits.specs.Bits.{Bits, digits, number_of, field}
use Rattle.bits.specs.Codes.{fixed_at, suffix_at, code_at, ue_at, ue_zeros, ue_bits, ue_good, se_of, se_code, se_good}
use Rattle.bits.proofs.Digits.{length_digits, number_lt, number_digits, number-digits-small, digits_mod, digits_number}
use Rattle.bits.proofs.Results.{cases, never, chosen}

-- what was read: the bits l of a good value, and the rest
pub record Found (good : Bool) (l p t : Bits) (e : ℕ) : Type 0 where
  pub rest : Bits
  pub split : t ≡ l ++ rest
  pub place : e ≡ length p + length l
  pub is-good : T good

-- the digits of the number in the first n bits are those bits
digits-take : (n : ℕ) (t : Bits) → n ≤ length t → digits n (number_of (take n t)) ≡ take n t
digits-take n t h = ap (λ (k : ℕ). digits k (number_of (take n t))) (sym (length-take-le n t h)) ∙ digits_number (take n t)

take-lt : (n : ℕ) (t : Bits) → n ≤ length t → number_of (take n t) < 2 ^ n
take-lt n t h = rw (length-take-le n t h) at (number_lt (take n t))

-- ---- u(n)

pub fixed_back : (n v : ℕ) (p q : Bits) → v < 2 ^ n → fixed_at n (p ++ (digits n v ++ q)) (length p) ≡ got v (length p + n)
unfolding fixed_at
fixed_back n v p q h =
    let room : length p + n ≤ length (p ++ (digits n v ++ q)) =
    omega (arith, length-append p (digits n v ++ q), length-append (digits n v) q, length_digits n v) in
    rw (le-leb _ _ room, drop-append_seam p (digits n v ++ q), take_at (digits n v) q n (length_digits n v), number-digits-small n v h)

pub fixed-exact : (n v e : ℕ) (p t : Bits) → fixed_at n (p ++ t) (length p) ≡ got v e → Found (ltb v (2 ^ n)) (digits n v) p t e
unfolding fixed_at
fixed-exact n v e p t h =
    let w = chosen (leb (length p + n) (length (p ++ t))) (field (length p) n (p ++ t)) v (length p + n) e (refusal_at ran_out (pos 0) (length p)) h in
    let room : n ≤ length t = omega (arith, leb→le (length p + n) (length (p ++ t)) w.0, length-append p t) in
    let is : number_of (take n t) ≡ v = sym (ap (λ (l : Bits). number_of (take n l)) (drop-append_seam p t)) ∙ w.1 in
    let same : digits n v ≡ take n t = ap (digits n) (sym is) ∙ digits-take n t room in
    record {
      rest = drop n t;
      split = rw same (sym (take-append-drop n t));
      place = rw (length_digits n v) (sym w.2);
      is-good = lt→ltb v (2 ^ n) (rw is at (take-lt n t room));
    }

-- ---- ue(v)

-- how many zeros: v + 1 has one digit more
pub record Zeros (v z : ℕ) : Type 0 where
  pub from : 2 ^ z ≤ v + 1
  pub below : v + 1 < 2 * 2 ^ z
  pub few : z < 32

pub ue-zeros : (v : ℕ) → v < 4294967295 → Zeros v (ue_zeros v)
unfolding ue_zeros
ue-zeros v h =
    let t = leading_top 32 (v + 1) (omega arith) (omega arith) in
    let e : 31 - count_leading_zeros 32 (v + 1) ≡ t.0 = omega (arith, t.1) in
    rw e (record { from = t.2; below = omega (arith, t.3, pow-suc 2 t.0); few = omega (arith, t.1) })

pub zeros-unique : (v z : ℕ) → Zeros v z → ue_zeros v ≡ z
unfolding ue_zeros
zeros-unique v z h =
    let few : z < 32 = h.few in
    let u = leading_unique 32 (v + 1) (31 - z) (suc z) (omega arith) (omega (arith, h.below, pow-suc 2 z)) (omega (arith, h.from, pow-suc 2 z)) in
    omega (arith, u)

pub length-ue : (v : ℕ) → length (ue_bits v) ≡ 2 * ue_zeros v + 1
unfolding ue_bits
length-ue v =
    omega (arith, length-append (replicate (ue_zeros v) false) (true ∷ digits (ue_zeros v) (v + 1)), length-replicate (ue_zeros v) false, length_digits (ue_zeros v) (v + 1))

pub ue-most : (v : ℕ) → T (ue_good v) → length (ue_bits v) ≤ 63
ue-most v g = omega (arith, length-ue v, (ue-zeros v (ltb→lt v 4294967295 g)).few)

-- past k zeros and the one
code-run : (n k z : ℕ) (l : Bits) (at : ℕ) → k < n → code_at n z (replicate k false ++ (true ∷ l)) at ≡ suffix_at (z + k) l at
unfolding code_at
code-run zero k z l at h = absurd (omega arith)
code-run (suc n) zero z l at h = rw (add-zero z)
code-run (suc n) (suc k) z l at h =
    code-run n k (suc z) l at (omega arith) ∙ ap (λ (x : ℕ). suffix_at x l at) (omega arith)

suffix-back : (z v : ℕ) (q : Bits) (at : ℕ) → Zeros v z → suffix_at z (digits z (v + 1) ++ q) at ≡ got v (at + (2 * z + 1))
unfolding suffix_at
suffix-back z v q at h =
    let room : z ≤ length (digits z (v + 1) ++ q) = omega (arith, length-append (digits z (v + 1)) q, length_digits z (v + 1)) in
    let below : v + 1 - 2 ^ z < 2 ^ z = omega (arith, h.below, pow_pos z) in
    let up : 1 * 2 ^ z + (v + 1 - 2 ^ z) ≡ v + 1 = omega (arith, h.from) in
    let m : (v + 1) % 2 ^ z ≡ v + 1 - 2 ^ z = rw up at (low 1 z below) in
    let is : 2 ^ z - 1 + (v + 1 - 2 ^ z) ≡ v = omega (arith, h.from, pow_pos z) in
    rw (le-leb _ _ room, take_at (digits z (v + 1)) q z (length_digits z (v + 1)), number_digits z (v + 1), m, is)

code-back : (z v : ℕ) (q : Bits) (at : ℕ) → Zeros v z → code_at 32 0 ((replicate z false ++ (true ∷ digits z (v + 1))) ++ q) at ≡ got v (at + (2 * z + 1))
code-back z v q at h =
    rw (append_assoc (replicate z false) (true ∷ digits z (v + 1)) q, code-run 32 z 0 (digits z (v + 1) ++ q) at h.few, zero-add z) (suffix-back z v q at h)

pub ue-back : (v : ℕ) (p q : Bits) → T (ue_good v) → ue_at (p ++ (ue_bits v ++ q)) (length p) ≡ got v (length p + length (ue_bits v))
unfolding ue_at ue_bits
ue-back v p q g =
    ap (λ (l : Bits). code_at 32 0 l (length p)) (drop-append_seam p (ue_bits v ++ q))
    ∙ code-back (ue_zeros v) v q (length p) (ue-zeros v (ltb→lt v 4294967295 g))
    ∙ ap (λ (n : ℕ). got v (length p + n)) (sym (length-ue v))

-- the zeros and the one that a code that was read begins with
record Run (n z : ℕ) (t : Bits) (at v e : ℕ) : Type 0 where
  zeros : ℕ
  few : zeros < n
  after : Bits
  split : t ≡ replicate zeros false ++ (true ∷ after)
  suffix : suffix_at (z + zeros) after at ≡ got v e

code-exact : (n z : ℕ) (t : Bits) (at v e : ℕ) → code_at n z t at ≡ got v e → Run n z t at v e
unfolding code_at
code-exact zero z t at v e h = never h
code-exact (suc n) z [] at v e h = never h
code-exact (suc n) z (true ∷ l) at v e h = record { zeros = 0; few = omega arith; after = l; split = refl; suffix = rw (add-zero z) h }
code-exact (suc n) z (false ∷ l) at v e h =
    let r = code-exact n (suc z) l at v e h in
    record {
      zeros = suc r.zeros;
      few = omega (arith, r.few);
      after = r.after;
      split = ap (λ (m : Bits). false ∷ m) r.split;
      suffix = ap (λ (x : ℕ). suffix_at x r.after at) (omega arith) ∙ r.suffix;
    }

-- what the suffix says of the value
record Suffix (z : ℕ) (l : Bits) (at v e : ℕ) : Type 0 where
  room : z ≤ length l
  is : v + 1 ≡ 2 ^ z + number_of (take z l)
  place : e ≡ at + (2 * z + 1)

suffix-exact : (z : ℕ) (l : Bits) (at v e : ℕ) → suffix_at z l at ≡ got v e → Suffix z l at v e
unfolding suffix_at
suffix-exact z l at v e h =
    let w = chosen (leb z (length l)) (2 ^ z - 1 + number_of (take z l)) v (at + (2 * z + 1)) e (refusal_at ran_out (pos 0) at) h in
    record { room = leb→le z (length l) w.0; is = omega (arith, w.1, pow_pos z); place = sym w.2 }

code-found : (z : ℕ) (l p : Bits) (v e : ℕ) → z < 32 → Suffix z l (length p) v e → Found (ue_good v) (ue_bits v) p (replicate z false ++ (true ∷ l)) e
unfolding ue_bits
code-found z l p v e few x =
    let lt = take-lt z l x.room in
    let zs : Zeros v z = record { from = omega (arith, x.is); below = omega (arith, x.is, lt); few = few } in
    let n = zeros-unique v z zs in
    let one : 1 * 2 ^ z + number_of (take z l) ≡ v + 1 = omega (arith, x.is) in
    let m : (v + 1) % 2 ^ z ≡ number_of (take z l) % 2 ^ z = rw one at (low 1 z lt) ∙ sym (mod-eq_of_lt lt) in
    let same : digits z (v + 1) ≡ take z l = digits_mod z (v + 1) (number_of (take z l)) m ∙ digits-take z l x.room in
    let b : ue_bits v ≡ replicate z false ++ (true ∷ take z l) = rw (n, same) in
    record {
      rest = drop z l;
      split = ap (λ (m : Bits). replicate z false ++ (true ∷ m)) (sym (take-append-drop z l))
          ∙ sym (ap (λ (m : Bits). m ++ drop z l) b ∙ append_assoc (replicate z false) (true ∷ take z l) (drop z l));
      place = x.place ∙ ap (λ (k : ℕ). length p + k) (sym (length-ue v ∙ ap (λ (k : ℕ). 2 * k + 1) n));
      is-good = lt→ltb v 4294967295 (omega (arith, zs.below, pow_mono {i = z} {j = 31} (omega arith)));
    }

pub ue-exact : (v e : ℕ) (p t : Bits) → ue_at (p ++ t) (length p) ≡ got v e → Found (ue_good v) (ue_bits v) p t e
unfolding ue_at
ue-exact v e p t h =
    let r = code-exact 32 0 t (length p) v e (rw (drop-append_seam p t) at h) in
    subst (λ (l : Bits). Found (ue_good v) (ue_bits v) p l e) (sym r.split)
    (code-found r.zeros r.after p v e r.few (suffix-exact r.zeros r.after (length p) v e (rw (zero-add r.zeros) at r.suffix)))

-- ---- se(v)

-- the number of an odd code and of an even one
odd : (n : ℕ) → se_of (2 * n + 1) ≡ pos (suc n)
unfolding se_of
odd n =
    let m : (2 * n + 1) % 2 ≡ 1 = omega arith in
    let h : (2 * n + 1 + 1) / 2 ≡ suc n = omega arith in
    rw (eq-eqb _ _ m, h)

even : (n : ℕ) → se_of (2 * n + 2) ≡ negsuc n
unfolding se_of
even n =
    let m : (2 * n + 2) % 2 ≡ 1 → ⊥ = omega arith in
    let h : (2 * n + 2) / 2 ≡ suc n = omega arith in
    rw (ne_eqb _ _ m, h)

pub se-code : (z : ℤ) → se_of (se_code z) ≡ z
unfolding se_code se_of
se-code (pos zero) = refl
se-code (pos (suc n)) = odd n
se-code (negsuc n) = even n

pub code-se : (k : ℕ) → se_code (se_of k) ≡ k
unfolding se_code se_of
code-se zero = refl
code-se (suc k) =
    cases (eqb (k % 2) 0)
    (λ t. by (2 * (k / 2) + 1) (odd (k / 2)) refl (omega (arith, eqb-true (k % 2) 0 t)))
    (λ t. by (2 * (k / 2) + 2) (even (k / 2)) refl (omega (arith, eqb-false (k % 2) 0 t)))
  where
    by : (j : ℕ) {z : ℤ} → se_of j ≡ z → se_code z ≡ j → j ≡ suc k → se_code (se_of (suc k)) ≡ suc k
    by j {z} o c e = subst (λ (x : ℕ). se_code (se_of x) ≡ x) e (ap se_code o ∙ c)

same_test : (a b c d : ℕ) → (a < b → c < d) → (b ≤ a → d ≤ c) → ltb a b ≡ ltb c d
same_test a b c d f g = cases (ltb a b) (λ t. t ∙ sym (lt-ltb c d (f (ltb-true a b t)))) (λ t. t ∙ sym (le-ltb c d (g (ltb-false a b t))))

-- a number has a code exactly when its code has bits
pub se-good : (z : ℤ) → se_good z ≡ ue_good (se_code z)
unfolding se_code
se-good (pos zero) = refl
se-good (pos (suc n)) = same_test (suc n) 2147483648 (2 * n + 1) 4294967295 (λ h. omega arith) (λ h. omega arith)
se-good (negsuc n) = same_test (suc n) 2147483648 (2 * n + 2) 4294967295 (λ h. omega arith) (λ h. omega arith)
