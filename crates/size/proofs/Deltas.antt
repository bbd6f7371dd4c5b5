-- How long the codes of bounded numbers are: of slice_qp_delta, slice_qs_delta and the filter's offsets.
use Prim.Native.Nat.{ℕ, zero, suc, ◌+◌, ◌*◌, ◌^◌, ◌≤◌, ◌<◌}
use mathlib.Core.Path.{◌≡◌, sym, ap, ◌∙◌}
use mathlib.Core.Bool.{true, true≢false}
use native.Mathlib.Omega.{arith}
use borrow.Author.Tests.{leb-true}
use lib.Dec.{T, ltb}
use lib.IntN.{ℤ, pos, negsuc, neg_ℤ, sub_ℕ, ◌+ℤ◌, ◌-ℤ◌, +ℤ_comm, +ℤ-neg_ℤ_cancel}
use lib.ListN.{length}
use lib.Signed.{mag, le_z}
use Rattle.bits.specs.Codes.{se_code, se_bits, se_good}
use Rattle.bits.proofs.Codes.{se-good}
use Rattle.bits.proofs.Results.{cases}
use Rattle.table.specs.Sets.{between_z}
use Rattle.table.proofs.Tests.{both}
use Rattle.table.proofs.Signs.{raised}
use Rattle.syntax.proofs.ListSizes.{ue-small}

code-most : (v : ℤ) → se_code v ≤ 2 * mag v + 2
unfolding se_code
code-most (pos zero) = omega arith
code-most (pos (suc n)) = omega arith
code-most (negsuc n) = omega arith

-- a number near zero has a short code
pub se-small : (z : ℕ) (v : ℤ) → T (se_good v) → 2 * mag v + 3 < 2 ^ (z + 1) → length (se_bits v) ≤ 2 * z + 1
se-small z v g h = ue-small z (se_code v) (rw (se-good v) at g) (omega (arith, code-most v, h))

-- ---- how far from zero a difference is

mag-sub : (a b m : ℕ) → a ≤ m → b ≤ a + m + 1 → mag (sub_ℕ a b) ≤ m
mag-sub a b m h k = cases (ltb a b) (λ e. rw e (omega arith)) (λ e. rw e (omega arith))

mag-minus : (a b : ℤ) → mag (a -ℤ b) ≤ mag a + mag b + 2
mag-minus (pos a) (pos zero) = omega arith
mag-minus (pos a) (pos (suc b)) = mag-sub a (suc b) (a + suc b + 2) (omega arith) (omega arith)
mag-minus (pos a) (negsuc b) = omega arith
mag-minus (negsuc a) (pos zero) = mag-sub 0 (suc a) (a + 0 + 2) (omega arith) (omega arith)
mag-minus (negsuc a) (pos (suc b)) = omega arith
mag-minus (negsuc a) (negsuc b) = mag-sub (suc b) (suc a) (a + b + 2) (omega arith) (omega arith)

-- a summand is the sum without the other
rest-is : (c d : ℤ) → (c +ℤ d) -ℤ c ≡ d
rest-is c d = ap (λ (s : ℤ). s -ℤ c) (+ℤ_comm c d) ∙ +ℤ-neg_ℤ_cancel d c

-- ---- slice_qp_delta: at most 104 from zero

start-mag : (i : ℤ) → mag i ≤ 61 → le_z i (pos 25) ≡ true → mag (pos 26 +ℤ i) ≤ 51
start-mag (pos n) h k = omega (arith, leb-true n 25 k)
start-mag (negsuc n) h k = mag-sub 26 (suc n) 51 (omega arith) (omega arith)

level-mag : (b : ℕ) (s : ℤ) → b ≤ 36 → between_z (neg_ℤ (pos b)) (pos 51) s ≡ true → mag s ≤ 51
level-mag b (pos n) h t = leb-true n 51 (both (le_z (neg_ℤ (pos b)) (pos n)) _ t).1
level-mag zero (negsuc n) h t = absurd (true≢false (sym t))
level-mag (suc b) (negsuc n) h t = omega (arith, leb-true n b (both (le_z (negsuc b) (negsuc n)) true t).0)

pub qp-near : (b : ℕ) (i d : ℤ) → b ≤ 36 → mag i ≤ 61 → le_z i (pos 25) ≡ true → between_z (neg_ℤ (pos b)) (pos 51) (pos 26 +ℤ i +ℤ d) ≡ true → mag d ≤ 104
qp-near b i d hb hm hi t =
    let c = pos 26 +ℤ i in
    let e = ap mag (rest-is c d) in
    omega (arith, e, mag-minus (c +ℤ d) c, start-mag i hm hi, level-mag b (c +ℤ d) hb t)

-- ---- slice_qs_delta: at most 51 from zero

mag-between : (a b : ℕ) → a ≤ 51 → b ≤ 51 → mag (pos a -ℤ pos b) ≤ 51
mag-between a zero h k = omega arith
mag-between a (suc b) h k = mag-sub a (suc b) 51 h (omega arith)

qs-by : (c s : ℤ) (k : ℕ) → c ≡ pos k → k ≤ 51 → between_z (pos 0) (pos 51) s ≡ true → mag (s -ℤ c) ≤ 51
qs-by c (pos n) k e h t = rw e (mag-between n k (leb-true n 51 (both (le_z (pos 0) (pos n)) _ t).1) h)
qs-by c (negsuc n) k e h t = absurd (true≢false (sym t))

pub qs-near : (i d : ℤ) → between_z (negsuc 25) (pos 25) i ≡ true → between_z (pos 0) (pos 51) (pos 26 +ℤ i +ℤ d) ≡ true → mag d ≤ 51
qs-near i d hi t =
    let u = raised 26 i hi in
    let c = pos 26 +ℤ i in
    omega (arith, ap mag (rest-is c d), qs-by c (c +ℤ d) u.word (+ℤ_comm (pos 26) i ∙ u.is) u.most t)

-- ---- an offset: at most 6 from zero

pub offset_near : (d : ℤ) → between_z (negsuc 5) (pos 6) d ≡ true → mag d ≤ 6
offset_near (pos n) t = leb-true n 6 (both true _ t).1
offset_near (negsuc n) t = omega (arith, leb-true n 5 (both (le_z (negsuc 5) (negsuc n)) true t).0)
