-- How many bits a good value has at most: one law for each combinator and each single field.
use Prim.Native.Nat.{ℕ, zero, suc, ◌+◌, ◌*◌, ◌≤◌}
use mathlib.Core.List.{List, [], ◌∷◌, ◌++◌}
use mathlib.Core.Bool.{Bool, true, false, not, ◌&&◌}
use native.Mathlib.Omega.{arith}
use native.Mathlib.Nat.{mul-suc, suc-mul, mul-le-mul_left}
use lib.Dec.{T, eqb}
use lib.IntN.{ℤ}
use lib.ListN.{length, length-append}
use Rattle.bits.specs.Codes.{width_of, bit_of, se_code}
use Rattle.bits.proofs.Digits.{length_digits}
use Rattle.bits.proofs.Codes.{ue-most, se-good}
use Rattle.fmt.specs.Fmt.{Fmt, nothing, seq, shaped, test, when, times, until}
use Rattle.fmt.specs.Leaves.{flag, u, ue, se}
use Rattle.fmt.proofs.Lawful.{both-0, both-1}
use Rattle.fmt.proofs.Lists.{until-length}

pub record Short {A : Type 0} (F : Fmt A) (n : ℕ) : Type 0 where
  pub most : (a : A) → T (F.good a) → length (F.bits a) ≤ n

-- ---- single fields

pub u-short : (n : ℕ) → Short (u n) (width_of n)
unfolding u
u-short n = record { most = λ v g. omega (arith, length_digits (width_of n) v) }

pub flag-short : Short flag 1
unfolding flag
flag-short = record { most = λ b g. omega (arith, length_digits 1 (bit_of b)) }

pub ue-short : Short ue 63
unfolding ue
ue-short = record { most = ue-most }

pub se-short : Short se 63
unfolding se
se-short = record { most = λ z g. ue-most (se_code z) (rw (se-good z) at g) }

-- ---- combinators

pub nothing-short : Short nothing 0
unfolding nothing
nothing-short = record { most = λ a g. omega arith }

-- what follows need be short only after a good value
pub seq-short-good : {A B : Type 0} (F : Fmt A) (G : A → Fmt B) (m n : ℕ) → Short F m → ((a : A) → T (F.good a) → Short (G a) n) → Short (seq F G) (m + n)
unfolding seq
seq-short-good F G m n S R =
    record {
      most = λ p g.
          let g0 = both-0 (F.good p.0) ((G p.0).good p.1) g in
          let g1 = both-1 (F.good p.0) ((G p.0).good p.1) g in
          omega (arith, length-append (F.bits p.0) ((G p.0).bits p.1), S.most p.0 g0, (R p.0 g0).most p.1 g1);
    }

pub seq-short : {A B : Type 0} (F : Fmt A) (G : A → Fmt B) (m n : ℕ) → Short F m → ((a : A) → Short (G a) n) → Short (seq F G) (m + n)
seq-short F G m n S R = seq-short-good F G m n S (λ a g. R a)

pub shaped-short : {A B : Type 0} (to : A → B) (from : B → A) (ok : B → Bool) (F : Fmt A) (m : ℕ) → Short F m → Short (shaped to from ok F) m
unfolding shaped
shaped-short to from ok F m S = record { most = λ b g. S.most (from b) (both-1 (ok b) (F.good (from b)) g) }

pub test_short : {A : Type 0} (ok : A → Bool) (n : ℕ) (value : A → ℤ) (F : Fmt A) (m : ℕ) → Short F m → Short (test ok n value F) m
unfolding test
test_short ok n value F m S = record { most = λ a g. S.most a (both-1 (ok a) (F.good a) g) }

pub when-short : {A : Type 0} (b : Bool) (z : A) (isz : A → Bool) (F : Fmt A) (m : ℕ) → Short F m → Short (when b z isz F) m
unfolding when
when-short true z isz F m S = record { most = λ a g. S.most a.value (both-1 a.there (F.good a.value) g) }
when-short false z isz F m S = record { most = λ a g. omega arith }

pub times-short : {A : Type 0} (F : Fmt A) (m : ℕ) → Short F m → (n : ℕ) → Short (times n F) (n * m)
unfolding times
times-short F m S zero = record { most = λ l g. omega arith }
times-short {A = A} F m S (suc n) = record { most = go (times-short F m S n) }
  where
    go : Short (times n F) (n * m) → (l : List A) → T ((times (suc n) F).good l) → length ((times (suc n) F).bits l) ≤ suc n * m
    go R [] g = absurd g
    go R (x ∷ l) g =
        omega (
          arith,
          length-append (F.bits x) ((times n F).bits l),
          S.most x (both-0 (F.good x) ((times n F).good l) g),
          R.most l (both-1 (F.good x) ((times n F).good l) g),
          suc-mul n m,
        )

-- codes of at most m bits with operands of at most k: m + k for each, and m for the closing code
pub until-short : {A : Type 0} (C : Fmt ℕ) (close : ℕ) (G : ℕ → Fmt A) (m k : ℕ) → Short C m → ((c : ℕ) → Short (G c) k) → (n : ℕ) → (l : List (ℕ × A))
    → T ((until C close G n).good l) → length ((until C close G n).bits l) ≤ m + (m + k) * length l
unfolding until
until-short C close G m k S R zero [] g = omega (arith, S.most close g)
until-short C close G m k S R zero (x ∷ l) g = absurd g
until-short C close G m k S R (suc n) [] g = omega (arith, S.most close g)
until-short C close G m k S R (suc n) (x ∷ l) g =
    let v = until C close G n in
    let b = (G x.0).good x.1 && v.good l in
    let g0 = both-0 (not (eqb x.0 close) && C.good x.0) b g in
    let g1 = both-1 (not (eqb x.0 close) && C.good x.0) b g in
    let i = until-short C close G m k S R n l (both-1 ((G x.0).good x.1) (v.good l) g1) in
    omega (
      arith,
      length-append (C.bits x.0) ((G x.0).bits x.1 ++ v.bits l),
      length-append ((G x.0).bits x.1) (v.bits l),
      S.most x.0 (both-1 (not (eqb x.0 close)) (C.good x.0) g0),
      (R x.0).most x.1 (both-0 ((G x.0).good x.1) (v.good l) g1),
      mul-suc (m + k) (length l),
    )

pub until-most : {A : Type 0} (C : Fmt ℕ) (close : ℕ) (G : ℕ → Fmt A) (m k : ℕ) → Short C m → ((c : ℕ) → Short (G c) k) → (n : ℕ) → Short (until C close G n) (m + (m + k) * n)
until-most C close G m k S R n =
    record { most = λ l g. omega (arith, until-short C close G m k S R n l g, mul-le-mul_left (m + k) (until-length C close G n l g)) }
