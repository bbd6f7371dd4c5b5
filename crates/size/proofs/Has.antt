-- A value that is written has so many bits: a law for each combinator, and lists of one entry again and again.
use Prim.Native.Nat.{ℕ, zero, suc, ◌+◌, ◌*◌, ◌≤◌}
use mathlib.Core.Path.{◌≡◌, ◌∙◌}
use mathlib.Core.List.{◌++◌}
use mathlib.Core.Bool.{Bool, not, ◌&&◌}
use native.Mathlib.Omega.{arith}
use native.Mathlib.Nat.{mul-suc}
use lib.Dec.{T, eqb}
use lib.ListN.{length, replicate, length-append, length-replicate}
use Rattle.fmt.specs.Fmt.{Fmt, seq, shaped, times, until}
use Rattle.fmt.specs.Arrays.{pad}
use Rattle.fmt.proofs.Lawful.{both-T}
use Rattle.fmt.proofs.Arrays.{unpad-pad, pad-padded}
use Rattle.syntax.specs.declared.record.Operations.{Operations}
use Rattle.syntax.specs.declared.record.WeightList.{WeightList}
use Rattle.syntax.specs.declared.record.Weight.{Weight}
use Rattle.syntax.specs.Lists.{Operation, to_operations, of_operations, ok_operations, Kind, code, operands, operations}
use Rattle.syntax.specs.SliceHeader.{weight, no_weight, is_no_weight, weight_list}
use Rattle.syntax.proofs.Operations.{of-to-operations, ok-to-operations}

pub record Has {A : Type 0} (F : Fmt A) (a : A) (n : ℕ) : Type 0 where
  pub is-good : T (F.good a)
  pub size : length (F.bits a) ≡ n

pub has-is : {A : Type 0} {F : Fmt A} {a : A} {m n : ℕ} → Has F a m → m ≡ n → Has F a n
has-is H e = record { is-good = H.is-good; size = H.size ∙ e }

pub seq-has : {A B : Type 0} (F : Fmt A) (G : A → Fmt B) {a : A} {b : B} {m n : ℕ} → Has F a m → Has (G a) b n → Has (seq F G) (a, b) (m + n)
unfolding seq
seq-has F G {a} {b} H K =
    record {
      is-good = both-T (F.good a) ((G a).good b) H.is-good K.is-good;
      size = omega (arith, length-append (F.bits a) ((G a).bits b), H.size, K.size);
    }

pub shaped-has : {A B : Type 0} (to : A → B) (from : B → A) (ok : B → Bool) {F : Fmt A} (b : B) {n : ℕ} → T (ok b) → Has F (from b) n → Has (shaped to from ok F) b n
unfolding shaped
shaped-has to from ok {F = F} b t H = record { is-good = both-T (ok b) (F.good (from b)) t H.is-good; size = H.size }

-- ---- n times the same

module _ {A : Type 0} {F : Fmt A} {a : A} {s : ℕ} (H : Has F a s) where
  times-good : (n : ℕ) → T ((times n F).good (replicate n a))
  unfolding times
  times-good zero = tt
  times-good (suc n) = both-T (F.good a) ((times n F).good (replicate n a)) H.is-good (times-good n)

  times-size : (n : ℕ) → length ((times n F).bits (replicate n a)) ≡ s * n
  unfolding times
  times-size zero = omega arith
  times-size (suc n) = omega (arith, length-append (F.bits a) ((times n F).bits (replicate n a)), H.size, times-size n, mul-suc s n)

  pub times-has : (n : ℕ) → Has (times n F) (replicate n a) (s * n)
  times-has n = record { is-good = times-good n; size = times-size n }

-- the same code and operands again and again, and the closing code
module _ {A : Type 0} (C : Fmt ℕ) (close : ℕ) (G : ℕ → Fmt A) (c : ℕ) (a : A) {e s r : ℕ} (ne : T (not (eqb c close))) (E : Has C close e) (H : Has C c s) (K : Has (G c) a r) where
  until-good : (n k : ℕ) → k ≤ n → T ((until C close G n).good (replicate k (c, a)))
  unfolding until
  until-good zero zero h = E.is-good
  until-good zero (suc k) h = absurd (omega arith)
  until-good (suc n) zero h = E.is-good
  until-good (suc n) (suc k) h =
      both-T (not (eqb c close) && C.good c) ((G c).good a && (until C close G n).good (replicate k (c, a))) (both-T (not (eqb c close)) (C.good c) ne H.is-good)
      (both-T ((G c).good a) ((until C close G n).good (replicate k (c, a))) K.is-good (until-good n k (omega arith)))

  until-size : (n k : ℕ) → k ≤ n → length ((until C close G n).bits (replicate k (c, a))) ≡ (s + r) * k + e
  unfolding until
  until-size zero zero h = omega (arith, E.size)
  until-size zero (suc k) h = absurd (omega arith)
  until-size (suc n) zero h = omega (arith, E.size)
  until-size (suc n) (suc k) h =
      let v = (until C close G n).bits (replicate k (c, a)) in
      omega (
        arith,
        length-append (C.bits c) ((G c).bits a ++ v),
        length-append ((G c).bits a) v,
        H.size,
        K.size,
        until-size n k (omega arith),
        mul-suc (s + r) k,
      )

-- ---- in arrays

-- m times an operation
abbrev pub again : ℕ → Operation → Operations
again m o = to_operations (replicate m o)

pub again-count : (m : ℕ) (o : Operation) → (again m o).count ≡ m
unfolding to_operations
again-count m o = length-replicate m o

pub again-has : (k : Kind) (o : Operation) {e s r : ℕ} → T (not (eqb o.0 k.closing)) → Has (code k) k.closing e → Has (code k) o.0 s → Has (operands k o.0) o.1 r
    → (m : ℕ) → m ≤ 66 → Has (operations k) (again m o) ((s + r) * m + e)
unfolding operations
again-has k o ne E H K m h =
    shaped-has to_operations of_operations ok_operations (again m o) (ok-to-operations (replicate m o) (omega (arith, length-replicate m o)))
    (rw (of-to-operations (replicate m o)) (record {
      is-good = until-good (code k) k.closing (operands k) o.0 o.1 ne E H K 66 m h;
      size = until-size (code k) k.closing (operands k) o.0 o.1 ne E H K 66 m h;
    }))

abbrev pub weighed : ℕ → Weight → WeightList
weighed n w = record { count = length (replicate n w); entries = pad no_weight 32 (replicate n w) }

pub weighed-has : (chroma : Bool) (w : Weight) {s : ℕ} → Has (weight chroma) w s → (n : ℕ) → n ≤ 32 → Has (weight_list chroma n) (weighed n w) (s * n)
unfolding weight_list
weighed-has chroma w H n h =
    shaped-has _ _ _ (weighed n w) (pad-padded no_weight is_no_weight tt 32 (replicate n w) (omega (arith, length-replicate n w)))
    (rw (unpad-pad no_weight 32 (replicate n w)) (times-has H n))
