-- How many bits lists have at most, by their counts: a bound that is a formula over the value.
use Prim.Native.Nat.{ℕ, ◌+◌, ◌*◌, ◌^◌, ◌≤◌, ◌<◌}
use mathlib.Core.Path.{◌≡◌, sym, ◌∙◌}
use mathlib.Core.Bool.{Bool, true, false}
use native.Mathlib.Omega.{arith}
use native.Mathlib.Nat.{mul-le-mul_left}
use borrow.Author.Tests.{leb-true, leb-false}
use lib.Dec.{T, leb, leb→le, ltb→lt}
use lib.ListN.{length, take, length-append}
use lib.Pow.{pow_mono}
use Rattle.bits.specs.Codes.{ue_bits, ue_good, ue_zeros}
use Rattle.bits.proofs.Results.{cases}
use Rattle.bits.proofs.Codes.{length-ue, ue-zeros}
use Rattle.fmt.specs.Fmt.{Fmt, seq, shaped, test, when, times, until}
use Rattle.fmt.specs.Leaves.{ue}
use Rattle.fmt.specs.Arrays.{padded}
use Rattle.fmt.proofs.Sizes.{Short, until-short, times-short}
use Rattle.fmt.proofs.Lawful.{both-0, both-1}
use Rattle.fmt.proofs.Lists.{times-length}
use Rattle.fmt.proofs.Arrays.{padded-le, length-unpad}
use Rattle.syntax.specs.declared.record.Operations.{Operations}
use Rattle.syntax.specs.declared.record.WeightList.{WeightList}
use Rattle.syntax.specs.Marks.{given}
use Rattle.syntax.specs.Lists.{entries, of_operations, ok_operations, Kind, code, operands, operations, no_operations, is_no_operations, operations_if}
use Rattle.syntax.specs.SliceHeader.{weight, is_no_weight, weight_list}
use Rattle.syntax.proofs.Operations.{few-operations, length-of-operations}
use Rattle.syntax.proofs.Goods.{seq-first, seq-rest, shaped_from}
use Rattle.syntax.proofs.Sizes.{given-short, weight-short}

-- a good value has at most as many bits as f says of it
pub record Within {A : Type 0} (F : Fmt A) (f : A → ℕ) : Type 0 where
  pub most : (a : A) → T (F.good a) → length (F.bits a) ≤ f a

pub short-within : {A : Type 0} {F : Fmt A} {m : ℕ} → Short F m → Within F (λ a. m)
short-within S = record { most = S.most }

pub within-short : {A : Type 0} {F : Fmt A} {f : A → ℕ} (m : ℕ) → Within F f → ((a : A) → T (F.good a) → f a ≤ m) → Short F m
within-short m W h = record { most = λ a g. omega (arith, W.most a g, h a g) }

pub within-le : {A : Type 0} {F : Fmt A} {f g : A → ℕ} → Within F f → ((a : A) → f a ≤ g a) → Within F g
within-le W h = record { most = λ a t. omega (arith, W.most a t, h a) }

pub seq-within : {A B : Type 0} {F : Fmt A} {G : A → Fmt B} {f : A → ℕ} {g : B → ℕ} → Within F f → ((a : A) → Within (G a) g) → Within (seq F G) (λ v. f v.0 + g v.1)
unfolding seq
seq-within {F = F} {G} W R =
    record {
      most = λ v t.
          omega (arith, length-append (F.bits v.0) ((G v.0).bits v.1), W.most v.0 (seq-first F G v t), (R v.0).most v.1 (seq-rest F G v t));
    }

pub shaped-within : {A B : Type 0} (to : A → B) (from : B → A) (ok : B → Bool) {F : Fmt A} {f : A → ℕ} → Within F f → Within (shaped to from ok F) (λ b. f (from b))
unfolding shaped
shaped-within to from ok {F = F} W = record { most = λ b t. W.most (from b) (shaped_from to from ok F b t) }

pub given-within : {A : Type 0} (b : Bool) (z : A) (isz : A → Bool) {F : Fmt A} {f : A → ℕ} → Within F f → Within (given b z isz F) f
unfolding given shaped when
given-within true z isz W = record { most = λ a t. W.most a t }
given-within false z isz W = record { most = λ a t. omega arith }

-- ---- operations

-- a number below 2^(z + 1) - 1 has a code of at most 2z + 1 bits
pub ue-small : (z v : ℕ) → T (ue_good v) → v + 1 < 2 ^ (z + 1) → length (ue_bits v) ≤ 2 * z + 1
ue-small z v g h =
    let y = ue-zeros v (ltb→lt v 4294967295 g) in
    cases (leb (ue_zeros v) z) (λ e. omega (arith, length-ue v, leb-true (ue_zeros v) z e))
    (λ e. absurd (let p = pow_mono {i = z + 1} {j = ue_zeros v} (omega (arith, leb-false (ue_zeros v) z e)) in omega (arith, p, y.from)))

-- a code is at most 6, so it has at most 5 bits
pub code-short : (k : Kind) → k.greatest ≤ 6 → Short (code k) 5
unfolding code test ue
code-short k h =
    record {
      most = λ c g.
          ue-small 2 c (both-1 (leb c k.greatest) (ue_good c) g) (omega (arith, leb→le c k.greatest (both-0 (leb c k.greatest) (ue_good c) g)));
    }

pub operations-few : (k : Kind) (o : Operations) → T ((operations k).good o) → o.count ≤ 66
unfolding operations shaped
operations-few k o t = few-operations o (both-0 (ok_operations o) ((until (code k) k.closing (operands k) entries).good (of_operations o)) t)

-- operations with operands of at most j bits
module _ (k : Kind) (j : ℕ) (low : k.greatest ≤ 6) (S : (c : ℕ) → Short (operands k c) j) where
  pub operations-within : Within (operations k) (λ o. 5 + (5 + j) * o.count)
  unfolding operations shaped
  operations-within =
      record {
        most = λ o t.
            let F = until (code k) k.closing (operands k) entries in
            let n = length-of-operations o (both-0 (ok_operations o) (F.good (of_operations o)) t) in
            let g = until-short (code k) k.closing (operands k) 5 j (code-short k low) S entries (of_operations o) (both-1 (ok_operations o) (F.good (of_operations o)) t) in
            rw n at g;
      }

  pub operations-short : Short (operations k) (5 + (5 + j) * 66)
  operations-short = within-short (5 + (5 + j) * 66) operations-within (λ o t. omega (arith, mul-le-mul_left (5 + j) (operations-few k o t)))

  module _ (b : Bool) where
    pub operations_if-within : Within (operations_if b k) (λ o. 5 + (5 + j) * o.count)
    unfolding operations_if
    operations_if-within = given-within b no_operations is_no_operations operations-within

    pub operations_if-short : Short (operations_if b k) (5 + (5 + j) * 66)
    unfolding operations_if
    operations_if-short = given-short b no_operations is_no_operations (operations k) (5 + (5 + j) * 66) operations-short

-- ---- weights

module _ (chroma : Bool) (n : ℕ) (w : WeightList) (t : T ((weight_list chroma n).good w)) where
  in_array : T (padded is_no_weight 32 w.count w.entries)
  unfolding weight_list shaped
  in_array = both-0 (padded is_no_weight 32 w.count w.entries) ((times n (weight chroma)).good (take w.count w.entries)) t

  in_list : T ((times n (weight chroma)).good (take w.count w.entries))
  unfolding weight_list shaped
  in_list = both-1 (padded is_no_weight 32 w.count w.entries) ((times n (weight chroma)).good (take w.count w.entries)) t

  pub weights-few : w.count ≤ 32
  weights-few = (padded-le is_no_weight 32 w.count w.entries in_array).0

  -- one entry for each reference
  pub weights-counted : w.count ≡ n
  weights-counted = sym (length-unpad is_no_weight 32 w.count w.entries in_array) ∙ times-length (weight chroma) n _ in_list

  weights-most : length ((weight_list chroma n).bits w) ≤ 380 * w.count
  unfolding weight_list shaped
  weights-most = omega (arith, (times-short (weight chroma) 380 (weight-short chroma) n).most (take w.count w.entries) in_list, weights-counted)

pub weight_list-within : (chroma : Bool) (n : ℕ) → Within (weight_list chroma n) (λ w. 380 * w.count)
weight_list-within chroma n = record { most = weights-most chroma n }

pub weight_list-short : (chroma : Bool) (n : ℕ) → Short (weight_list chroma n) 12160
weight_list-short chroma n = within-short 12160 (weight_list-within chroma n) (λ w t. omega (arith, weights-few chroma n w t))
