-- Reading at a later place of more bits: the answer is the same, with its places moved; and no place is behind the bits. One law for each way to read.
use Prim.Native.Nat.{ℕ, zero, suc, ◌+◌, ◌-◌, ◌*◌, ◌^◌, ◌≤◌, ◌<◌}
use mathlib.Core.Path.{◌≡◌, refl}
use mathlib.Core.List.{[], ◌∷◌}
use mathlib.Core.Bool.{Bool, true, false}
use native.Mathlib.Omega.{arith}
use borrow.Author.Tests.{le-leb, lt-leb, leb-true, leb-false}
use lib.Dec.{leb}
use lib.IntN.{ℤ, pos}
use lib.ListN.{length, take, drop, length-drop}
use lib.Seq.{drop-drop}
use Rattle.bits.specs.declared.refusals.Refusal.{Refusal}
use Rattle.bits.specs.Refusals.{Res, got, no, bind, pick, refusal_at, ran_out}
use Rattle.bits.specs.Bits.{Bits, number_of, field}
use Rattle.bits.specs.Codes.{width_of, fixed_at, suffix_at, code_at, ue_at}
use Rattle.fmt.specs.Fmt.{Fmt, test}
use Rattle.fmt.specs.Leaves.{flag, u, ue, se}
use Rattle.fmt.specs.Reads.{Reads, found, next}
use Rattle.parameter_sets.specs.declared.picture.PictureStart.{PictureStart}
use Rattle.parameter_sets.specs.SequenceSet.{up_to, within}
use Rattle.parameter_sets.specs.PictureSet.{references, levels}
use Rattle.parameter_sets.specs.PictureParts.{moved_refusal, moved, picture_rest}

-- an answer, and the same k places further on; places are at most `room`
pub data Moved {A : Type 0} (k room : ℕ) : Res A → Res A → Type 0 where
  at : {a : A} {e : ℕ} → e ≤ room → Moved k room (got a (k + e)) (got a e)
  off : {r : Refusal} → r.bit ≤ room → Moved k room (no (moved_refusal k r)) (no r)

-- F reads the same behind k bits
pub record Moves {A : Type 0} (F : Reads A) : Type 0 where
  pub moves : (s : Bits) (k at : ℕ) → k ≤ length s → at ≤ length (drop k s) → Moved k (length (drop k s)) (F s (k + at)) (F (drop k s) at)

-- ---- what it says

pub is-moved : {A : Type 0} {k room : ℕ} {x y : Res A} → Moved k room x y → x ≡ moved k y
is-moved (at h) = refl
is-moved (off h) = refl

pub value-within : {A : Type 0} {k room : ℕ} {x y : Res A} {a : A} {e : ℕ} → Moved k room x y → y ≡ got a e → e ≤ room
value-within (at {e = d} h) p = omega (arith, ends p)
  where
    ends : {A : Type 0} {a b : A} {d e : ℕ} → got a d ≡ got b e → d ≡ e
    ends p = cc
value-within (off h) p = absurd (let z : ◌≡◌ {A = ℕ} 0 1 = cc in omega arith)

pub refusal-within : {A : Type 0} {k room : ℕ} {x y : Res A} {r : Refusal} → Moved k room x y → y ≡ no r → r.bit ≤ room
refusal-within (at h) p = absurd (let z : ◌≡◌ {A = ℕ} 0 1 = cc in omega arith)
refusal-within {r = r} (off {r = q} h) p = let e : q.bit ≡ r.bit = cc in omega arith

-- ---- ways to read

moved-bind : {A B : Type 0} {k room : ℕ} {x y : Res A} {f g : A → ℕ → Res B} → Moved k room x y → ((a : A) (d e : ℕ) → d ≡ k + e → e ≤ room → Moved k room (f a d) (g a e))
    → Moved k room (bind x f) (bind y g)
moved-bind {k = k} (at {a} {e} h) c = c a (k + e) e refl h
moved-bind (off h) c = off h

moved-pick : {A : Type 0} {k room : ℕ} (b : Bool) {x y v w : Res A} → Moved k room x y → Moved k room v w → Moved k room (pick b x v) (pick b y w)
moved-pick true p q = p
moved-pick false p q = q

found-moves : {A : Type 0} (a : A) → Moves (found a)
unfolding found
found-moves a = record { moves = λ s k p l h. at h }

then : {A B : Type 0} {F : Reads A} {G : A → Reads B} → Moves F → ((a : A) → Moves (G a)) → Moves (next F G)
unfolding next
then S R = record { moves = λ s k p l h. moved-bind (S.moves s k p l h) (λ a d e q i. rw q ((R a).moves s k e l i)) }

-- ---- single fields

module _ (s : Bits) (k : ℕ) (l : k ≤ length s) where
  fixed_moved : (n p : ℕ) → p ≤ length (drop k s) → Moved k (length (drop k s)) (fixed_at n s (k + p)) (fixed_at n (drop k s) p)
  unfolding fixed_at
  fixed_moved n p h = go (leb (p + n) (length (drop k s))) refl
    where
      go : (b : Bool) → leb (p + n) (length (drop k s)) ≡ b
          → Moved k (length (drop k s)) (pick (leb (k + p + n) (length s)) (got (field (k + p) n s) (k + p + n)) (no (refusal_at ran_out (pos 0) (k + p)))) (pick (leb (p + n) (length (drop k s))) (got (field p n (drop k s)) (p + n)) (no (refusal_at ran_out (pos 0) p)))
      go true e =
          let i : p + n ≤ length (drop k s) = leb-true (p + n) (length (drop k s)) e in
          let q : k + p + n ≡ k + (p + n) = omega arith in
          rw (e, le-leb (k + p + n) (length s) (omega (arith, length-drop k s)), q, drop-drop p k s) (at i)
      go false e =
          let i : length (drop k s) < p + n = leb-false (p + n) (length (drop k s)) e in
          rw (e, lt-leb (k + p + n) (length s) (omega (arith, length-drop k s))) (off h)

  ue-moved : (p : ℕ) → p ≤ length (drop k s) → Moved k (length (drop k s)) (ue_at s (k + p)) (ue_at (drop k s) p)
  unfolding ue_at code_at suffix_at
  ue-moved p h = rw (drop-drop p k s) (code 32 0 (drop (k + p) s) (omega (arith, length-drop (k + p) s, length-drop k s)))
    where
      suffix : (z : ℕ) (m : Bits) → p + z + suc (length m) ≡ length (drop k s) → Moved k (length (drop k s)) (suffix_at z m (k + p)) (suffix_at z m p)
      suffix z m q = go (leb z (length m)) refl
        where
          go : (b : Bool) → leb z (length m) ≡ b
              → Moved k (length (drop k s)) (pick b (got (2 ^ z - 1 + number_of (take z m)) (k + p + (2 * z + 1))) (no (refusal_at ran_out (pos 0) (k + p)))) (pick b (got (2 ^ z - 1 + number_of (take z m)) (p + (2 * z + 1))) (no (refusal_at ran_out (pos 0) p)))
          go true e =
              let i : z ≤ length m = leb-true z (length m) e in
              let j : k + p + (2 * z + 1) ≡ k + (p + (2 * z + 1)) = omega arith in
              rw j (at {e = p + (2 * z + 1)} (omega arith))
          go false e = off h

      code : (n z : ℕ) (m : Bits) → p + z + length m ≡ length (drop k s) → Moved k (length (drop k s)) (code_at n z m (k + p)) (code_at n z m p)
      code zero z m q = off h
      code (suc n) z [] q = off h
      code (suc n) z (false ∷ m) q = code n (suc z) m (omega arith)
      code (suc n) z (true ∷ m) q = suffix z m (omega arith)

u-moves : (n : ℕ) → Moves (u n).read
unfolding u
u-moves n = record { moves = λ s k p l h. fixed_moved s k l (width_of n) p h }

flag-moves : Moves flag.read
unfolding flag
flag-moves = record { moves = λ s k p l h. moved-bind (fixed_moved s k l (width_of 1) p h) (λ v d e q i. rw q (at i)) }

ue-moves : Moves ue.read
unfolding ue
ue-moves = record { moves = λ s k p l h. ue-moved s k l p h }

se-moves : Moves se.read
unfolding se
se-moves = record { moves = λ s k p l h. moved-bind (ue-moved s k l p h) (λ v d e q i. rw q (at i)) }

test-moves : {A : Type 0} (ok : A → Bool) (n : ℕ) (value : A → ℤ) (F : Fmt A) → Moves F.read → Moves (test ok n value F).read
unfolding test
test-moves ok n value F S = record { moves = λ s k p l h. moved-bind (S.moves s k p l h) (λ a d e q i. rw q (moved-pick (ok a) (at i) (off h))) }

up-moves : (n : ℕ) → Moves (up_to n)
unfolding up_to
up-moves n = test-moves _ _ _ ue ue-moves

within-moves : (low high : ℤ) → Moves (within low high)
unfolding within
within-moves low high = test-moves _ _ _ se se-moves

-- ---- what stands behind a picture set's ids

references-move : Moves references
unfolding references
references-move = then (up-moves _) (λ l0. then (up-moves _) (λ l1. then flag-moves (λ weighted. then (test-moves _ _ _ (u 2) (u-moves 2)) (λ bipred. found-moves _))))

levels-move : Moves levels
unfolding levels
levels-move =
    then (within-moves _ _) (λ qp.
    then (within-moves _ _) (λ qs.
    then se-moves (λ chroma. then flag-moves (λ deblocking. then flag-moves (λ intra. then flag-moves (λ redundant. found-moves _))))))

pub rest-moves : (start : PictureStart) → Moves (picture_rest start)
unfolding picture_rest
rest-moves start = then references-move (λ r. then levels-move (λ v. found-moves _))
