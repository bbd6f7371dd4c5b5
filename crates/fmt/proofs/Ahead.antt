-- How reading behaves where bits are added behind, and how far it looks: one law for each combinator and each single field. What is read stays, and so does a
-- refusal, unless it is 5; and 5 comes only where fewer bits are there than a format looks at.
use Prim.Native.Nat.{ℕ, zero, suc, ◌+◌, ◌-◌, ◌*◌, ◌^◌, ◌≤◌, ◌<◌}
use mathlib.Core.Path.{◌≡◌, refl}
use mathlib.Core.List.{[], ◌∷◌, ◌++◌}
use mathlib.Core.Bool.{Bool, true, false}
use native.Mathlib.Omega.{arith}
use native.Mathlib.Nat.{mul-suc, suc-mul}
use borrow.Author.Tests.{le-leb, leb-true, leb-false}
use lib.Dec.{T, leb, leb→le, eqb}
use lib.IntN.{ℤ, pos}
use lib.ListN.{length, take, drop, length-append, length-drop}
use lib.Seq.{take-append-le, drop-append-le}
use Rattle.bits.specs.declared.refusals.Refusal.{Refusal}
use Rattle.bits.specs.Refusals.{Res, got, no, bind, pick, refusal_at, ran_out}
use Rattle.bits.specs.Bits.{Bits, number_of, field}
use Rattle.bits.specs.Codes.{width_of, fixed_at, suffix_at, code_at, ue_at}
use Rattle.fmt.specs.Fmt.{Fmt, nothing, seq, shaped, test, when, times, until}
use Rattle.fmt.specs.Leaves.{flag, u, ue, se}
use Rattle.fmt.proofs.Lawful.{Lawful}
use Rattle.fmt.proofs.Any.{good_of}

-- what reading gives where there are `room` bits, and where there are more, for a format that looks at no bit from `top` on
pub data Onward {A : Type 0} (room top : ℕ) : Res A → Res A → Type 0 where
  same : {a : A} {e : ℕ} → e ≤ room → e ≤ top → Onward room top (got a e) (got a e)
  refused : {r : Refusal} → Onward room top (no r) (no r)
  out : {r : Refusal} {y : Res A} → r.number ≡ ran_out → room < top → Onward room top (no r) y

-- F looks at no more than n bits
pub record Ahead {A : Type 0} (F : Fmt A) (n : ℕ) : Type 0 where
  pub goes : (s t : Bits) (at : ℕ) → at ≤ length s → Onward (length s) (at + n) (F.read s at) (F.read (s ++ t) at)

-- ---- what it says

-- what is read stays
pub on-got : {A : Type 0} {room top : ℕ} {x y : Res A} {a : A} {e : ℕ} → Onward room top x y → x ≡ got a e → (y ≡ got a e) × (e ≤ room)
on-got (same {a} {e} h l) p = (p, omega (arith, ends p))
  where
    ends : {A : Type 0} {a b : A} {d e : ℕ} → got a d ≡ got b e → d ≡ e
    ends p = cc
on-got refused p = absurd (let z : ◌≡◌ {A = ℕ} 0 1 = cc in omega arith)
on-got (out h l) p = absurd (let z : ◌≡◌ {A = ℕ} 0 1 = cc in omega arith)

-- and so does a refusal that is not 5, or any answer where enough bits are there
pub on-no : {A : Type 0} {room top : ℕ} {x y : Res A} {r : Refusal} → Onward room top x y → x ≡ no r → (r.number ≡ ran_out → ⊥) → y ≡ no r
on-no (same h l) p n = absurd (let z : ◌≡◌ {A = ℕ} 0 1 = cc in omega arith)
on-no refused p n = p
on-no (out h l) p n = absurd (n (cc))

pub on_room : {A : Type 0} {room top : ℕ} {x y : Res A} → Onward room top x y → top ≤ room → y ≡ x
on_room (same h l) g = refl
on_room refused g = refl
on_room (out h l) g = absurd (omega arith)

-- ---- reading on

pub further : {A : Type 0} {room top more : ℕ} {x y : Res A} → Onward room top x y → top ≤ more → Onward room more x y
further (same h l) g = same h (omega arith)
further refused g = refused
further (out p l) g = out p (omega arith)

pub on-bind : {A B : Type 0} {room mid top : ℕ} {x y : Res A} {k l : A → ℕ → Res B} → Onward room mid x y → mid ≤ top
    → ((a : A) (e : ℕ) → x ≡ got a e → e ≤ room → e ≤ mid → Onward room top (k a e) (l a e)) → Onward room top (bind x k) (bind y l)
on-bind (same {a} {e} h m) g f = f a e refl h m
on-bind refused g f = refused
on-bind (out p m) g f = out p (omega arith)

-- a test of what was read
on-pick : {A : Type 0} {room top : ℕ} (b : Bool) {x y v w : Res A} → Onward room top x y → Onward room top v w → Onward room top (pick b x v) (pick b y w)
on-pick true p q = p
on-pick false p q = q

pub ahead_more : {A : Type 0} {F : Fmt A} {m : ℕ} (n : ℕ) → Ahead F m → m ≤ n → Ahead F n
ahead_more n W h = record { goes = λ s t at l. further (W.goes s t at l) (omega arith) }

-- ---- single fields

fixed_on : (n : ℕ) (s t : Bits) (at : ℕ) → Onward (length s) (at + n) (fixed_at n s at) (fixed_at n (s ++ t) at)
unfolding fixed_at
fixed_on n s t at = go (leb (at + n) (length s)) refl
  where
    go : (b : Bool) → leb (at + n) (length s) ≡ b → Onward (length s) (at + n) (pick (leb (at + n) (length s)) (got (field at n s) (at + n)) (no (refusal_at ran_out (pos 0) at))) (pick (leb (at + n) (length (s ++ t))) (got (field at n (s ++ t)) (at + n)) (no (refusal_at ran_out (pos 0) at)))
    go true p =
        let h : at + n ≤ length s = leb-true (at + n) (length s) p in
        rw (p, le-leb (at + n) (length (s ++ t)) (omega (arith, length-append s t)), drop-append-le at s t (omega arith), take-append-le n (drop at s) t (omega (arith, length-drop at s)))
        (same h (omega arith))
    go false p = rw p (out refl (leb-false (at + n) (length s) p))

pub u-ahead : (n : ℕ) → Ahead (u n) (width_of n)
unfolding u
u-ahead n = record { goes = λ s t at h. fixed_on (width_of n) s t at }

width-most : (n : ℕ) → width_of n ≤ 32
width-most n = go (leb n 32) (leb→le n 32)
  where
    go : (b : Bool) → (T b → n ≤ 32) → pick b n 32 ≤ 32
    go true h = h tt
    go false h = omega arith

pub u-ahead-32 : (n : ℕ) → Ahead (u n) 32
u-ahead-32 n = ahead_more 32 (u-ahead n) (width-most n)

pub flag-ahead : Ahead flag 1
unfolding flag
flag-ahead = record { goes = λ s t at h. on-bind (fixed_on 1 s t at) (omega arith) (λ v e p l m. same l m) }

-- z zeros of a code have been passed, and l is what follows them: room is where it ends
suffix-on : (z : ℕ) (l t : Bits) (p room : ℕ) → z < 32 → p + z + suc (length l) ≡ room → Onward room (p + 63) (suffix_at z l p) (suffix_at z (l ++ t) p)
unfolding suffix_at
suffix-on z l t p room h q = go (leb z (length l)) refl
  where
    go : (b : Bool) → leb z (length l) ≡ b
        → Onward room (p + 63) (pick (leb z (length l)) (got (2 ^ z - 1 + number_of (take z l)) (p + (2 * z + 1))) (no (refusal_at ran_out (pos 0) p))) (pick (leb z (length (l ++ t))) (got (2 ^ z - 1 + number_of (take z (l ++ t))) (p + (2 * z + 1))) (no (refusal_at ran_out (pos 0) p)))
    go true e =
        let g : z ≤ length l = leb-true z (length l) e in
        rw (e, le-leb z (length (l ++ t)) (omega (arith, length-append l t)), take-append-le z l t g) (same {e = p + (2 * z + 1)} (omega arith) (omega arith))
    go false e = let g : length l < z = leb-false z (length l) e in rw e (out refl (omega arith))

code-on : (n z : ℕ) (l t : Bits) (p room : ℕ) → n + z ≤ 32 → p + z + length l ≡ room → Onward room (p + 63) (code_at n z l p) (code_at n z (l ++ t) p)
unfolding code_at
code-on zero z l t p room h q = refused
code-on (suc n) z [] t p room h q = out refl (omega arith)
code-on (suc n) z (false ∷ l) t p room h q = code-on n (suc z) l t p room (omega arith) (omega arith)
code-on (suc n) z (true ∷ l) t p room h q = suffix-on z l t p room (omega arith) (omega arith)

ue-on : (s t : Bits) (at : ℕ) → at ≤ length s → Onward (length s) (at + 63) (ue_at s at) (ue_at (s ++ t) at)
unfolding ue_at
ue-on s t at h = rw (drop-append-le at s t h) (code-on 32 0 (drop at s) t at (length s) (omega arith) (omega (arith, length-drop at s)))

pub ue-ahead : Ahead ue 63
unfolding ue
ue-ahead = record { goes = ue-on }

pub se-ahead : Ahead se 63
unfolding se
se-ahead = record { goes = λ s t at h. on-bind (ue-on s t at h) (omega arith) (λ v e p l m. same l m) }

-- ---- combinators

pub nothing-ahead : Ahead nothing 0
unfolding nothing
nothing-ahead = record { goes = λ s t at h. same h (omega arith) }

-- what follows need be so only after a good value
pub seq-ahead-good : {A B : Type 0} (F : Fmt A) (G : A → Fmt B) (m n : ℕ) → Lawful F → Ahead F m → ((a : A) → T (F.good a) → Ahead (G a) n) → Ahead (seq F G) (m + n)
unfolding seq
seq-ahead-good F G m n L S R =
    record {
      goes = λ s t at h.
          on-bind (S.goes s t at h) (omega arith)
          (λ a e p l i. on-bind (further ((R a (good_of F L s at a e h p)).goes s t e l) (omega arith)) (omega arith) (λ b d q j k. same j k));
    }

pub seq-ahead : {A B : Type 0} (F : Fmt A) (G : A → Fmt B) (m n : ℕ) → Ahead F m → ((a : A) → Ahead (G a) n) → Ahead (seq F G) (m + n)
unfolding seq
seq-ahead F G m n S R =
    record {
      goes = λ s t at h.
          on-bind (S.goes s t at h) (omega arith)
          (λ a e p l i. on-bind (further ((R a).goes s t e l) (omega arith)) (omega arith) (λ b d q j k. same j k));
    }

pub shaped-ahead : {A B : Type 0} (to : A → B) (from : B → A) (ok : B → Bool) (F : Fmt A) (m : ℕ) → Ahead F m → Ahead (shaped to from ok F) m
unfolding shaped
shaped-ahead to from ok F m S = record { goes = λ s t at h. on-bind (S.goes s t at h) (omega arith) (λ a e p l i. same l i) }

pub test-ahead : {A : Type 0} (ok : A → Bool) (n : ℕ) (value : A → ℤ) (F : Fmt A) (m : ℕ) → Ahead F m → Ahead (test ok n value F) m
unfolding test
test-ahead ok n value F m S = record { goes = λ s t at h. on-bind (S.goes s t at h) (omega arith) (λ a e p l i. on-pick (ok a) (same l i) refused) }

pub when-ahead : {A : Type 0} (b : Bool) (z : A) (isz : A → Bool) (F : Fmt A) (m : ℕ) → Ahead F m → Ahead (when b z isz F) m
unfolding when
when-ahead true z isz F m S = record { goes = λ s t at h. on-bind (S.goes s t at h) (omega arith) (λ a e p l i. same l i) }
when-ahead false z isz F m S = record { goes = λ s t at h. same h (omega arith) }

pub times-ahead : {A : Type 0} (F : Fmt A) (m : ℕ) → Ahead F m → (n : ℕ) → Ahead (times n F) (n * m)
unfolding times
times-ahead F m S zero = record { goes = λ s t at h. same h (omega arith) }
times-ahead F m S (suc n) =
    let R = times-ahead F m S n in
    record {
      goes = λ s t at h.
          on-bind (S.goes s t at h) (omega (arith, suc-mul n m))
          (λ a e p l i. on-bind (further (R.goes s t e l) (omega (arith, suc-mul n m))) (omega arith) (λ b d q j k. same j k));
    }

-- codes of at most m bits with operands of at most k: m + k for each, and m for the closing code
pub until-ahead : {A : Type 0} (C : Fmt ℕ) (close : ℕ) (G : ℕ → Fmt A) (m k : ℕ) → Ahead C m → ((c : ℕ) → Ahead (G c) k) → (n : ℕ) → Ahead (until C close G n) (m + (m + k) * n)
unfolding until
until-ahead C close G m k S R zero =
    record { goes = λ s t at h. on-bind (S.goes s t at h) (omega arith) (λ c e p l i. on-pick (eqb c close) (same l (omega arith)) refused) }
until-ahead C close G m k S R (suc n) =
    let U = until-ahead C close G m k S R n in
    record {
      goes = λ s t at h.
          on-bind (S.goes s t at h) (omega arith)
          (λ c e p l i.
          on-pick (eqb c close) (same l (omega arith))
          (on-bind {mid = e + k} ((R c).goes s t e l) (omega (arith, mul-suc (m + k) n))
          (λ a d q j g. on-bind {mid = d + (m + (m + k) * n)} (U.goes s t d j) (omega (arith, mul-suc (m + k) n)) (λ v f w x y. same x (omega (arith, mul-suc (m + k) n))))));
    }
