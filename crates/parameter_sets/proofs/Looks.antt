-- How far reading alone looks: one law for each way to read. What is read stays where bits are added behind, and so does a refusal, unless it is 5; and 5 comes only
-- where fewer bits are there than it looks at.
use Prim.Native.Nat.{ℕ, zero, suc, ◌+◌, ◌*◌, ◌≤◌}
use mathlib.Core.Path.{◌≡◌, refl}
use mathlib.Core.List.{◌++◌}
use mathlib.Core.Bool.{Bool, true, false}
use native.Mathlib.Omega.{arith}
use native.Mathlib.Nat.{suc-mul}
use lib.IntN.{ℤ}
use lib.ListN.{length}
use Rattle.bits.specs.Refusals.{got, pick}
use Rattle.bits.specs.Bits.{Bits}
use Rattle.fmt.specs.Fmt.{Fmt}
use Rattle.fmt.specs.Leaves.{flag, u, ue, se}
use Rattle.fmt.specs.Reads.{Reads, found, next, read_if, passes}
use Rattle.fmt.proofs.Ahead.{Onward, same, on_room, further, on-bind, Ahead, u-ahead-32, flag-ahead, ue-ahead, se-ahead, test-ahead}
use Rattle.parameter_sets.specs.SequenceSet.{up_to, within}

-- F looks at no more than n bits
pub record Looks {A : Type 0} (F : Reads A) (n : ℕ) : Type 0 where
  pub goes : (s t : Bits) (at : ℕ) → at ≤ length s → Onward (length s) (at + n) (F s at) (F (s ++ t) at)

-- where so many bits are there, others behind them change no answer
pub looks-room : {A : Type 0} {F : Reads A} {n : ℕ} → Looks F n → (s t : Bits) (at : ℕ) → at + n ≤ length s → F (s ++ t) at ≡ F s at
looks-room W s t at h = on_room (W.goes s t at (omega arith)) h

-- ---- ways to read

module _ {A : Type 0} where
  pub fmt-looks : {F : Fmt A} {n : ℕ} → Ahead F n → Looks F.read n
  fmt-looks W = record { goes = W.goes }

  pub looks-more : {F : Reads A} {m : ℕ} (n : ℕ) → Looks F m → m ≤ n → Looks F n
  looks-more n W h = record { goes = λ s t at l. further (W.goes s t at l) (omega arith) }

  pub found-looks : (a : A) → Looks (found a) 0
  unfolding found
  found-looks a = record { goes = λ s t at h. same h (omega arith) }

  pub if-looks : (b : Bool) (z : A) {F : Reads A} {n : ℕ} → Looks F n → Looks (read_if b z F) n
  unfolding read_if
  if-looks true z W = W
  if-looks false z {n = n} W = looks-more n (found-looks z) (omega arith)

  pub pick-looks : (b : Bool) {F G : Reads A} {n : ℕ} → (b ≡ true → Looks F n) → (b ≡ false → Looks G n) → Looks (pick b F G) n
  pick-looks true f g = f refl
  pick-looks false f g = g refl

  -- what follows need be so only after a value that was read
  pub then-with : {B : Type 0} {F : Reads A} {G : A → Reads B} {m n : ℕ} → Looks F m → ((a : A) (s : Bits) (at e : ℕ) → F s at ≡ got a e → Looks (G a) n) → Looks (next F G) (m + n)
  unfolding next
  then-with S R = record { goes = λ s t at h. on-bind (S.goes s t at h) (omega arith) (λ a e p l i. further ((R a s at e p).goes s t e l) (omega arith)) }

  pub then : {B : Type 0} {F : Reads A} {G : A → Reads B} {m n : ℕ} → Looks F m → ((a : A) → Looks (G a) n) → Looks (next F G) (m + n)
  then S R = then-with S (λ a s at e p. R a)

pub passes-looks : {A : Type 0} {F : Reads A} {m : ℕ} → Looks F m → (n : ℕ) → Looks (passes n F) (n * m)
unfolding passes
passes-looks {m = m} S zero = looks-more (0 * m) (found-looks tt) (omega arith)
passes-looks {m = m} S (suc n) = looks-more (suc n * m) (then S (λ a. passes-looks S n)) (omega (arith, suc-mul n m))

-- ---- single fields

pub u-looks : (n : ℕ) → Looks (u n).read 32
u-looks n = fmt-looks (u-ahead-32 n)

pub flag-looks : Looks flag.read 1
flag-looks = fmt-looks flag-ahead

pub ue-looks : Looks ue.read 63
ue-looks = fmt-looks ue-ahead

pub se-looks : Looks se.read 63
se-looks = fmt-looks se-ahead

pub up-looks : (n : ℕ) → Looks (up_to n) 63
unfolding up_to
up-looks n = fmt-looks (test-ahead _ _ _ _ _ ue-ahead)

pub within-looks : (low high : ℤ) → Looks (within low high) 63
unfolding within
within-looks low high = fmt-looks (test-ahead _ _ _ _ _ se-ahead)
