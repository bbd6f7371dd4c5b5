-- Laws of the block tests, and how the search goes on over a clear part.
use mathlib.Core.Path.{◌≡◌, refl, sym, ap, ◌∙◌}
use mathlib.Core.List.{List}
use mathlib.Core.Bool.{Bool, true, false, ◌&&◌, false≢true}
use Prim.Native.Nat.{ℕ, zero, suc, ◌+◌, ◌-◌, ◌*◌, ◌/◌, ◌%◌, ◌≤◌, ◌<◌}
use native.Mathlib.Omega.{arith}
use native.Mathlib.Nat.{add-zero, mod-eq_of_lt}
use native.Mathlib.Decide.{dec_lt}
use lib.Dec.{eqb, leb}
use lib.Bits.{bit_and, bit_or, bit_xor, and_mask, and_le_l, and_le_r, or_add_and, xor_self}
use borrow.Author.Tests.{eqb-true, leb-true, le-leb}
use lib.ListN.{length, get_or, set, drop, length-drop}
use lib.Seq.{drop-drop, get_or-set_same, get_or-set_other}
use Rattle.scan.specs.Scan.{hit, upto}
use Rattle.scan.specs.Clear.{Spot, Clear, Low, Quiet}
use Rattle.scan.proofs.Hits.{hit-drop, hit-yes, hit-room, upto-miss, upto_le, upto_before}

-- ---- the tests

pub trace-zero : {m f : ℕ} {s : List ℕ} {j : ℕ} → Spot m f s j → bit_or (bit_or (get_or s j 0) (get_or s (j + 1) 0)) (bit_xor (bit_and (get_or s (j + 2) 0) m) f) ≡ 0
trace-zero p = rw (p.one, p.two, p.three)

module _ (m f : ℕ) (s : List ℕ) (i : ℕ) where
  pub clear_none : Clear m f s i (i + 0)
  clear_none j a b p = absurd (omega arith)

  pub clear-join : (e e' : ℕ) → Clear m f s i e → Clear m f s e e' → Clear m f s i e'
  clear-join e e' c d j a b p = go (dec_lt j e)
    where
      go : Dec (j < e) → ⊥
      go (yes h) = c j a h p
      go (no h) = d j (omega arith) b p

  pub clear_step : (k x t y : ℕ) → (0 < x → Clear m f s i (i + k)) → (Spot m f s (i + k) → t ≡ 0) → y ≤ x → y ≤ t → 0 < y → Clear m f s i (i + (k + 1))
  clear_step k x t y c d u v h = clear-join (i + k) (i + (k + 1)) (c (omega arith)) last
    where
      last : Clear m f s (i + k) (i + (k + 1))
      last j a b p = let q : j ≡ i + k = omega arith in omega (arith, d (rw q at p))

pub clear-part : (m f : ℕ) (s : List ℕ) (i e i' e' : ℕ) → i ≤ i' → e' ≤ e → Clear m f s i e → Clear m f s i' e'
clear-part m f s i e i' e' a b c j x y p = c j (omega arith) (omega arith) p

-- ---- every other place

or-zero : (x y : ℕ) → bit_or x y ≡ 0 → (x ≡ 0) × (y ≡ 0)
or-zero x y e = (omega (arith, e, or_add_and x y, and_le_r x y), omega (arith, e, or_add_and x y, and_le_l x y))

-- what two bytes are as one number, and what the test makes of it
pub low-zero : (x y : ℕ) → x ≡ 0 → y ≤ 3 → bit_and (bit_or x (y * 256 % 65536)) 64767 ≡ 0
low-zero x zero e h = rw e
low-zero x (suc zero) e h = rw e
low-zero x (suc (suc zero)) e h = rw e
low-zero x (suc (suc (suc zero))) e h = rw e
low-zero x (suc (suc (suc (suc y)))) e h = absurd (omega arith)

-- one place more: what stands at it makes the test's answer 1
pub none-step : (stands : ℕ → Type 0) (k x t : ℕ) → (x ≡ 0 → (j : ℕ) → j < k → stands j → ⊥) → (stands k → t ≡ 1) → bit_or x t ≡ 0 → (j : ℕ) → j < k + 1 → stands j → ⊥
none-step stands k x t c d e j h p = go (dec_lt j k)
  where
    go : Dec (j < k) → ⊥
    go (yes l) = c (or-zero x t e).0 j l p
    go (no l) = let q : j ≡ k = omega arith in omega (arith, d (rw q at p), (or-zero x t e).1)

-- where the pairs at every other place are not low, nothing begins: of three such bytes the first two or the last two are one of those pairs
pub clear-quiet : (m f : ℕ) (s : List ℕ) (i half : ℕ) → Quiet s i half → Clear m f s i (i + 2 * half)
clear-quiet m f s i half c j a b p = go (dec_lt ((j - i) % 2) 1)
  where
    k : ℕ
    k = (j - i) / 2

    go : Dec ((j - i) % 2 < 1) → ⊥
    go (yes e) =
        let q : j + 1 ≡ i + 1 + 2 * k = omega arith in
        let r : j + 2 ≡ i + 1 + 2 * k + 1 = omega arith in
        c k (omega arith) (record { one = rw q at p.two; two = rw r at p.small })
    go (no e) =
        let q : j ≡ i + 1 + 2 * k = omega arith in
        let r : get_or s (i + 1 + 2 * k + 1) 0 ≡ 0 = rw q at p.two in
        c k (omega arith) (record { one = rw q at p.one; two = omega (arith, r) })

-- ---- the least of four quarters

-- each of the first k bytes of t is at most those of s at its place in the four quarters behind i
abbrev pub Least : List ℕ → ℕ → List ℕ → ℕ → Type 0
Least s i t k = (r : ℕ) → r < k → (q : ℕ) → q < 4 → get_or t r 0 ≤ get_or s (i + 1 + r + 32 * q) 0

pub least_step : (s : List ℕ) (i : ℕ) (t : List ℕ) (k x : ℕ) → k < length t → Least s i t k
    → x ≤ get_or s (i + 1 + k) 0 → x ≤ get_or s (i + 1 + k + 32) 0 → x ≤ get_or s (i + 1 + k + 64) 0 → x ≤ get_or s (i + 1 + k + 96) 0 → Least s i (set t k x) (k + 1)
least_step s i t k x h c a0 a1 a2 a3 r l q m = go (dec_lt r k)
  where
    at : (n : ℕ) → n < 4 → x ≤ get_or s (i + 1 + k + 32 * n) 0
    at zero g = rw add-zero a0
    at (suc zero) g = a1
    at (suc (suc zero)) g = a2
    at (suc (suc (suc zero))) g = a3
    at (suc (suc (suc (suc n)))) g = absurd (omega arith)

    go : Dec (r < k) → get_or (set t k x) r 0 ≤ get_or s (i + 1 + r + 32 * q) 0
    go (yes g) = rw (get_or-set_other t k r x 0 (λ e. omega arith)) (c r g q m)
    go (no g) = let e : r ≡ k = omega arith in rw (e, get_or-set_same t k x 0 h) (at q m)

-- a low pair of a quarter is low among the least
pub quiet-least : (s : List ℕ) (i : ℕ) (t : List ℕ) → Least s i t 32 → ((p : ℕ) → p < 16 → Low t (2 * p) → ⊥) → Quiet s i 64
quiet-least s i t l c k h low =
    let p = k % 16 in
    let q = k / 16 in
    let e : i + 1 + 2 * p + 32 * q ≡ i + 1 + 2 * k = omega arith in
    let f : i + 1 + (2 * p + 1) + 32 * q ≡ i + 1 + 2 * k + 1 = omega arith in
    let a : get_or t (2 * p) 0 ≤ get_or s (i + 1 + 2 * k) 0 = rw e at (l (2 * p) (omega arith) q (omega arith)) in
    let b : get_or t (2 * p + 1) 0 ≤ get_or s (i + 1 + 2 * k + 1) 0 = rw f at (l (2 * p + 1) (omega arith) q (omega arith)) in
    c p (omega arith) (record { one = omega (arith, a, low.one); two = omega (arith, b, low.two) })

-- ---- the first place of a block

module _ (mask f : ℕ) (s : List ℕ) (i : ℕ) where
  pub first_step : (k m t p m' : ℕ) → ((j : ℕ) → j < k → Spot mask f s (i + j) → m ≤ j) → (Spot mask f s (i + k) → t ≡ 0) → (t ≡ 0 → p ≤ k) → m' ≤ m → m' ≤ p
      → (j : ℕ) → j < k + 1 → Spot mask f s (i + j) → m' ≤ j
  first_step k m t p m' c d e u v j h q = go (dec_lt j k)
    where
      go : Dec (j < k) → m' ≤ j
      go (yes l) = omega (arith, c j l q)
      go (no l) = let r : j ≡ k = omega arith in omega (arith, e (d (rw r at q)))

  pub first-clear : (n m : ℕ) → m ≤ n → ((j : ℕ) → j < n → Spot mask f s (i + j) → m ≤ j) → Clear mask f s i (i + m)
  first-clear n m h c j a b p =
      let q : j ≡ i + (j - i) = omega arith in
      omega (arith, c (j - i) (omega arith) (rw q at p))

-- ---- the search over a clear part

all-four : (x y z w : Bool) → (x && (y && (z && w))) ≡ true → (x ≡ true) × (y ≡ true) × (z ≡ true) × (w ≡ true)
all-four false y z w e = absurd (false≢true e)
all-four true false z w e = absurd (false≢true e)
all-four true true false w e = absurd (false≢true e)
all-four true true true w e = (refl, refl, refl, e)

-- 0 and 1
low_byte : (c : ℕ) → c ≤ 1 → bit_xor (bit_and c 254) 0 ≡ 0
low_byte zero h = refl
low_byte (suc zero) h = refl
low_byte (suc (suc c)) h = absurd (omega arith)

-- 0 to 3
low-bytes : (c : ℕ) → c ≤ 3 → bit_xor (bit_and c 252) 0 ≡ 0
low-bytes zero h = refl
low-bytes (suc zero) h = refl
low-bytes (suc (suc zero)) h = refl
low-bytes (suc (suc (suc zero))) h = refl
low-bytes (suc (suc (suc (suc c)))) h = absurd (omega arith)

-- a byte against itself
same_byte : (c : ℕ) → c < 256 → bit_xor (bit_and c 255) c ≡ 0
same_byte c h = rw (and_mask c 8, mod-eq_of_lt h) (xor_self c)

module _ (k m : ℕ) (s : List ℕ) (j : ℕ) (e : hit k m (drop j s) ≡ true) where
  h : j + 2 < length s
  h = omega (arith, hit-room k m (drop j s) e, length-drop j s)

  pub four : (get_or s j 0 ≡ 0) × (get_or s (j + 1) 0 ≡ 0) × (k ≤ get_or s (j + 2) 0) × (get_or s (j + 2) 0 ≤ m)
  four =
      let p = all-four (eqb (get_or s j 0) 0) (eqb (get_or s (j + 1) 0) 0) (leb k (get_or s (j + 2) 0)) (leb (get_or s (j + 2) 0) m) (sym (hit-drop k m s j h) ∙ e) in
      (eqb-true (get_or s j 0) 0 p.0, eqb-true (get_or s (j + 1) 0) 0 p.1, leb-true k (get_or s (j + 2) 0) p.2, leb-true (get_or s (j + 2) 0) m p.3)

  spot-low : m ≤ 1 → Spot 254 0 s j
  spot-low g = record { one = four.0; two = four.1; three = low_byte (get_or s (j + 2) 0) (omega (arith, four.3)); small = omega (arith, four.3) }

  spot-three : m ≤ 3 → Spot 252 0 s j
  spot-three g = record { one = four.0; two = four.1; three = low-bytes (get_or s (j + 2) 0) (omega (arith, four.3)); small = omega (arith, four.3) }

  spot-one : k ≡ m → k ≤ 3 → Spot 255 k s j
  spot-one q g = let c : get_or s (j + 2) 0 ≡ k = omega (arith, four.2, four.3) in record { one = four.0; two = four.1; three = rw c (same_byte k (omega arith)); small = omega (arith, four.3) }

  -- what stands within bounds stands within wider ones
  pub hit-wider : (k' m' : ℕ) → k' ≤ k → m ≤ m' → hit k' m' (drop j s) ≡ true
  hit-wider k' m' a b = hit-yes k' m' s j h four.0 four.1 (omega (arith, four.2)) ∙ le-leb (get_or s (j + 2) 0) m' (omega (arith, four.3))

-- no hit begins in a part, so the search goes on behind it
upto-clear : (k m : ℕ) (s : List ℕ) (i n : ℕ) → i + n ≤ length s → ((j : ℕ) → i ≤ j → j < i + n → hit k m (drop j s) ≡ true → ⊥)
    → i + upto k m (drop i s) ≡ i + n + upto k m (drop (i + n) s)
upto-clear k m s i zero h c = rw add-zero
upto-clear k m s i (suc n) h c = upto-miss k m s i (omega arith) (miss (hit k m (drop i s)) (c i (omega arith) (omega arith))) ∙ rest (upto-clear k m s (i + 1) n (omega arith) (λ j a b. c j (omega arith) (omega arith)))
  where
    miss : (t : Bool) → (t ≡ true → ⊥) → t ≡ false
    miss true n = absurd (n refl)
    miss false n = refl

    rest : i + 1 + upto k m (drop (i + 1) s) ≡ i + 1 + n + upto k m (drop (i + 1 + n) s) → i + 1 + upto k m (drop (i + 1) s) ≡ i + suc n + upto k m (drop (i + suc n) s)
    rest e = let q : i + 1 + n ≡ i + suc n = omega arith in rw q at e

-- none begins before the first
pub none-hit : (k m : ℕ) (s : List ℕ) (from r : ℕ) → r ≡ from + upto k m (drop from s) → (j : ℕ) → from ≤ j → j < r → hit k m (drop j s) ≡ false
none-hit k m s from r is j a b =
    let q : from + (j - from) ≡ j = omega arith in
    let e : drop (j - from) (drop from s) ≡ drop j s = drop-drop (j - from) from s ∙ ap (λ (n : ℕ). drop n s) q in
    sym (ap (hit k m) e) ∙ upto_before k m (drop from s) (j - from) (omega arith)

module _ (k m : ℕ) (s : List ℕ) (from r : ℕ) (a : from ≤ r) (b : r ≤ length s) where
  gone-on : ((j : ℕ) → from ≤ j → j < r → hit k m (drop j s) ≡ true → ⊥) → from + upto k m (drop from s) ≡ r + upto k m (drop r s)
  gone-on c =
      let q : from + (r - from) ≡ r = omega arith in
      rw q at (upto-clear k m s from (r - from) (omega arith) (λ j x y. c j x (omega arith)))

  pub near-low : m ≤ 1 → Clear 254 0 s from r → from + upto k m (drop from s) ≡ r + upto k m (drop r s)
  near-low g c = gone-on (λ j x y e. c j x y (spot-low k m s j e g))

  pub near-three : m ≤ 3 → Clear 252 0 s from r → from + upto k m (drop from s) ≡ r + upto k m (drop r s)
  near-three g c = gone-on (λ j x y e. c j x y (spot-three k m s j e g))

  pub near-one : k ≡ m → k ≤ 3 → Clear 255 k s from r → from + upto k m (drop from s) ≡ r + upto k m (drop r s)
  near-one q g c = gone-on (λ j x y e. c j x y (spot-one k m s j e q g))

-- a search goes on from where one within wider bounds stopped
pub upto-wider : (k m k' m' : ℕ) (s : List ℕ) (from r : ℕ) → k' ≤ k → m ≤ m' → from ≤ length s → r ≡ from + upto k' m' (drop from s)
    → from + upto k m (drop from s) ≡ r + upto k m (drop r s)
upto-wider k m k' m' s from r a b h is =
    let l : upto k' m' (drop from s) ≤ length s - from = rw length-drop at (upto_le k' m' (drop from s)) in
    gone-on k m s from r (omega arith) (omega arith) (λ j x y e. false≢true (sym (none-hit k' m' s from r is j x y) ∙ hit-wider k m s j e k' m' a b))
