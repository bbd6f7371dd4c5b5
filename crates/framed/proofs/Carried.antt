-- Which units are carried: what `is_carried` cites.
use mathlib.Core.Path.{◌≡◌, refl, sym, ◌∙◌}
use mathlib.Core.List.{List, [], ◌∷◌}
use mathlib.Core.Logic.{◌⊎◌, inl, inr}
use mathlib.Core.Bool.{true, false, ◌&&◌, and-false}
use Prim.Native.Nat.{ℕ, ◌+◌, ◌-◌, ◌≤◌, ◌<◌}
use native.Mathlib.Omega.{arith}
use native.Mathlib.Nat.{sub-zero}
use lib.Bits.{bit_and, bit_or, bit_xor, and_zero_r}
use lib.Dec.{eqb, leb}
use borrow.Author.Tests.{eq-eqb, ne_eqb, le-leb, lt-leb}
use native.Mathlib.Decide.{dec_lt}
use lib.ListN.{length, get_or, take, drop, length-take, length-drop}
use lib.Seq.{take-length}
use Rattle.walk.specs.Walk.{upto, kept}
use Rattle.walk.proofs.Hits.{upto_le}
use Rattle.walk.proofs.Scans.{sought}
use Rattle.walk.proofs.Trims.{kept-le, trim-on, trim-stop}
use Rattle.scan.specs.Clear.{Spot, Clear}
use Rattle.scan.proofs.Clears.{clear-part, near-low}
use Rattle.scan.proofs.Hits.{upto-short}
use Rattle.walk.specs.Units.{Span}
use Rattle.framed.specs.Convert.{carried, first_uncarried}
use Rattle.std.specs.Prelude.{Some}

module _ (u : List ℕ) (more : 0 < length u) where
  -- a last byte that is zero
  pub zero-last : get_or u (length u - 1) 0 ≡ 0 → false ≡ carried u
  zero-last z =
      let t : kept (take (length u - 0) u) ≡ kept (take (length u - 1 - 0) u) = trim-on u 0 (length u) more (omega arith) z in
      let k : kept (take (length u - 1 - 0) u) ≤ length (take (length u - 1 - 0) u) = kept-le (take (length u - 1 - 0) u) in
      let m : length (take (length u - 1 - 0) u) ≤ length u - 1 = rw length-take (omega arith) in
      let w : kept u ≡ kept (take (length u - 0) u) = rw (sub-zero, take-length) in
      let n : kept u ≡ length u → ⊥ = λ q. omega arith in
      rw (ne_eqb (kept u) (length u) n) (simp and-false)

  -- another one: then it goes by whether a mark stands in it
  pub other_last : (r : ℕ) → (get_or u (length u - 1) 0 ≡ 0 → ⊥) → r ≡ 0 + upto 0 u → leb (length u) r ≡ carried u
  other_last r z e =
      let t : kept (take (length u - 0) u) ≡ length u - 0 = trim-stop u 0 (length u) more (omega arith) z in
      let w : kept u ≡ kept (take (length u - 0) u) = rw (sub-zero, take-length) in
      let k : kept u ≡ length u = omega arith in
      rw (eq-eqb (kept u) (length u) k) (go (dec_lt (upto 0 u) (length u)))
    where
      go : Dec (upto 0 u < length u) → leb (length u) r ≡ (eqb (upto 0 u) (length u) && true)
      go (yes h) = let n : upto 0 u ≡ length u → ⊥ = λ q. omega arith in rw (lt-leb (length u) r (omega arith), ne_eqb (upto 0 u) (length u) n)
      go (no h) = let m : upto 0 u ≡ length u = omega (arith, upto_le 0 u) in rw (le-leb (length u) r (omega arith), eq-eqb (upto 0 u) (length u) m)

  -- no mark stands in it
  pub none_in : upto 0 u ≡ length u → (get_or u (length u - 1) 0 ≡ 0 → ⊥) → true ≡ carried u
  none_in e z = sym (le-leb (length u) (length u) (omega arith)) ∙ other_last (length u) z (sym e ∙ omega arith)

-- ---- no two zero bytes side by side

-- the smaller of two numbers, by the way on which it was kept
pub lower_of : {P Q : Type 0} {m x m₀ : ℕ} → ((p : P) × (m ≡ x)) ⊎ ((q : Q) × (m ≡ m₀)) → (P → x < m₀) → (Q → m₀ ≤ x) → (m ≤ m₀) × (m ≤ x)
lower_of (inl (p, e)) f g = let h = f p in (omega arith, omega arith)
lower_of (inr (q, e)) f g = let h = g q in (omega arith, omega arith)

-- none stand where both bytes are 0
pub both_zero : {u : List ℕ} {j : ℕ} → Spot 0 0 u j → bit_or (get_or u j 0) (get_or u (j + 1) 0) ≡ 0
both_zero p = rw (p.one, p.two)

-- then nothing begins
no-spot : (m f : ℕ) (u : List ℕ) (e : ℕ) → Clear 0 0 u 0 e → Clear m f u 0 e
no-spot m f u e c j a b p = c j a b (record { one = p.one; two = p.two; three = and_none (get_or u (j + 2) 0); small = p.small })
  where
    and_none : (x : ℕ) → bit_xor (bit_and x 0) 0 ≡ 0
    and_none x = rw (and_zero_r x)

pub no-pair : (u : List ℕ) (e : ℕ) → e ≡ length u - 1 → Clear 0 0 u 0 e → upto 0 u ≡ length u
no-pair u e l c =
    let h = near-low 0 1 u 0 (length u - 2) (omega arith) (omega arith) (omega arith) (clear-part 254 0 u 0 e 0 (length u - 2) (omega arith) (omega arith) (no-spot 254 0 u e c)) in
    let d : length (drop (length u - 2) u) ≡ length u - (length u - 2) = length-drop (length u - 2) u in
    let f = upto-short 0 1 (drop (length u - 2) u) (omega arith) in
    let g = sought 0 u 0 (length u) (omega arith) in
    omega arith

pub empty : (u : List ℕ) → length u ≡ 0 → true ≡ carried u
empty [] h = refl
empty (a ∷ r) h = absurd (omega arith)

-- the first of the units: it is lent as s[p .. m]
module _ (p l m : ℕ) (s : List ℕ) (us : List Span) (inside : p + l ≡ m) where
  part : m - p ≡ l
  part = omega arith

  pub is-on : carried (take (m - p) (drop p s)) ≡ true → first_uncarried (record { place = p; size = l; next = m; read = take l (drop p s) } ∷ us) ≡ first_uncarried us
  is-on e = let f : carried (take l (drop p s)) ≡ true = rw part at e in rw f

  pub is-first : carried (take (m - p) (drop p s)) ≡ false → first_uncarried (record { place = p; size = l; next = m; read = take l (drop p s) } ∷ us) ≡ Some p
  is-first e = let f : carried (take l (drop p s)) ≡ false = rw part at e in rw f
