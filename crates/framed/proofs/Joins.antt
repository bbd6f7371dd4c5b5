-- Units one behind the other, each behind four bytes: what both converters put, unit by unit, and how much of it.
use mathlib.Core.Path.{◌≡◌, refl, ap, ◌∙◌}
use mathlib.Core.List.{List, [], ◌∷◌, ◌++◌}
use mathlib.Core.Bool.{Bool, true, false}
use Prim.Native.Nat.{ℕ, zero, suc, ◌+◌, ◌-◌, ◌*◌, ◌/◌, ◌%◌, ◌≤◌}
use native.Mathlib.Omega.{arith}
use lib.Dec.{leb, ltb}
use borrow.Author.Tests.{leb-true}
use lib.ListN.{length, take, drop, length-append, length-drop, drop_of_length-le}
use lib.Seq.{length-take-le}
use Rattle.bits.specs.Refusals.{pick}
use Rattle.std.specs.Prelude.{Option, Some, None}
use Rattle.std.proofs.lemmas.Option.{same_Some, none-some}
use Rattle.walk.specs.declared.search.Span.{Span as Found}
use Rattle.walk.specs.Walk.{upto, len_of, unit_at, first_from, next_unit}
use Rattle.walk.specs.Units.{Span, units_at, units}
use Rattle.walk.proofs.Chain.{went, ended}
use Rattle.framed.specs.Framed.{four, span_by, framed_at, framed_units, end_of}
use Rattle.framed.specs.Convert.{start_code, length_bytes, joined, bytes_of}
use Rattle.framed.proofs.Frames.{end-within}
use Rattle.framed.proofs.Fills.{Filled, filled-size, filled_on}

-- ---- one unit more

module _ (before : ℕ → List ℕ) {all out₀ out : List ℕ} {o : ℕ} {us vs : List Span} {u : Span} (a b c d : ℕ) (x : List ℕ)
    (first : us ≡ u ∷ vs) (same : x ≡ u.read) (four-before : before (length x) ≡ a ∷ b ∷ c ∷ d ∷ []) (f : Filled all out₀ out o (joined before (bytes_of us))) where
  next : Filled all out₀ out o ((a ∷ b ∷ c ∷ d ∷ x) ++ joined before (bytes_of vs))
  next =
      let e : joined before (bytes_of us) ≡ before (length x) ++ (x ++ joined before (bytes_of vs)) = ap (λ (ws : List Span). joined before (bytes_of ws)) first ∙ rw same in
      rw (e, four-before) at f

  pub unit-room : length all ≤ length out₀ → o + (4 + length x) ≤ length out
  unit-room h =
      let n : o + length ((a ∷ b ∷ c ∷ d ∷ x) ++ joined before (bytes_of vs)) ≡ length all = filled-size next in
      let m : length ((a ∷ b ∷ c ∷ d ∷ x) ++ joined before (bytes_of vs)) ≡ suc (suc (suc (suc (length x)))) + length (joined before (bytes_of vs)) = length-append (a ∷ b ∷ c ∷ d ∷ x) (joined before (bytes_of vs)) in
      let q : length out ≡ length out₀ = f.same in
      omega arith

  pub unit-put : length all ≤ length out₀ → (o' : ℕ) (out' : List ℕ) → o' ≡ o + (4 + length x) → out' ≡ take o out ++ (a ∷ b ∷ c ∷ d ∷ x) ++ drop o' out
      → Filled all out₀ out' o' (joined before (bytes_of vs))
  unit-put h o' out' e g =
      let r : o + (4 + length x) ≤ length out = unit-room h in
      let q : length out ≡ length out₀ = f.same in
      rw g (filled_on (a ∷ b ∷ c ∷ d ∷ x) o' next (omega arith) (omega arith))

-- how much a unit more is, behind its length
pub size-on : {us vs : List Span} {u : Span} (l : ℕ) → us ≡ u ∷ vs → length u.read ≡ l → length (joined length_bytes (bytes_of us)) ≡ 4 + l + length (joined length_bytes (bytes_of vs))
size-on {us} {vs} {u} l e h =
    ap (λ (ws : List Span). length (joined length_bytes (bytes_of ws))) e ∙ omega (arith, length-append u.read (joined length_bytes (bytes_of vs)))

-- ---- start codes take as much room as lengths

codes-size : (k n : ℕ) (l : List ℕ) → k ≤ length l → n + k + length (joined start_code (bytes_of (framed_at k n l))) ≡ end_of (n + k) (framed_at k n l)
codes-size (suc k) n [] h = absurd (omega arith)
codes-size (suc k) n (a ∷ r) h = let e : n + suc k ≡ suc n + k = omega arith in rw e (codes-size k (suc n) r (omega arith))
codes-size zero n [] h = omega arith
codes-size zero n (a ∷ []) h = omega arith
codes-size zero n (a ∷ b ∷ []) h = omega arith
codes-size zero n (a ∷ b ∷ c ∷ []) h = omega arith
codes-size zero n (a ∷ b ∷ c ∷ d ∷ r) h = go (leb (four a b c d) (length r)) refl (codes-size (four a b c d) (n + 4) r)
  where
    rest : List ℕ
    rest = joined start_code (bytes_of (framed_at (four a b c d) (n + 4) r))

    go : (t : Bool) → leb (four a b c d) (length r) ≡ t
        → (four a b c d ≤ length r → n + 4 + four a b c d + length rest ≡ end_of (n + 4 + four a b c d) (framed_at (four a b c d) (n + 4) r))
        → n + 0 + length (joined start_code (bytes_of (pick t (span_by (n + 4) (four a b c d) r ∷ framed_at (four a b c d) (n + 4) r) [])))
        ≡ end_of (n + 0) (pick t (span_by (n + 4) (four a b c d) r ∷ framed_at (four a b c d) (n + 4) r) [])
    go true e ih =
        let w : four a b c d ≤ length r = leb-true (four a b c d) (length r) e in
        let q = ih w in
        let m : length (take (four a b c d) r ++ rest) ≡ length (take (four a b c d) r) + length rest = length-append (take (four a b c d) r) rest in
        let z : length (take (four a b c d) r) ≡ four a b c d = length-take-le (four a b c d) r w in
        omega arith
    go false e ih = omega arith

pub codes-length : (s : List ℕ) → length s ≤ end_of 0 (framed_units s) → length (joined start_code (bytes_of (framed_units s))) ≡ length s
codes-length s h =
    let e : 0 + 0 + length (joined start_code (bytes_of (framed_units s))) ≡ end_of (0 + 0) (framed_units s) = codes-size 0 0 s (omega arith) in
    let w : end_of (0 + 0) (framed_units s) ≤ 0 + length s = end-within 0 0 s (omega arith) in
    omega arith

-- ---- a unit between start codes

pub part_length : (s : List ℕ) (p l : ℕ) → p + l ≤ length s → length (take l (drop p s)) ≡ l
part_length s p l h = length-take-le l (drop p s) (rw length-drop (omega arith))

-- its four bytes
pub length-put : (s : List ℕ) (p l : ℕ) {a b c d : ℕ} → p + l ≤ length s → a ≡ l / 16777216 % 256 → b ≡ l / 65536 % 256 → c ≡ l / 256 % 256 → d ≡ l % 256
    → length_bytes (length (take l (drop p s))) ≡ a ∷ b ∷ c ∷ d ∷ []
length-put s p l h ea eb ec ed = rw (part_length s p l h, ea, eb, ec, ed)

-- its start code lies behind the place that is asked from
pub place-behind : (s : List ℕ) (from : ℕ) {u : Found} → next_unit s from ≡ Some u → from + 3 ≤ u.place
unfolding next_unit unit_at first_from
place-behind s from {u} e = go (ltb (from + upto 1 (drop from s)) (length s)) e
  where
    go : (t : Bool) → ◌≡◌ {A = Option Found} (pick t (Some (record { place = from + upto 1 (drop from s) + 3; length = len_of (drop (from + upto 1 (drop from s) + 3) s); next = from + upto 1 (drop from s) + 3 + upto 0 (drop (from + upto 1 (drop from s) + 3) s) })) None) (Some u) → from + 3 ≤ u.place
    go true q = let z : from + upto 1 (drop from s) + 3 ≡ u.place = ap (λ (f : Found). f.place) (same_Some _ _ q) in omega arith
    go false q = absurd (none-some u q)

-- ---- how much room lengths take at most

-- from a place on: a start code has three bytes, and a length four
most-from : (f : ℕ) (s : List ℕ) (from : ℕ) → from ≤ length s → length s ≤ f + from
    → 3 * length (joined length_bytes (bytes_of (units_at from (drop from s)))) ≤ 4 * (length s - from)
most-from zero s from h g = let l : length s ≤ from = omega arith in rw (drop_of_length-le s l) (omega arith)
most-from (suc f) s from h g = go (next_unit s from) refl (most-from f s)
  where
    go : (x : Option Found) → next_unit s from ≡ x → ((m : ℕ) → m ≤ length s → length s ≤ f + m → 3 * length (joined length_bytes (bytes_of (units_at m (drop m s)))) ≤ 4 * (length s - m))
        → 3 * length (joined length_bytes (bytes_of (units_at from (drop from s)))) ≤ 4 * (length s - from)
    go None e ih = rw (ended s from e) (omega arith)
    go (Some u) e ih =
        let w = went s from u e in
        let b : from + 3 ≤ u.place = place-behind s from e in
        let n = size-on u.length w.there (part_length s u.place u.length (omega arith)) in
        let i = ih u.next (omega arith) (omega arith) in
        omega arith

pub lengths-most : (s : List ℕ) → 3 * length (joined length_bytes (bytes_of (units s))) ≤ 4 * length s
lengths-most s = let m = most-from (length s) s 0 (omega arith) (omega arith) in omega arith
