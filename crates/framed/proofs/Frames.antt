-- The units of a recording framed by length, one after the other.
use mathlib.Core.Path.{◌≡◌, refl, ap, ◌∙◌}
use mathlib.Core.List.{List, [], ◌∷◌}
use mathlib.Core.Bool.{Bool, true, false}
use Prim.Native.Nat.{ℕ, zero, suc, ◌+◌, ◌≤◌, ◌<◌}
use native.Mathlib.Omega.{arith}
use native.Mathlib.Nat.{add-zero}
use lib.Dec.{leb}
use borrow.Author.Tests.{le-leb, lt-leb, leb-true}
use lib.ListN.{length, get_or, take, drop, length-drop}
use lib.Seq.{drop-cons, drop-drop}
use Rattle.bits.specs.Refusals.{pick}
use Rattle.walk.specs.Units.{Span}
use Rattle.framed.specs.Framed.{four, span_by, framed_at, end_of}
use Rattle.framed.specs.Convert.{carried, first_uncarried}
use Rattle.std.specs.Prelude.{Some, None}

-- ---- what stands from a place on

-- to skip bytes is to go on behind them
pub passed : (k n : ℕ) (l : List ℕ) → framed_at k n l ≡ framed_at 0 (n + k) (drop k l)
passed zero n l = rw add-zero
passed (suc k) n [] = refl
passed (suc k) n (a ∷ r) = let e : n + suc k ≡ suc n + k = omega arith in rw e (passed k (suc n) r)

-- fewer than four bytes are no length
pub too_few : (n : ℕ) (l : List ℕ) → length l < 4 → framed_at 0 n l ≡ []
too_few n [] h = refl
too_few n (a ∷ []) h = refl
too_few n (a ∷ b ∷ []) h = refl
too_few n (a ∷ b ∷ c ∷ []) h = refl
too_few n (a ∷ b ∷ c ∷ d ∷ r) h = absurd (omega arith)

-- ---- at a place of a recording

-- the length that stands at i
abbrev pub size_at : List ℕ → ℕ → ℕ
size_at s i = four (get_or s i 0) (get_or s (i + 1) 0) (get_or s (i + 2) 0) (get_or s (i + 3) 0)

module _ (s : List ℕ) (i : ℕ) where
  pub short-at : length s < i + 4 → framed_at 0 i (drop i s) ≡ []
  short-at h = too_few i (drop i s) (rw length-drop (omega arith))

  module _ (room : i + 3 < length s) where
    four-drop : drop i s ≡ get_or s i 0 ∷ get_or s (i + 1) 0 ∷ get_or s (i + 2) 0 ∷ get_or s (i + 3) 0 ∷ drop (i + 4) s
    four-drop =
        let e1 : suc i ≡ i + 1 = omega arith in
        let e2 : suc (i + 1) ≡ i + 2 = omega arith in
        let e3 : suc (i + 2) ≡ i + 3 = omega arith in
        let e4 : suc (i + 3) ≡ i + 4 = omega arith in
        rw (drop-cons s i 0 (omega arith), e1, drop-cons s (i + 1) 0 (omega arith), e2, drop-cons s (i + 2) 0 (omega arith), e3, drop-cons s (i + 3) 0 room, e4)

    -- fewer bytes are left than the length says
    pub broken-at : length s < i + 4 + size_at s i → framed_at 0 i (drop i s) ≡ []
    broken-at h =
        let l : length (drop (i + 4) s) < size_at s i = rw length-drop (omega arith) in
        rw (four-drop, lt-leb (size_at s i) (length (drop (i + 4) s)) l)

    -- a unit, and those after it
    pub unit-at : i + 4 + size_at s i ≤ length s
        → framed_at 0 i (drop i s) ≡ span_by (i + 4) (size_at s i) (drop (i + 4) s) ∷ framed_at 0 (i + 4 + size_at s i) (drop (i + 4 + size_at s i) s)
    unit-at h =
        let l : size_at s i ≤ length (drop (i + 4) s) = rw length-drop (omega arith) in
        let p : framed_at (size_at s i) (i + 4) (drop (i + 4) s) ≡ framed_at 0 (i + 4 + size_at s i) (drop (i + 4 + size_at s i) s) = passed (size_at s i) (i + 4) (drop (i + 4) s) ∙ ap (framed_at 0 (i + 4 + size_at s i)) (drop-drop (size_at s i) (i + 4) s) in
        ap (framed_at 0 i) four-drop ∙ rw (le-leb (size_at s i) (length (drop (i + 4) s)) l) (ap (λ (us : List Span). span_by (i + 4) (size_at s i) (drop (i + 4) s) ∷ us) p)

-- ---- where they end

-- the units lie within what they are the units of
pub end-within : (k n : ℕ) (l : List ℕ) → k ≤ length l → end_of (n + k) (framed_at k n l) ≤ n + length l
end-within (suc k) n [] h = absurd (omega arith)
end-within (suc k) n (a ∷ r) h =
    let e : n + suc k ≡ suc n + k = omega arith in
    let f : n + suc (length r) ≡ suc n + length r = omega arith in
    rw (e, f) (end-within k (suc n) r (omega arith))
end-within zero n [] h = omega arith
end-within zero n (a ∷ []) h = omega arith
end-within zero n (a ∷ b ∷ []) h = omega arith
end-within zero n (a ∷ b ∷ c ∷ []) h = omega arith
end-within zero n (a ∷ b ∷ c ∷ d ∷ r) h = go (leb (four a b c d) (length r)) refl (end-within (four a b c d) (n + 4) r)
  where
    go : (t : Bool) → leb (four a b c d) (length r) ≡ t → (four a b c d ≤ length r → end_of (n + 4 + four a b c d) (framed_at (four a b c d) (n + 4) r) ≤ n + 4 + length r)
        → end_of (n + 0) (pick t (span_by (n + 4) (four a b c d) r ∷ framed_at (four a b c d) (n + 4) r) []) ≤ n + suc (suc (suc (suc (length r))))
    go true e ih = let q = ih (leb-true (four a b c d) (length r) e) in omega arith
    go false e ih = omega arith

nowhere : {p : ℕ} → None ≡ Some p → ⊥
nowhere e = let z : ◌≡◌ {A = ℕ} 0 1 = cc in omega arith

-- so none of them that cannot be carried stands behind it
pub uncarried-within : (k n : ℕ) (l : List ℕ) {p : ℕ} → k ≤ length l → first_uncarried (framed_at k n l) ≡ Some p → p ≤ n + length l
uncarried-within (suc k) n [] h e = absurd (omega arith)
uncarried-within (suc k) n (a ∷ r) h e = let q = uncarried-within k (suc n) r (omega arith) e in omega arith
uncarried-within zero n [] h e = absurd (nowhere e)
uncarried-within zero n (a ∷ []) h e = absurd (nowhere e)
uncarried-within zero n (a ∷ b ∷ []) h e = absurd (nowhere e)
uncarried-within zero n (a ∷ b ∷ c ∷ []) h e = absurd (nowhere e)
uncarried-within zero n (a ∷ b ∷ c ∷ d ∷ r) {p} h e = go (leb (four a b c d) (length r)) refl (uncarried-within (four a b c d) (n + 4) r {p = p}) e
  where
    under : (v : Bool) → (first_uncarried (framed_at (four a b c d) (n + 4) r) ≡ Some p → p ≤ n + 4 + length r)
        → pick v (first_uncarried (framed_at (four a b c d) (n + 4) r)) (Some (n + 4)) ≡ Some p → p ≤ n + suc (suc (suc (suc (length r))))
    under true ih q = let z = ih q in omega arith
    under false ih q = let z : n + 4 ≡ p = cc in omega arith

    go : (t : Bool) → leb (four a b c d) (length r) ≡ t
        → (four a b c d ≤ length r → first_uncarried (framed_at (four a b c d) (n + 4) r) ≡ Some p → p ≤ n + 4 + length r)
        → first_uncarried (pick t (span_by (n + 4) (four a b c d) r ∷ framed_at (four a b c d) (n + 4) r) []) ≡ Some p
        → p ≤ n + suc (suc (suc (suc (length r))))
    go true f ih q = under (carried (take (four a b c d) r)) (ih (leb-true (four a b c d) (length r) f)) q
    go false f ih q = absurd (nowhere q)
