-- The units of a recording, one after the other: what the next unit is, and that the search goes on to the one after it. What a caller of the search goes by are `went` and `ended`.
use mathlib.Core.Path.{◌≡◌, refl, sym, ap, ◌∙◌}
use mathlib.Core.List.{List, [], ◌∷◌}
use mathlib.Core.Bool.{Bool, true, false, ◌&&◌, false≢true}
use Prim.Native.Nat.{ℕ, zero, suc, ◌+◌, ◌-◌, ◌≤◌, ◌<◌}
use native.Mathlib.Omega.{arith}
use native.Mathlib.Nat.{add-zero}
use lib.Dec.{eqb, leb, ltb}
use borrow.Author.Tests.{le-leb, leb-true, ltb-true, ltb-false}
use lib.ListN.{length, take, drop, length-drop}
use lib.Seq.{drop-drop, drop-length}
use Rattle.bits.specs.Refusals.{pick}
use Rattle.std.specs.Prelude.{Some, None}
use Rattle.std.proofs.lemmas.Option.{same_Some, none-some}
use Rattle.walk.specs.declared.search.Span.{Span as Found}
use Rattle.walk.specs.Walk.{hit, upto, kept, len_of, first_from, unit_at, next_unit}
use Rattle.walk.specs.Units.{Span, span_of, units_at}
use Rattle.walk.proofs.Hits.{hit-first, hit-second, upto_le, upto-at, code-room}
use Rattle.walk.proofs.Trims.{kept-le}

-- ---- start codes

-- the third byte of a start code is 1
code-third : (a b c : ℕ) (r : List ℕ) → hit 1 (a ∷ b ∷ c ∷ r) ≡ true → 1 ≤ c
code-third a b c r e = leb-true 1 c (go (eqb a 0) (eqb b 0) (leb 1 c) e)
  where
    go : (x y z : Bool) → (x && (y && (z && leb c 1))) ≡ true → z ≡ true
    go true true true e = refl
    go true true false e = absurd (false≢true e)
    go true false z e = absurd (false≢true e)
    go false y z e = absurd (false≢true e)

-- a start code is an end mark too
code-mark : (l : List ℕ) → hit 1 l ≡ true → hit 0 l ≡ true
code-mark [] e = absurd (false≢true e)
code-mark (a ∷ []) e = absurd (false≢true e)
code-mark (a ∷ b ∷ []) e = absurd (false≢true e)
code-mark (a ∷ b ∷ c ∷ r) e = rw (le-leb 0 c (omega arith)) (rw (le-leb 1 c (code-third a b c r e)) at e)

-- so the end mark comes no later than the next start code
pub mark-first : (l : List ℕ) → upto 0 l ≤ upto 1 l
mark-first [] = omega arith
mark-first (a ∷ r) = go (hit 1 (a ∷ r)) refl (hit 0 (a ∷ r)) refl (mark-first r)
  where
    go : (x : Bool) → hit 1 (a ∷ r) ≡ x → (y : Bool) → hit 0 (a ∷ r) ≡ y → upto 0 r ≤ upto 1 r → pick y 0 (suc (upto 0 r)) ≤ pick x 0 (suc (upto 1 r))
    go true e true f h = omega arith
    go true e false f h = absurd (false≢true (sym f ∙ code-mark (a ∷ r) e))
    go false e true f h = omega arith
    go false e false f h = omega arith

-- ---- the units from a place on

-- up to the first start code there is no unit
pub skip : (k n : ℕ) (l : List ℕ) → k ≤ upto 1 l → units_at n l ≡ units_at (n + k) (drop k l)
skip zero n l h = rw add-zero
skip (suc k) n [] h = refl
skip (suc k) n (a ∷ r) h = go (hit 1 (a ∷ r)) h (skip k (suc n) r)
  where
    go : (t : Bool) → suc k ≤ pick t 0 (suc (upto 1 r)) → (k ≤ upto 1 r → units_at (suc n) r ≡ units_at (suc n + k) (drop k r))
        → pick t (span_of n (drop 2 r) ∷ units_at (suc n) r) (units_at (suc n) r) ≡ units_at (n + suc k) (drop k r)
    go true g ih = absurd (omega arith)
    go false g ih = let e : n + suc k ≡ suc n + k = omega arith in rw e (ih (omega arith))

-- where there is none, there is no unit at all
no_more : (n : ℕ) (l : List ℕ) → length l ≤ upto 1 l → units_at n l ≡ []
no_more n l h = skip (length l) n l h ∙ rw drop-length

-- at a start code there is one, and no other begins before its first byte
pub at_code : (n : ℕ) (l : List ℕ) → hit 1 l ≡ true → units_at n l ≡ span_of n (drop 3 l) ∷ units_at (n + 3) (drop 3 l)
at_code n [] e = absurd (false≢true e)
at_code n (a ∷ []) e = absurd (false≢true e)
at_code n (a ∷ b ∷ []) e = absurd (false≢true e)
at_code n (a ∷ b ∷ c ∷ r) e =
    let h = code-third a b c r e in
    let z : c ≡ 0 → ⊥ = omega arith in
    let m : n + 3 ≡ suc (suc (suc n)) = omega arith in
    rw (e, hit-second 1 b c r z, hit-first 1 c r z, m)

-- the first unit from a place on, and the units after it, from where it says to go on
one_on : (s : List ℕ) (from at : ℕ) → at ≡ from + upto 1 (drop from s) → at < length s
    → units_at from (drop from s)
    ≡ span_of at (drop (at + 3) s) ∷ units_at (at + 3 + upto 0 (drop (at + 3) s)) (drop (at + 3 + upto 0 (drop (at + 3) s)) s)
one_on s from at e h =
    let k = upto 1 (drop from s) in
    let b = drop (at + 3) s in
    let l : upto 1 (drop from s) < length (drop from s) = rw length-drop (omega arith) in
    let d : drop (upto 1 (drop from s)) (drop from s) ≡ drop at s = rw (drop-drop (upto 1 (drop from s)) from s, ← e) in
    let c : hit 1 (drop at s) ≡ true = rw d at (upto-at 1 (drop from s) l) in
    let e1 : units_at from (drop from s) ≡ units_at at (drop at s) = rw (← d, e) (skip k from (drop from s) (omega arith)) in
    let e2 : units_at at (drop at s) ≡ span_of at b ∷ units_at (at + 3) b = rw (drop-drop 3 at s) at (at_code at (drop at s) c) in
    let e3 : units_at (at + 3) b ≡ units_at (at + 3 + upto 0 b) (drop (at + 3 + upto 0 b) s) = rw (drop-drop (upto 0 b) (at + 3) s) at (skip (upto 0 b) (at + 3) b (mark-first b)) in
    e1 ∙ e2 ∙ ap (λ (us : List Span). span_of at b ∷ us) e3

-- ---- what the search found

len-le : (b : List ℕ) → len_of b ≤ upto 0 b
unfolding len_of
len-le b = go (ltb (upto 0 b) (length b)) refl
  where
    go : (t : Bool) → ltb (upto 0 b) (length b) ≡ t → pick t (upto 0 b) (kept b) ≤ upto 0 b
    go true e = omega arith
    go false e = omega (arith, kept-le b, ltb-false (upto 0 b) (length b) e)

-- asked from `from` it found a unit at p with l bytes, and says to go on from m: that lies ahead and within the recording, the unit before it, and the unit is the first of those from `from` on, with those from m on after it
pub record Went (s : List ℕ) (from p l m : ℕ) : Type 0 where
  pub on : from < m
  pub within : m ≤ length s
  pub inside : p + l ≤ m
  pub there : units_at from (drop from s) ≡ record { place = p; size = l; next = m; read = take l (drop p s) } ∷ units_at m (drop m s)

pub went : (s : List ℕ) (from : ℕ) (u : Found) → next_unit s from ≡ Some u → Went s from u.place u.length u.next
unfolding next_unit unit_at first_from
went s from u e = go (from + upto 1 (drop from s)) refl (ltb (from + upto 1 (drop from s)) (length s)) refl
  where
    go : (at : ℕ) → at ≡ from + upto 1 (drop from s) → (t : Bool) → ltb (from + upto 1 (drop from s)) (length s) ≡ t → Went s from u.place u.length u.next
    go at d true f =
        let b = drop (at + 3) s in
        let lt : at < length s = ltb-true at (length s) (rw d f) in
        let q : ◌≡◌ {A = Found} (record { place = at + 3; length = len_of b; next = at + 3 + upto 0 b }) u = same_Some _ _ (rw (f, ← d) at e) in
        let qp : at + 3 ≡ u.place = λ i. (q i).place in
        let ql : len_of b ≡ u.length = λ i. (q i).length in
        let qm : at + 3 + upto 0 b ≡ u.next = λ i. (q i).next in
        let room : at + 3 ≤ length s = code-room s from at d lt in
        let lb : length b ≡ length s - (at + 3) = length-drop (at + 3) s in
        record {
          on = omega arith;
          within = omega (arith, upto_le 0 b);
          inside = omega (arith, len-le b);
          there = rw (← qp, ← ql, ← qm) (one_on s from at d lt);
        }
    go at d false f = absurd (none-some u (rw f at e))

pub ended : (s : List ℕ) (from : ℕ) → next_unit s from ≡ None → units_at from (drop from s) ≡ []
unfolding next_unit unit_at first_from
ended s from e = go (ltb (from + upto 1 (drop from s)) (length s)) refl
  where
    go : (t : Bool) → ltb (from + upto 1 (drop from s)) (length s) ≡ t → units_at from (drop from s) ≡ []
    go true f = absurd (none-some _ (sym (rw f at e)))
    go false f =
        let ge : length s ≤ from + upto 1 (drop from s) = ltb-false (from + upto 1 (drop from s)) (length s) f in
        no_more from (drop from s) (rw length-drop (omega arith))
