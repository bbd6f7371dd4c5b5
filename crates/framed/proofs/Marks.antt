-- A unit that is carried ends where a start code 00 00 00 01 follows it, or the recording's end, and nowhere before.
use mathlib.Core.Path.{◌≡◌, refl, ap, ◌∙◌}
use mathlib.Core.List.{List, [], ◌∷◌, ◌++◌, append-nil}
use mathlib.Core.Bool.{Bool, true, false, ◌&&◌, false≢true}
use Prim.Native.Nat.{ℕ, zero, suc, ◌+◌, ◌≤◌, ◌<◌}
use native.Mathlib.Omega.{arith}
use lib.Dec.{eqb}
use borrow.Author.Tests.{eq-eqb, eqb-true, lt-ltb, le-ltb}
use lib.ListN.{length, take, drop, length-append}
use lib.Seq.{take-append_seam, drop-append_seam}
use Rattle.bits.specs.Refusals.{pick}
use Rattle.walk.specs.Walk.{hit, upto, keep, kept, len_of}
use Rattle.walk.specs.Units.{span_of, units_at}
use Rattle.walk.proofs.Hits.{hit-first, hit-second}
use Rattle.walk.proofs.Chain.{mark-first, skip, at_code}
use Rattle.framed.specs.Convert.{carried, start_code, joined, bytes_of}

-- ---- what it says that a unit is carried

pub record Plain (b : List ℕ) : Type 0 where
  pub marks : upto 0 b ≡ length b
  pub last : kept b ≡ length b

pub plain : (b : List ℕ) → carried b ≡ true → Plain b
plain b e = go (eqb (upto 0 b) (length b)) refl (eqb (kept b) (length b)) refl e
  where
    go : (x : Bool) → eqb (upto 0 b) (length b) ≡ x → (y : Bool) → eqb (kept b) (length b) ≡ y → (x && y) ≡ true → Plain b
    go true f true g e = record { marks = eqb-true (upto 0 b) (length b) f; last = eqb-true (kept b) (length b) g }
    go true f false g e = absurd (false≢true e)
    go false f y g e = absurd (false≢true e)

pub is_plain : (b : List ℕ) → Plain b → carried b ≡ true
is_plain b p = rw (eq-eqb (upto 0 b) (length b) p.marks, eq-eqb (kept b) (length b) p.last)

-- ---- a byte less in front

module _ (a : ℕ) (r : List ℕ) (p : Plain (a ∷ r)) where
  no_hit : hit 0 (a ∷ r) ≡ false
  no_hit = go (hit 0 (a ∷ r)) p.marks
    where
      go : (t : Bool) → pick t 0 (suc (upto 0 r)) ≡ suc (length r) → t ≡ false
      go true e = absurd (omega arith)
      go false e = refl

  plain-rest : Plain r
  plain-rest = record { marks = marked (hit 0 (a ∷ r)) p.marks; last = lasts (kept r) p.last }
    where
      marked : (t : Bool) → pick t 0 (suc (upto 0 r)) ≡ suc (length r) → upto 0 r ≡ length r
      marked true e = absurd (omega arith)
      marked false e = omega arith

      one : (t : Bool) → pick t 0 1 ≡ suc (length r) → 0 ≡ length r
      one true e = absurd (omega arith)
      one false e = omega arith

      lasts : (k : ℕ) → keep a k ≡ suc (length r) → k ≡ length r
      lasts zero e = one (eqb a 0) e
      lasts (suc k) e = omega arith

-- the last byte is not zero
last_one : (a : ℕ) → Plain (a ∷ []) → a ≡ 0 → ⊥
last_one a p e = let q : ◌≡◌ {A = ℕ} 0 1 = rw (eq-eqb a 0 e) at p.last in omega arith

-- ---- what follows

-- no mark begins in the unit and ends behind it
across : (a : ℕ) (r q : List ℕ) → Plain (a ∷ r) → hit 0 (a ∷ r ++ 0 ∷ 0 ∷ 0 ∷ q) ≡ false
across a [] q p = hit-first 0 a (0 ∷ 0 ∷ 0 ∷ q) (last_one a p)
across a (b ∷ []) q p = hit-second 0 a b (0 ∷ 0 ∷ 0 ∷ q) (last_one b (plain-rest a (b ∷ []) p))
across a (b ∷ c ∷ r) q p = no_hit a (b ∷ c ∷ r) p

upto-code : (b q : List ℕ) → Plain b → upto 0 (b ++ 0 ∷ 0 ∷ 0 ∷ q) ≡ length b
upto-code [] q p = refl
upto-code (a ∷ r) q p = rw (across a r q p, upto-code r q (plain-rest a r p))

-- behind a start code a unit that is carried is found again, with all after it
pub record Found (b rest : List ℕ) : Type 0 where
  pub mark : upto 0 (b ++ rest) ≡ length b
  pub size : len_of (b ++ rest) ≡ length b

pub found : (b : List ℕ) (bs : List (List ℕ)) → Plain b → Found b (joined start_code bs)
unfolding len_of
found b [] p =
    let e : b ++ [] ≡ b = append-nil b in
    record { mark = rw e p.marks; size = rw (e, p.marks, le-ltb (length b) (length b) (omega arith)) p.last }
found b (c ∷ cs) p =
    let q : List ℕ = 1 ∷ (c ++ joined start_code cs) in
    let m : upto 0 (b ++ 0 ∷ 0 ∷ 0 ∷ 1 ∷ (c ++ joined start_code cs)) ≡ length b = upto-code b (1 ∷ (c ++ joined start_code cs)) p in
    let l : length b < length (b ++ 0 ∷ 0 ∷ 0 ∷ 1 ∷ (c ++ joined start_code cs)) = rw length-append (omega arith) in
    record { mark = m; size = rw (m, lt-ltb (length b) (length (b ++ 0 ∷ 0 ∷ 0 ∷ 1 ∷ (c ++ joined start_code cs))) l) }

-- ---- all of them

abbrev pub AllPlain : List (List ℕ) → Type 0
AllPlain [] = Unit {0}
AllPlain (b ∷ bs) = Plain b × AllPlain bs

-- the units between start codes are those that were put there
pub codes-found : (n : ℕ) (bs : List (List ℕ)) → AllPlain bs → bytes_of (units_at n (joined start_code bs)) ≡ bs
codes-found n [] p = refl
codes-found n (b ∷ bs) p =
    let rest = joined start_code bs in
    let f = found b bs p.0 in
    let X : List ℕ = b ++ joined start_code bs in
    let e : units_at (suc n) (0 ∷ 0 ∷ 1 ∷ X) ≡ span_of (suc n) X ∷ units_at (suc n + 3) X = at_code (suc n) (0 ∷ 0 ∷ 1 ∷ X) refl in
    let k : length b ≤ upto 1 X = omega (arith, mark-first X, f.mark) in
    let g : units_at (suc n + 3) X ≡ units_at (suc n + 3 + length b) (drop (length b) X) = skip (length b) (suc n + 3) X k in
    let d : drop (length b) X ≡ joined start_code bs = drop-append_seam b (joined start_code bs) in
    let t : take (len_of X) X ≡ b = rw f.size (take-append_seam b (joined start_code bs)) in
    ap bytes_of e ∙ rw (t, g, d, codes-found (suc n + 3 + length b) bs p.1)
