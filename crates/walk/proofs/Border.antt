-- The units of X ++ S, in two parts. Where S begins with a start code, none lies across the border: first come the units whose start code lies in X, then those of S. And the units whose end mark lies wholly before a place come first. A walk that carries something from unit to unit needs both.
use mathlib.Core.Path.{◌≡◌, refl, sym, subst, ap, ap₂, ◌∙◌}
use mathlib.Core.List.{List, [], ◌∷◌, ◌++◌}
use mathlib.Core.Bool.{Bool, true, false, ◌&&◌, and-false, false≢true}
use Prim.Native.Nat.{ℕ, suc, ◌+◌, ◌≤◌, ◌<◌}
use native.Mathlib.Omega.{arith}
use native.Mathlib.Nat.{add-zero, zero-add}
use lib.Dec.{eqb, leb}
use borrow.Author.Tests.{le-leb, lt-leb, leb-true, leb-false, eqb-true}
use lib.ListN.{length, drop}
use Rattle.bits.specs.Refusals.{pick}
use Rattle.walk.specs.Walk.{hit, upto}
use Rattle.walk.specs.Units.{Span, span_of, units_at, units}
use Rattle.walk.specs.Reports.{starts_from, starts_before, ends_before}
use Rattle.walk.proofs.Chain.{mark-first, skip, at_code}
use Rattle.walk.proofs.Resync.{all_from, tail-units, none_before}

-- ---- the border

-- the three bytes of a start code
pub code-bytes : (S : List ℕ) → hit 1 S ≡ true → S ≡ 0 ∷ 0 ∷ 1 ∷ drop 3 S
code-bytes [] e = absurd (false≢true e)
code-bytes (a ∷ []) e = absurd (false≢true e)
code-bytes (a ∷ b ∷ []) e = absurd (false≢true e)
code-bytes (a ∷ b ∷ c ∷ r) e = go (eqb a 0) refl (eqb b 0) refl (leb 1 c) refl (leb c 1) refl e
  where
    go : (x : Bool) → eqb a 0 ≡ x → (y : Bool) → eqb b 0 ≡ y → (z : Bool) → leb 1 c ≡ z → (w : Bool) → leb c 1 ≡ w → (x && (y && (z && w))) ≡ true
        → a ∷ b ∷ c ∷ r ≡ 0 ∷ 0 ∷ 1 ∷ r
    go true f true g true h true k e =
        let l : 1 ≤ c = leb-true 1 c h in
        let m : c ≤ 1 = leb-true c 1 k in
        let n : c ≡ 1 = omega arith in
        rw (eqb-true a 0 f, eqb-true b 0 g, n)
    go true f true g true h false k e = absurd (false≢true e)
    go true f true g false h w k e = absurd (false≢true e)
    go true f false g z h w k e = absurd (false≢true e)
    go false f y g z h w k e = absurd (false≢true e)

-- no start code ends in a zero
code-last : (a b : ℕ) (r : List ℕ) → hit 1 (a ∷ b ∷ 0 ∷ r) ≡ false
code-last a b r = simp and-false

none_in : (n k : ℕ) (l : List ℕ) → k ≤ n + 2 → starts_before k (units_at n l) ≡ []
none_in n k [] h = refl
none_in n k (a ∷ r) h = go (hit 1 (a ∷ r)) (none_in (suc n) k r (omega arith))
  where
    go : (t : Bool) → starts_before k (units_at (suc n) r) ≡ [] → starts_before k (pick t (span_of n (drop 2 r) ∷ units_at (suc n) r) (units_at (suc n) r)) ≡ []
    go true ih = rw (lt-leb (n + 3) k (omega arith)) ih
    go false ih = ih

-- every unit has its start code wholly before k or wholly from k on, the former first
abbrev pub Parted : ℕ → List Span → Type 0
Parted k us = us ≡ starts_before k us ++ starts_from k us

border-at : (n : ℕ) (X r : List ℕ) → Parted (n + length X) (units_at n (X ++ 0 ∷ 0 ∷ 1 ∷ r))
border-at n [] r =
    let S : List ℕ = 0 ∷ 0 ∷ 1 ∷ r in
    subst (λ (k : ℕ). Parted k (units_at n S)) (sym (add-zero n)) (ap₂ (λ (us vs : List Span). us ++ vs) (sym (none_in n n S (omega arith))) (sym (all_from n n S (omega arith))))
border-at n (a ∷ []) r =
    let e : suc n + 0 ≡ n + 1 = omega arith in
    rw (code-last a 0 (1 ∷ r)) (subst (λ (k : ℕ). Parted k (units_at (suc n) (0 ∷ 0 ∷ 1 ∷ r))) e (border-at (suc n) [] r))
border-at n (a ∷ b ∷ []) r =
    let e : suc n + 1 ≡ n + 2 = omega arith in
    rw (code-last a b (0 ∷ 1 ∷ r)) (subst (λ (k : ℕ). Parted k (units_at (suc n) (b ∷ 0 ∷ 0 ∷ 1 ∷ r))) e (border-at (suc n) (b ∷ []) r))
border-at n (a ∷ b ∷ c ∷ Q) r = go (hit 1 (a ∷ b ∷ c ∷ Q)) (subst (λ (k : ℕ). Parted k (units_at (suc n) (b ∷ c ∷ T))) e (border-at (suc n) (b ∷ c ∷ Q) r))
  where
    B : ℕ
    B = n + suc (suc (suc (length Q)))

    e : suc n + suc (suc (length Q)) ≡ n + suc (suc (suc (length Q)))
    e = omega arith

    T : List ℕ
    T = Q ++ 0 ∷ 0 ∷ 1 ∷ r

    go : (t : Bool) → Parted B (units_at (suc n) (b ∷ c ∷ T)) → Parted B (pick t (span_of n T ∷ units_at (suc n) (b ∷ c ∷ T)) (units_at (suc n) (b ∷ c ∷ T)))
    go true ih = rw (le-leb (n + 3) B (omega arith), lt-leb (B + 3) (n + 3) (omega arith)) (ap (λ (us : List Span). span_of n T ∷ us) ih)
    go false ih = ih

module _ (X S : List ℕ) (code : hit 1 S ≡ true) where
  pub border : Parted (length X) (units (X ++ S))
  border = rw (code-bytes S code) (rw zero-add at (border-at 0 X (drop 3 S)))

  -- the units of X ++ S: those with their start code in X, and then those of S
  pub parts : units (X ++ S) ≡ starts_before (length X) (units (X ++ S)) ++ units_at (length X) S
  parts = border ∙ ap (λ (us : List Span). starts_before (length X) (units (X ++ S)) ++ us) (tail-units X S)

-- ---- the units whose end mark lies wholly before k come first

pub record First (k : ℕ) (us : List Span) : Type 0 where
  pub rest : List Span
  pub joined : us ≡ ends_before k us ++ rest
  pub late : ends_before k rest ≡ []

head_at : (n k : ℕ) (l : List ℕ) → First k (units_at n l)
head_at n k [] = record { rest = []; joined = refl; late = refl }
head_at n k (a ∷ r) = go (hit 1 (a ∷ r)) refl (leb (n + 3 + upto 0 (drop 2 r) + 3) k) refl (head_at (suc n) k r)
  where
    go : (t : Bool) → hit 1 (a ∷ r) ≡ t → (v : Bool) → leb (n + 3 + upto 0 (drop 2 r) + 3) k ≡ v
        → First k (units_at (suc n) r) → First k (pick t (span_of n (drop 2 r) ∷ units_at (suc n) r) (units_at (suc n) r))
    go false e v f ih = ih
    go true e true f ih = record { rest = ih.rest; joined = rw f (ap (λ (us : List Span). span_of n (drop 2 r) ∷ us) ih.joined); late = ih.late }
    go true e false f ih =
        let g : k < n + 3 + upto 0 (drop 2 r) + 3 = leb-false (n + 3 + upto 0 (drop 2 r) + 3) k f in
        let c : units_at n (a ∷ r) ≡ span_of n (drop 2 r) ∷ units_at (n + 3) (drop 2 r) = at_code n (a ∷ r) e in
        let d : units_at (n + 3) (drop 2 r) ≡ units_at (n + 3 + upto 0 (drop 2 r)) (drop (upto 0 (drop 2 r)) (drop 2 r)) = skip (upto 0 (drop 2 r)) (n + 3) (drop 2 r) (mark-first (drop 2 r)) in
        let z : ends_before k (units_at (n + 3) (drop 2 r)) ≡ [] = rw d (none_before (n + 3 + upto 0 (drop 2 r)) k (drop (upto 0 (drop 2 r)) (drop 2 r)) (omega arith)) in
        let s : units_at (suc n) r ≡ units_at (n + 3) (drop 2 r) = cc (rw e at c) in
        record { rest = span_of n (drop 2 r) ∷ units_at (suc n) r; joined = rw (f, s, z); late = rw (f, s, z) }

pub head_first : (k : ℕ) (s : List ℕ) → First k (units s)
head_first k s = head_at 0 k s
