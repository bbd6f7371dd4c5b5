-- A body run by run: up to the next 00 00 03 every byte is kept, and what comes behind it is a body of its own.
use mathlib.Core.Path.{◌≡◌, refl, sym, ap, ◌∙◌}
use mathlib.Core.List.{List, [], ◌∷◌, ◌++◌, append_assoc, append-nil}
use mathlib.Core.Bool.{Bool, true, false, false≢true}
use Prim.Native.Nat.{ℕ, zero, suc, ◌+◌, ◌-◌, ◌≤◌, ◌<◌, max}
use native.Mathlib.Omega.{arith}
use native.Mathlib.Nat.{add-zero, le-max_left}
use native.Mathlib.Decide.{dec_lt, dec_le}
use lib.Dec.{eqb}
use borrow.Author.Tests.{le-leb, ne_eqb, eqb-true}
use lib.ListN.{length, get_or, take, drop, length-drop, length-take, length-append, get_or-eq_default, drop_of_length-le, take-append-drop}
use lib.Seq.{drop-cons, get_or-drop, drop-drop, take-add, take_all, take-length, length-take-le, paste, take-paste, drop-paste, length-paste}
use Rattle.bits.specs.Refusals.{pick}
use Rattle.scan.specs.Scan.{hit, upto}
use Rattle.scan.proofs.Hits.{hit-yes, upto-at}
use Rattle.scan.proofs.Clears.{four, none-hit}
use Rattle.escape.specs.Body.{body}
use Rattle.escape.specs.Known.{known_body}
use Rattle.escape.proofs.Bodies.{body-length}

-- 00 00 03 stands at j
pub record Esc (s : List ℕ) (j : ℕ) : Type 0 where
  pub one : get_or s j 0 ≡ 0
  pub two : get_or s (j + 1) 0 ≡ 0
  pub three : get_or s (j + 2) 0 ≡ 3

-- at no place from i up to e
abbrev pub NoEsc : List ℕ → ℕ → ℕ → Type 0
NoEsc s i e = (j : ℕ) → i ≤ j → j < e → Esc s j → ⊥

-- ---- a body over a part without one

-- the zeros before it do not count
body-high : (z : ℕ) (l : List ℕ) → body (suc (suc z)) l ≡ body 2 l
body-high z [] = refl
body-high z (a ∷ r) = rw (le-leb 2 (suc (suc z)) (omega arith)) (go (eqb a 0) (body-high (suc z) r ∙ sym (body-high 1 r)))
  where
    go : (t : Bool) → body (suc (suc (suc z))) r ≡ body 3 r → pick (eqb a 3) (body 0 r) (a ∷ body (pick t (suc (suc (suc z))) 0) r) ≡ pick (eqb a 3) (body 0 r) (a ∷ body (pick t 3 0) r)
    go true e = rw e
    go false e = refl

body-two : (l : List ℕ) → (get_or l 0 0 ≡ 3 → ⊥) → body 2 l ≡ body 1 l
body-two [] n = refl
body-two (c ∷ r) n = rw (ne_eqb c 3 n) (go (eqb c 0))
  where
    go : (t : Bool) → ◌≡◌ {A = List ℕ} (c ∷ body (pick t 3 0) r) (c ∷ body (pick t 2 0) r)
    go true = rw (body-high 1 r)
    go false = refl

body-one : (l : List ℕ) → (get_or l 0 0 ≡ 0 → get_or l 1 0 ≡ 3 → ⊥) → body 1 l ≡ body 0 l
body-one [] n = refl
body-one (b ∷ r) n = go (eqb b 0) refl
  where
    go : (t : Bool) → eqb b 0 ≡ t → ◌≡◌ {A = List ℕ} (b ∷ body (pick t 2 0) r) (b ∷ body (pick t 1 0) r)
    go true e = rw (body-two r (n (eqb-true b 0 e)))
    go false e = refl

pub body-plain : (a : ℕ) (l : List ℕ) → (a ≡ 0 → get_or l 0 0 ≡ 0 → get_or l 1 0 ≡ 3 → ⊥) → body 0 (a ∷ l) ≡ a ∷ body 0 l
body-plain a l n = go (eqb a 0) refl
  where
    go : (t : Bool) → eqb a 0 ≡ t → ◌≡◌ {A = List ℕ} (a ∷ body (pick t 1 0) l) (a ∷ body 0 l)
    go true e = rw (body-one l (n (eqb-true a 0 e)))
    go false e = refl

pub body_run : (s : List ℕ) (i m : ℕ) → i + m ≤ length s → NoEsc s i (i + m) → body 0 (drop i s) ≡ take m (drop i s) ++ body 0 (drop (i + m) s)
body_run s i zero h n = rw add-zero
body_run s i (suc m) h n =
    let q : i + suc m ≡ suc i + m = omega arith in
    rw (drop-cons s i 0 (omega arith), body-plain (get_or s i 0) (drop (suc i) s) here, q) (ap (λ (l : List ℕ). get_or s i 0 ∷ l) (body_run s (suc i) m (omega arith) (λ j a b. n j (omega arith) (omega arith))))
  where
    here : get_or s i 0 ≡ 0 → get_or (drop (suc i) s) 0 0 ≡ 0 → get_or (drop (suc i) s) 1 0 ≡ 3 → ⊥
    here x y z =
        let u : suc i + 0 ≡ i + 1 = omega arith in
        let v : suc i + 1 ≡ i + 2 = omega arith in
        n i (omega arith) (omega arith) (record { one = x; two = rw (get_or-drop (suc i) s 0 0, u) at y; three = rw (get_or-drop (suc i) s 1 0, v) at z })

-- an escape lies within the list
pub esc-room : {s : List ℕ} {j : ℕ} → Esc s j → j + 2 < length s
esc-room {s} {j} p = go (dec_lt (j + 2) (length s))
  where
    go : Dec (j + 2 < length s) → j + 2 < length s
    go (yes h) = h
    go (no h) = absurd (omega (arith, p.three, get_or-eq_default s 0 {n = j + 2} (omega arith)))

module _ (s : List ℕ) (j : ℕ) (p : Esc s j) where
  pub esc-drop : drop j s ≡ 0 ∷ 0 ∷ 3 ∷ drop (j + 3) s
  esc-drop =
      let h2 : j + 2 < length s = esc-room p in
      let e1 : suc j ≡ j + 1 = omega arith in
      let e2 : suc (j + 1) ≡ j + 2 = omega arith in
      let e3 : suc (j + 2) ≡ j + 3 = omega arith in
      rw (drop-cons s j 0 (omega arith), e1, drop-cons s (j + 1) 0 (omega arith), e2, drop-cons s (j + 2) 0 h2, e3, p.one, p.two, p.three)

-- ---- bytes that are known to begin none

-- all of them
known_past : (s : List ℕ) (i k : ℕ) → length s ≤ k → known_body s i k ≡ drop i s
known_past s i k h =
    let l : length (drop i s) ≤ k - i = rw length-drop (omega arith) in
    rw (take_all (k - i) (drop i s) l, drop_of_length-le (drop i s) l) (append-nil (drop i s))

-- where none begins from a up to b, it is the same to know as far as a or as b
known_on : (s : List ℕ) (i a b : ℕ) → i ≤ a → a ≤ b → NoEsc s a b → known_body s i a ≡ known_body s i b
known_on s i a b g h n = go (dec_le b (length s)) (dec_le a (length s))
  where
    on : (e : ℕ) → a ≤ e → e ≤ length s → NoEsc s a e → known_body s i a ≡ known_body s i e
    on e x y m =
        let p : i + (a - i) ≡ a = omega arith in
        let q : a + (e - a) ≡ e = omega arith in
        let r : e - i ≡ a - i + (e - a) = omega arith in
        let u : i + (a - i + (e - a)) ≡ e = omega arith in
        rw (r, take-add (a - i) (e - a) (drop i s), drop-drop (a - i) i s, drop-drop (a - i + (e - a)) i s, p, u, body_run s a (e - a) (omega arith) (rw q m), q)
        (sym (append_assoc (take (a - i) (drop i s)) (take (e - a) (drop a s)) (body 0 (drop e s))))

    go : Dec (b ≤ length s) → Dec (a ≤ length s) → known_body s i a ≡ known_body s i b
    go (yes x) y = on b h x n
    go (no x) (yes y) = on (length s) y (omega arith) (λ j c d p. n j c (omega arith) p) ∙ known_past s i (length s) (omega arith) ∙ sym (known_past s i b (omega arith))
    go (no x) (no y) = known_past s i a (omega arith) ∙ sym (known_past s i b (omega arith))

-- past the unit's end there is none
pub no-known : (unit : List ℕ) (from known : ℕ) → length unit ≤ from → known_body unit from known ≡ []
no-known unit from known h = rw (drop_of_length-le unit {i = from} h) (none (known - from))
  where
    none : (k : ℕ) → take k [] ++ body 0 (drop k []) ≡ []
    none zero = refl
    none (suc k) = refl

-- what is known as far as the start is nothing
known-here : (s : List ℕ) (i k : ℕ) → k ≤ i → known_body s i k ≡ body 0 (drop i s)
known-here s i k h = let z : k - i ≡ 0 = omega arith in rw z

-- so the bytes that are known are the body's
pub known-body : (s : List ℕ) (from known : ℕ) → NoEsc s from known → known_body s from known ≡ body 0 (drop from s)
known-body s from known n = go (dec_le from known)
  where
    go : Dec (from ≤ known) → known_body s from known ≡ body 0 (drop from s)
    go (yes h) = sym (known_on s from from known (omega arith) h n) ∙ known-here s from from (omega arith)
    go (no h) = known-here s from known (omega arith)

-- they are no longer than the unit either
pub known-length : (unit : List ℕ) (from known : ℕ) → length (known_body unit from known) ≤ length unit
known-length unit from known =
    let b = body-length 0 (drop (known - from) (drop from unit)) in
    let t : length (take (known - from) (drop from unit)) + length (drop (known - from) (drop from unit)) ≡ length (drop from unit)
    = sym (length-append (take (known - from) (drop from unit)) (drop (known - from) (drop from unit))) ∙ ap length (take-append-drop (known - from) (drop from unit)) in
    rw length-append (omega (arith, length-drop from unit))

-- a run up to an escape, and what comes behind it
known-run : (s : List ℕ) (i k j : ℕ) → i ≤ k → k ≤ j → NoEsc s k j → Esc s j → known_body s i k ≡ take (j + 2 - i) (drop i s) ++ body 0 (drop (j + 3) s)
known-run s i k j g h n p =
    let a : i + (j - i) ≡ j = omega arith in
    let b : j + 2 - i ≡ j - i + 2 = omega arith in
    known_on s i k j g h n ∙ rw (b, take-add (j - i) 2 (drop i s), drop-drop (j - i) i s, a, esc-drop s j p) (sym (append_assoc (take (j - i) (drop i s)) (0 ∷ 0 ∷ []) (body 0 (drop (j + 3) s))))

-- the last run
known-end : (s : List ℕ) (i k : ℕ) → i ≤ k → NoEsc s k (length s) → known_body s i k ≡ take (length s - i) (drop i s)
known-end s i k g n =
    let l : length (drop i s) ≤ length s - i = rw length-drop (omega arith) in
    go (dec_le k (length s)) ∙ sym (take_all (length s - i) (drop i s) l)
  where
    go : Dec (k ≤ length s) → known_body s i k ≡ drop i s
    go (yes h) = known_on s i k (length s) g h n ∙ known_past s i (length s) (omega arith)
    go (no h) = known_past s i k (omega arith)

-- ---- what the search finds

pub esc-hit : (s : List ℕ) (j : ℕ) → Esc s j → hit 3 3 (drop j s) ≡ true
esc-hit s j p = hit-yes 3 3 s j (esc-room p) p.one p.two (omega (arith, p.three)) ∙ rw p.three

module _ (s : List ℕ) (i e : ℕ) (is : e ≡ i + upto 3 3 (drop i s)) where
  pub none_before : NoEsc s i e
  none_before j a b p = false≢true (sym (none-hit 3 3 s i e is j a b) ∙ esc-hit s j p)

  pub none_left : length s ≤ e → NoEsc s i (length s)
  none_left h j a b p = none_before j a (omega arith) p

  pub found-there : e < length s → Esc s e
  found-there h =
      let g : upto 3 3 (drop i s) < length (drop i s) = rw length-drop (omega arith) in
      let t : hit 3 3 (drop e s) ≡ true = ap (λ (k : ℕ). hit 3 3 (drop k s)) is ∙ sym (ap (hit 3 3) (drop-drop (upto 3 3 (drop i s)) i s)) ∙ upto-at 3 3 (drop i s) g in
      let f = four 3 3 s e t in
      record { one = f.0; two = f.1; three = omega (arith, f.2, f.3) }

-- ---- what `copy_kept` keeps

-- what is copied up to i, where the rest is known as far as k, is `all`
pub record Copied (unit all : List ℕ) (from : ℕ) (scratch₀ scratch : List ℕ) (i o k : ℕ) : Type 0 where
  pub within : i ≤ length unit
  pub ahead : i ≤ k
  pub room : o + from ≤ i
  pub same : length scratch ≡ length scratch₀
  pub done : take o scratch ++ known_body unit i k ≡ all
  pub rest : drop o scratch ≡ drop o scratch₀

pub started : (unit : List ℕ) (from known : ℕ) (s : List ℕ) {k : ℕ} → from ≤ length unit → k ≡ max from known → Copied unit (known_body unit from known) from s s from 0 k
started unit from known s h e =
    record { within = h; ahead = omega (arith, e, le-max_left from known); room = omega arith; same = refl; done = let q : max from known - from ≡ known - from = omega arith in rw (e, q); rest = refl }

-- a run at a time
module _ (unit all : List ℕ) (from : ℕ) (s₀ s : List ℕ) (i o k : ℕ) (w : Copied unit all from s₀ s i o k) where
  pub pasted : (run : List ℕ) (i' : ℕ) → i + length run ≤ i' → i' ≤ length unit → o + length run ≤ length s → known_body unit i k ≡ run ++ body 0 (drop i' unit)
      → Copied unit all from s₀ (paste s o run (length run)) i' (o + length run) i'
  pasted run i' a b c e =
      let n = length run in
      record {
        within = b;
        ahead = omega arith;
        room = omega (arith, w.room);
        same = length-paste s o run n (omega arith) (omega arith) ∙ w.same;
        done = rw (take-paste s o run n (omega arith) (omega arith), take-length run, append_assoc, known-here unit i' i' (omega arith), ← e) w.done;
        rest = rw (drop-paste s o run n (omega arith) (omega arith), ← (drop-drop n o s), ← (drop-drop n o s₀)) (ap (drop n) w.rest);
      }

  -- a run, its escape with it, is copied
  pub went_on : (j x : ℕ) (s' : List ℕ) → k ≤ j → NoEsc unit k j → Esc unit j → length unit ≤ length s₀
      → x ≡ o + length (take (j + 2 - i) (drop i unit)) → s' ≡ paste s o (take (j + 2 - i) (drop i unit)) (length (take (j + 2 - i) (drop i unit)))
      → Copied unit all from s₀ s' (j + 3) x (j + 3)
  went_on j x s' a n p l e f =
      let g : j + 2 < length unit = esc-room p in
      let h : i ≤ k = w.ahead in
      let q : length (take (j + 2 - i) (drop i unit)) ≡ j + 2 - i = rw (length-take, length-drop) (omega arith) in
      let r : length s ≡ length s₀ = w.same in
      let m : o + from ≤ i = w.room in
      rw (e, f) (pasted (take (j + 2 - i) (drop i unit)) (j + 3) (omega arith) (omega arith) (omega arith) (known-run unit i k j h a n p))

  -- the last run is copied
  pub ended : (x : ℕ) (s' : List ℕ) → NoEsc unit k (length unit) → length unit ≤ length s₀
      → x ≡ o + length (take (length unit - i) (drop i unit)) → s' ≡ paste s o (take (length unit - i) (drop i unit)) (length (take (length unit - i) (drop i unit)))
      → (x ≡ length all) × (s' ≡ all ++ drop x s₀)
  ended x s' n l e f =
      let run = take (length unit - i) (drop i unit) in
      let q : length (take (length unit - i) (drop i unit)) ≡ length unit - i = rw (length-take, length-drop) (omega arith) in
      let r : length s ≡ length s₀ = w.same in
      let m : o + from ≤ i = w.room in
      let h : i ≤ length unit = w.within in
      let z : drop (length unit) unit ≡ [] = drop_of_length-le unit {i = length unit} (omega arith) in
      let v = pasted run (length unit) (omega arith) (omega arith) (omega arith) (known-end unit i k w.ahead n ∙ sym (ap (λ (b : List ℕ). run ++ body 0 b) z ∙ append-nil run)) in
      let y : length (paste s o run (length run)) ≡ length s = length-paste s o run (length run) (omega arith) (omega arith) in
      let t : take (o + length run) (paste s o run (length run)) ≡ all = sym (append-nil (take (o + length run) (paste s o run (length run))))
      ∙ ap (λ (b : List ℕ). take (o + length run) (paste s o run (length run)) ++ b) (sym (known_past unit (length unit) (length unit) (omega arith) ∙ z)) ∙ v.done in
      rw (e, f) (
        sym (length-take-le (o + length run) (paste s o run (length run)) (omega arith)) ∙ ap length t,
        sym (take-append-drop (o + length run) (paste s o run (length run))) ∙ rw (t, v.rest),
      )
