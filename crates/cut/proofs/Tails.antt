-- A body byte by byte: what a byte adds to it, and what is left where bytes are passed over or stored.
use Prim.Native.Nat.{ℕ, zero, suc, ◌+◌, ◌-◌, ◌*◌, ◌≤◌, ◌<◌}
use mathlib.Core.Path.{◌≡◌, refl, sym, ap, ◌∙◌}
use mathlib.Core.List.{List, [], ◌∷◌, ◌++◌, append_assoc, append-nil}
use mathlib.Core.Bool.{Bool, true, false}
use native.Mathlib.Omega.{arith}
use native.Mathlib.Numerals.{add-one}
use borrow.Author.Tests.{leb-true, leb-false}
use lib.Dec.{leb}
use lib.ListN.{length, get_or, take, drop, set, replicate, length-append, length-take, length-replicate, take-append-drop, drop_of_length-le}
use lib.Seq.{drop-cons, take_all, length-take-le, take-append_seam}
use Rattle.bits.specs.Refusals.{pick}
use Rattle.bits.specs.Bits.{Bits, bytes_bits, bits_of}
use Rattle.bits.proofs.Slices.{length-bytes, bytes-append, bits-reach}
use Rattle.escape.specs.Body.{drops, zeros, body, start_with}
use Rattle.cut.specs.Seam.{body_bits, tail_body}
use Rattle.cut.proofs.AnySet.{drop-bytes}
use Rattle.cut.proofs.Seams.{drop-three}
use Rattle.cut.proofs.Firsts.{held, one_more}

module _ (unit : List ℕ) (z i : ℕ) (h : i < length unit) where
  abbrev a : ℕ
  a = get_or unit i 0

  abbrev rest : List ℕ
  rest = body (zeros z a) (drop (suc i) unit)

  -- a byte that is dropped, and one that is kept
  next-dropped : drops z a ≡ true → body z (drop i unit) ≡ rest
  next-dropped e =
      let p : zeros z a ≡ 0 = rw (drop-three z a e) in
      ap (body z) (drop-cons unit i 0 h) ∙ rw (e, p)

  next-kept : drops z a ≡ false → body z (drop i unit) ≡ a ∷ rest
  next-kept e = ap (body z) (drop-cons unit i 0 h) ∙ rw e

  pub next-length : length (body z (drop i unit)) ≡ pick (drops z a) 0 1 + length rest
  next-length = go (drops z a) refl
    where
      go : (b : Bool) → drops z a ≡ b → length (body z (drop i unit)) ≡ pick b 0 1 + length rest
      go true e = rw (next-dropped e) (omega arith)
      go false e = rw (next-kept e) (omega arith)

  pub next-drop : (m : ℕ) → 0 < m → drop m (body z (drop i unit)) ≡ drop (m - pick (drops z a) 0 1) rest
  next-drop m g = go (drops z a) m refl g
    where
      go : (b : Bool) (m : ℕ) → drops z a ≡ b → 0 < m → drop m (body z (drop i unit)) ≡ drop (m - pick b 0 1) rest
      go true m e g = let q : m ≡ m - 0 = omega arith in rw (next-dropped e) (ap (λ (k : ℕ). drop k rest) q)
      go false zero e g = absurd (omega arith)
      go false (suc m) e g = let q : m ≡ suc m - 1 = omega arith in rw (next-kept e) (ap (λ (k : ℕ). drop k rest) q)

-- passing over bytes: the byte k is k - n further on
pub passed : (k n : ℕ) (x : List ℕ) → k ≤ n → x ≡ drop (k - n) x
passed k n x h = let e : 0 ≡ k - n = omega arith in ap (λ (m : ℕ). drop m x) e

pub passed_on : (unit : List ℕ) (z i : ℕ) (h : i < length unit) (k n : ℕ) → n < k → {m w : ℕ} → m ≡ pick (drops z (get_or unit i 0)) 0 1 → w ≡ zeros z (get_or unit i 0)
    → drop (k - (n + m)) (body w (drop (i + 1) unit)) ≡ drop (k - n) (body z (drop i unit))
passed_on unit z i h k n l {m} {w} p q =
    let e : k - (n + pick (drops z (get_or unit i 0)) 0 1) ≡ k - n - pick (drops z (get_or unit i 0)) 0 1 = omega arith in
    rw (p, q, add-one, e) (sym (next-drop unit z i h (k - n) (omega arith)))

-- a byte is at most one of the body
pub few-kept : (z a : ℕ) → pick (drops z a) 0 1 ≤ 1
few-kept z a = go (drops z a)
  where
    go : (b : Bool) → pick b 0 1 ≤ 1
    go true = omega arith
    go false = omega arith

pub none_left : (unit : List ℕ) (z i : ℕ) → length unit ≤ i → body z (drop i unit) ≡ []
none_left unit z i h = rw (drop_of_length-le unit {i = i} h)

-- ---- bytes that are stored

-- n bytes of the body x stand at the front of an array that was `before`, and y is what follows them
pub record Stored (x before local : List ℕ) (n : ℕ) (y : List ℕ) : Type 0 where
  pub front : List ℕ
  pub count : n ≡ length front
  pub whole : front ++ y ≡ x
  pub holds : local ≡ start_with front before

pub none-stored : (x before : List ℕ) → Stored x before before 0 x
none-stored x before = record { front = []; count = refl; whole = refl; holds = refl }

module _ (x before local : List ℕ) (n : ℕ) (unit : List ℕ) (z i : ℕ) (h : i < length unit) (room : n < length before)
    (s : Stored x before local n (body z (drop i unit))) where
  pub store-next : Stored x before (pick (drops z (get_or unit i 0)) local (set local n (get_or unit i 0))) (n + pick (drops z (get_or unit i 0)) 0 1) (body (zeros z (get_or unit i 0)) (drop (suc i) unit))
  store-next = go (drops z (get_or unit i 0)) refl
    where
      b : ℕ
      b = get_or unit i 0

      go : (t : Bool) → drops z (get_or unit i 0) ≡ t → Stored x before (pick t local (set local n (get_or unit i 0))) (n + pick t 0 1) (body (zeros z (get_or unit i 0)) (drop (suc i) unit))
      go true e =
          record {
            front = s.front;
            count = omega (arith, s.count);
            whole = rw (← next-dropped unit z i h e) s.whole;
            holds = s.holds;
          }
      go false e =
          record {
            front = s.front ++ (get_or unit i 0 ∷ []);
            count = omega (arith, s.count, length-append s.front (get_or unit i 0 ∷ []));
            whole = append_assoc s.front (get_or unit i 0 ∷ []) (body (zeros z (get_or unit i 0)) (drop (suc i) unit)) ∙ rw (← next-kept unit z i h e) s.whole;
            holds =
                ap (λ (l : List ℕ). set l n (get_or unit i 0)) s.holds
                ∙ ap (λ (k : ℕ). set (start_with s.front before) k (get_or unit i 0)) s.count
                ∙ one_more s.front before (get_or unit i 0) (omega (arith, s.count));
          }

-- all that there is room for, or all that there are
module _ (x before local : List ℕ) (n : ℕ) (y : List ℕ) (s : Stored x before local n y) (room : ℕ) where
  told : take room x ≡ s.front → (n ≡ length (take room x)) × (local ≡ start_with (take room x) before)
  told e = rw e (s.count, s.holds)

  pub stored-full : n ≡ room → (n ≡ length (take room x)) × (local ≡ start_with (take room x) before)
  stored-full e = told (rw (← s.whole, ← e, s.count) (take-append_seam s.front y))

  pub stored-all : n ≤ room → y ≡ [] → (n ≡ length (take room x)) × (local ≡ start_with (take room x) before)
  stored-all l e =
      let w : s.front ≡ x = sym (append-nil s.front) ∙ ap (λ (r : List ℕ). s.front ++ r) (sym e) ∙ s.whole in
      told (take_all room x (omega (arith, s.count, ap length w)) ∙ sym w)

-- ---- a part further back, in an array of zeros

tail-few : (unit : List ℕ) (from k : ℕ) → length (tail_body unit from k) ≤ 256
tail-few unit from k = omega (arith, length-take 256 (drop k (body 0 (drop from unit))))

module _ (unit : List ℕ) (from k : ℕ) {r : ℕ} {z : List ℕ} where
  pub tail-held : r ≡ length (tail_body unit from k) → z ≡ start_with (tail_body unit from k) (replicate 256 0) → (r ≤ length z) × (take r z ≡ tail_body unit from k)
  tail-held = held (tail_body unit from k) (replicate 256 0) (omega (arith, tail-few unit from k, length-replicate {A = ℕ} 256 0))

pub tail-bits : (unit : List ℕ) (from k : ℕ) {x : List ℕ} → x ≡ tail_body unit from k → bits_of x ≡ bytes_bits (tail_body unit from k)
tail-bits unit from k e = ap bits_of e ∙ bits-reach (tail_body unit from k) (omega (arith, tail-few unit from k))

-- it is all that follows, or 2,048 bits of it
module _ {A : Type 0} (f : Bits → A) (h : (s r : Bits) → 2048 ≤ length s → f (s ++ r) ≡ f s) (unit : List ℕ) (from k : ℕ) where
  abbrev X : List ℕ
  X = drop k (body 0 (drop from unit))

  behind : bytes_bits X ≡ drop (8 * k) (body_bits unit from)
  behind = let e : 8 * k + 0 ≡ 8 * k = omega arith in rw e at (sym (drop-bytes k 0 (body 0 (drop from unit))))

  pub tail-same : f (bytes_bits (tail_body unit from k)) ≡ f (drop (8 * k) (body_bits unit from))
  tail-same = go (leb (length X) 256) refl ∙ ap f behind
    where
      go : (b : Bool) → leb (length X) 256 ≡ b → f (bytes_bits (take 256 X)) ≡ f (bytes_bits X)
      go true e = ap (λ (l : List ℕ). f (bytes_bits l)) (take_all 256 X (leb-true (length X) 256 e))
      go false e =
          let l : 256 < length X = leb-false (length X) 256 e in
          sym
          (ap (λ (l : List ℕ). f (bytes_bits l)) (sym (take-append-drop 256 X))
          ∙ ap f (bytes-append (take 256 X) (drop 256 X))
          ∙ h (bytes_bits (take 256 X)) (bytes_bits (drop 256 X)) (omega (arith, length-bytes (take 256 X), length-take-le 256 X (omega arith))))
