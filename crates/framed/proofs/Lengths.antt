-- Units behind their lengths are found again; and a recording framed by length is its units behind their lengths.
use mathlib.Core.Path.{◌≡◌, refl, sym, ap, ap₂, ◌∙◌}
use mathlib.Core.List.{List, [], ◌∷◌, ◌++◌}
use mathlib.Core.Bool.{Bool, true, false}
use Prim.Native.Nat.{ℕ, zero, suc, ◌+◌, ◌*◌, ◌/◌, ◌%◌, ◌≤◌, ◌<◌}
use native.Mathlib.Omega.{arith}
use native.Mathlib.Nat.{add-zero, div-add-mod', div-div-eq-div-mul, div-lt_iff_lt-mul, mod-eq_of_lt}
use lib.Dec.{leb}
use borrow.Author.Tests.{le-leb, leb-true}
use lib.ListN.{length, take, drop, length-append, take-append-drop}
use lib.Seq.{length-take-le, take-append_seam, drop-append_seam}
use Rattle.bits.specs.Refusals.{pick}
use Rattle.framed.specs.Framed.{four, span_by, framed_at, framed_units, end_of}
use Rattle.framed.specs.Convert.{length_bytes, joined, bytes_of}
use Rattle.framed.proofs.Frames.{passed}

-- ---- a length's four bytes

four-of : (n : ℕ) → n < 4294967296 → four (n / 16777216 % 256) (n / 65536 % 256) (n / 256 % 256) (n % 256) ≡ n
four-of n h =
    let a : n / 256 / 256 ≡ n / 65536 = div-div-eq-div-mul n 256 256 in
    let b : n / 65536 / 256 ≡ n / 16777216 = div-div-eq-div-mul n 65536 256 in
    let top : n / 16777216 < 256 = (div-lt_iff_lt-mul {k = 16777216} {x = n} {y = 256} (omega arith)).1 h in
    glue n (n / 256) (n / 65536) (n / 16777216) (n % 256) (n / 256 % 256) (n / 65536 % 256) (n / 16777216 % 256) (div-add-mod' n 256) (rw a at (div-add-mod' (n / 256) 256)) (rw b at (div-add-mod' (n / 65536) 256))
    (mod-eq_of_lt top)
  where
    glue : (n p q r w x y z : ℕ) → p * 256 + w ≡ n → q * 256 + x ≡ p → r * 256 + y ≡ q → z ≡ r → four z y x w ≡ n
    glue n p q r w x y z e f g h = omega arith

-- each below 256: a byte
pub record Four (a b c d : ℕ) : Type 0 where
  pub one : a < 256
  pub two : b < 256
  pub three : c < 256
  pub last : d < 256

bytes-of : {a b c d : ℕ} → Four a b c d → length_bytes (four a b c d) ≡ a ∷ b ∷ c ∷ d ∷ []
bytes-of {a} {b} {c} {d} f =
    let x : four a b c d / 16777216 % 256 ≡ a = omega arith in
    let y : four a b c d / 65536 % 256 ≡ b = omega arith in
    let z : four a b c d / 256 % 256 ≡ c = omega arith in
    let w : four a b c d % 256 ≡ d = omega arith in
    rw (x, y, z, w)

-- ---- units are found again

module _ (b rest : List ℕ) (n : ℕ) (small : length b < 4294967296) where
  unit-found : framed_at 0 n (length_bytes (length b) ++ (b ++ rest)) ≡ span_by (n + 4) (length b) (b ++ rest) ∷ framed_at 0 (n + 4 + length b) rest
  unit-found =
      let q : four (length b / 16777216 % 256) (length b / 65536 % 256) (length b / 256 % 256) (length b % 256) ≡ length b = four-of (length b) small in
      let l : length b ≤ length (b ++ rest) = rw length-append (omega arith) in
      let p : framed_at (length b) (n + 4) (b ++ rest) ≡ framed_at 0 (n + 4 + length b) rest = passed (length b) (n + 4) (b ++ rest) ∙ rw (drop-append_seam b rest) in
      rw (q, le-leb (length b) (length (b ++ rest)) l, p)

-- the units behind their lengths are those that were put there, and no length is broken
pub lengths-found : (n : ℕ) (bs : List (List ℕ)) → length (joined length_bytes bs) < 4294967296 → bytes_of (framed_at 0 n (joined length_bytes bs)) ≡ bs
lengths-found n [] h = refl
lengths-found n (b ∷ bs) h =
    let rest : List ℕ = joined length_bytes bs in
    let m : length (b ++ joined length_bytes bs) ≡ length b + length (joined length_bytes bs) = length-append b (joined length_bytes bs) in
    let e = unit-found b (joined length_bytes bs) n (omega arith) in
    let t : take (length b) (b ++ joined length_bytes bs) ≡ b = take-append_seam b (joined length_bytes bs) in
    ap bytes_of e ∙ ap₂ (λ (x : List ℕ) (xs : List (List ℕ)). x ∷ xs) t (lengths-found (n + 4 + length b) bs (omega arith))

pub lengths-end : (n : ℕ) (bs : List (List ℕ)) → length (joined length_bytes bs) < 4294967296 → end_of n (framed_at 0 n (joined length_bytes bs)) ≡ n + length (joined length_bytes bs)
lengths-end n [] h = sym (add-zero n)
lengths-end n (b ∷ bs) h =
    let m : length (b ++ joined length_bytes bs) ≡ length b + length (joined length_bytes bs) = length-append b (joined length_bytes bs) in
    let e = unit-found b (joined length_bytes bs) n (omega arith) in
    let i = lengths-end (n + 4 + length b) bs (omega arith) in
    ap (end_of n) e ∙ i ∙ omega arith

-- ---- a recording is its units behind their lengths

abbrev pub Bytes : List ℕ → Type 0
Bytes [] = Unit {0}
Bytes (a ∷ r) = (a < 256) × Bytes r

whole-at : (k n : ℕ) (l : List ℕ) → Bytes l → k ≤ length l → end_of (n + k) (framed_at k n l) ≡ n + length l → drop k l ≡ joined length_bytes (bytes_of (framed_at k n l))
whole-at (suc k) n [] w h e = refl
whole-at (suc k) n (a ∷ r) w h e =
    let p : n + suc k ≡ suc n + k = omega arith in
    let q : n + suc (length r) ≡ suc n + length r = omega arith in
    whole-at k (suc n) r w.1 (omega arith) (rw (p, q) at e)
whole-at zero n [] w h e = refl
whole-at zero n (a ∷ []) w h e = absurd (omega arith)
whole-at zero n (a ∷ b ∷ []) w h e = absurd (omega arith)
whole-at zero n (a ∷ b ∷ c ∷ []) w h e = absurd (omega arith)
whole-at zero n (a ∷ b ∷ c ∷ d ∷ r) w h e = go (leb (four a b c d) (length r)) refl (whole-at (four a b c d) (n + 4) r w.1.1.1.1) e
  where
    go : (t : Bool) → leb (four a b c d) (length r) ≡ t
        → (four a b c d ≤ length r → end_of (n + 4 + four a b c d) (framed_at (four a b c d) (n + 4) r) ≡ n + 4 + length r → drop (four a b c d) r ≡ joined length_bytes (bytes_of (framed_at (four a b c d) (n + 4) r)))
        → end_of (n + 0) (pick t (span_by (n + 4) (four a b c d) r ∷ framed_at (four a b c d) (n + 4) r) []) ≡ n + suc (suc (suc (suc (length r))))
        → a ∷ b ∷ c ∷ d ∷ r ≡ joined length_bytes (bytes_of (pick t (span_by (n + 4) (four a b c d) r ∷ framed_at (four a b c d) (n + 4) r) []))
    go true f ih e =
        let l : four a b c d ≤ length r = leb-true (four a b c d) (length r) f in
        let i : drop (four a b c d) r ≡ joined length_bytes (bytes_of (framed_at (four a b c d) (n + 4) r)) = ih l (omega arith) in
        let z : length (take (four a b c d) r) ≡ four a b c d = length-take-le (four a b c d) r l in
        let y : length_bytes (length (take (four a b c d) r)) ≡ a ∷ b ∷ c ∷ d ∷ [] = ap length_bytes z ∙ bytes-of (record { one = w.0; two = w.1.0; three = w.1.1.0; last = w.1.1.1.0 }) in
        ap (λ (x : List ℕ). a ∷ b ∷ c ∷ d ∷ x) (sym (take-append-drop (four a b c d) r)) ∙ ap (λ (x : List ℕ). a ∷ b ∷ c ∷ d ∷ (take (four a b c d) r ++ x)) i
        ∙ ap (λ (x : List ℕ). x ++ (take (four a b c d) r ++ joined length_bytes (bytes_of (framed_at (four a b c d) (n + 4) r)))) (sym y)
    go false f ih e = absurd (omega arith)

pub whole : (s : List ℕ) → Bytes s → end_of 0 (framed_units s) ≡ length s → s ≡ joined length_bytes (bytes_of (framed_units s))
whole s w e = whole-at 0 0 s w (omega arith) (e ∙ omega arith)
