-- What unescaping does to the front of a body, and which bits stand in its first bytes: for the theorems of damage behind the header.
use Prim.Native.Nat.{ℕ, zero, suc, ◌+◌, ◌-◌, ◌*◌, ◌≤◌, ◌<◌}
use mathlib.Core.Path.{◌≡◌, refl, sym, ap, ◌∙◌}
use mathlib.Core.List.{List, [], ◌∷◌, ◌++◌}
use mathlib.Core.Bool.{Bool, true, false}
use native.Mathlib.Omega.{arith}
use native.Mathlib.Decide.{dec_le}
use native.Mathlib.Nat.{sub-zero, zero-sub, suc-sub-suc}
use lib.ListN.{length, take, drop, take-append-drop, drop_of_length-le}
use lib.Seq.{take-append-le, take_all, take-nil, length-take-le}
use Rattle.bits.specs.Refusals.{pick}
use Rattle.bits.specs.Bits.{bytes_bits}
use Rattle.bits.specs.Put.{bytes_for}
use Rattle.bits.proofs.Slices.{length-bytes, bytes-append}
use Rattle.syntax.specs.SliceHeader.{any_set}
use Rattle.escape.specs.Body.{drops, zeros, body}
use Rattle.promises.specs.Behind.{raw_bytes}

-- ---- bytes

-- what stands behind changes nothing of the bytes that are out by then
body-front : (z : ℕ) (p r : List ℕ) → take (length (body z p)) (body z (p ++ r)) ≡ body z p
body-front z [] r = refl
body-front z (a ∷ p) r = go (drops z a) (body-front 0 p r) (body-front (zeros z a) p r)
  where
    go : (t : Bool) → take (length (body 0 p)) (body 0 (p ++ r)) ≡ body 0 p → take (length (body (zeros z a) p)) (body (zeros z a) (p ++ r)) ≡ body (zeros z a) p
        → take (length (pick t (body 0 p) (a ∷ body (zeros z a) p))) (pick t (body 0 (p ++ r)) (a ∷ body (zeros z a) (p ++ r))) ≡ pick t (body 0 p) (a ∷ body (zeros z a) p)
    go true h l = h
    go false h l = ap (λ (s : List ℕ). a ∷ s) l

-- the raw bytes for n kept ones give these
raw-covers : (z n : ℕ) (v : List ℕ) → body z (take (raw_bytes z n v) v) ≡ take n (body z v)
raw-covers z zero v = refl
raw-covers z (suc n) [] = refl
raw-covers z (suc n) (a ∷ r) = go (drops z a) (raw-covers 0 (suc n) r) (raw-covers (zeros z a) n r)
  where
    go : (t : Bool) → body 0 (take (raw_bytes 0 (suc n) r) r) ≡ take (suc n) (body 0 r) → body (zeros z a) (take (raw_bytes (zeros z a) n r) r) ≡ take n (body (zeros z a) r)
        → pick t (body 0 (take (pick t (raw_bytes 0 (suc n) r) (raw_bytes (zeros z a) n r)) r)) (a ∷ body (zeros z a) (take (pick t (raw_bytes 0 (suc n) r) (raw_bytes (zeros z a) n r)) r))
        ≡ take (suc n) (pick t (body 0 r) (a ∷ body (zeros z a) r))
    go true h l = h
    go false h l = ap (λ (s : List ℕ). a ∷ s) l

-- fewer do not
pub raw-least : (z n : ℕ) (v : List ℕ) (m : ℕ) → m < raw_bytes z n v → length (body z (take m v)) < n
raw-least z zero v m h = absurd (omega arith)
raw-least z (suc n) [] m h = absurd (omega arith)
raw-least z (suc n) (a ∷ r) zero h = omega arith
raw-least z (suc n) (a ∷ r) (suc m) h = go (drops z a) h (raw-least 0 (suc n) r m) (raw-least (zeros z a) n r m)
  where
    go : (t : Bool) → suc m < suc (pick t (raw_bytes 0 (suc n) r) (raw_bytes (zeros z a) n r)) → (m < raw_bytes 0 (suc n) r → length (body 0 (take m r)) < suc n)
        → (m < raw_bytes (zeros z a) n r → length (body (zeros z a) (take m r)) < n) → length (pick t (body 0 (take m r)) (a ∷ body (zeros z a) (take m r))) < suc n
    go true g x y = x (omega arith)
    go false g x y = let w = y (omega arith) in omega arith

pub raw-le : (z n : ℕ) (v : List ℕ) → raw_bytes z n v ≤ length v
raw-le z zero v = omega arith
raw-le z (suc n) [] = omega arith
raw-le z (suc n) (a ∷ r) = go (drops z a) (raw-le 0 (suc n) r) (raw-le (zeros z a) n r)
  where
    go : (t : Bool) → raw_bytes 0 (suc n) r ≤ length r → raw_bytes (zeros z a) n r ≤ length r → suc (pick t (raw_bytes 0 (suc n) r) (raw_bytes (zeros z a) n r)) ≤ suc (length r)
    go true h l = omega arith
    go false h l = omega arith

-- ---- bits

-- the first e bits stand in the first bytes
front-bits : (n e : ℕ) (x : List ℕ) → e ≤ 8 * n → take e (bytes_bits (take n x)) ≡ take e (bytes_bits x)
front-bits n e x h = go (dec_le n (length x))
  where
    go : Dec (n ≤ length x) → take e (bytes_bits (take n x)) ≡ take e (bytes_bits x)
    go (yes l) =
        let i : length (bytes_bits (take n x)) ≡ 8 * n = length-bytes (take n x) ∙ ap (λ (k : ℕ). 8 * k) (length-take-le n x l) in
        sym (take-append-le e (bytes_bits (take n x)) (bytes_bits (drop n x)) (omega arith))
        ∙ ap (take e) (sym (bytes-append (take n x) (drop n x)) ∙ ap bytes_bits (take-append-drop n x))
    go (no l) = ap (λ (s : List ℕ). take e (bytes_bits s)) (take_all n x (omega arith))

-- so they stay, whatever follows the raw bytes that hold them
pub same_bits : (e : ℕ) (v r : List ℕ) → e ≤ length (bytes_bits (body 0 v))
    → take e (bytes_bits (body 0 (take (raw_bytes 0 (bytes_for e) v) v ++ r))) ≡ take e (bytes_bits (body 0 v))
same_bits e v r h =
    let n = bytes_for e in
    let p = take (raw_bytes 0 n v) v in
    let i : e ≤ 8 * bytes_for e = omega arith in
    let c : body 0 (take (raw_bytes 0 (bytes_for e) v) v) ≡ take (bytes_for e) (body 0 v) = raw-covers 0 n v in
    let l : length (bytes_bits (body 0 v)) ≡ 8 * length (body 0 v) = length-bytes (body 0 v) in
    let j : length (body 0 (take (raw_bytes 0 (bytes_for e) v) v)) ≡ bytes_for e = ap length c ∙ length-take-le n (body 0 v) (omega arith) in
    let f : take (bytes_for e) (body 0 (p ++ r)) ≡ take (bytes_for e) (body 0 v) = ap (λ (k : ℕ). take k (body 0 (p ++ r))) (sym j) ∙ body-front 0 p r ∙ c in
    sym (front-bits n e (body 0 (p ++ r)) i) ∙ ap (λ (s : List ℕ). take e (bytes_bits s)) f ∙ front-bits n e (body 0 v) i

-- ---- parts of lists

pub drop-take : (c j : ℕ) (s : List ℕ) → drop c (take j s) ≡ take (j - c) (drop c s)
drop-take zero j s = rw sub-zero
drop-take (suc c) zero s = rw (zero-sub (suc c))
drop-take (suc c) (suc j) [] = sym (take-nil (suc j - suc c))
drop-take (suc c) (suc j) (x ∷ s) = drop-take c j s ∙ ap (λ (k : ℕ). take k (drop c s)) (sym (suc-sub-suc j c))

-- no bit is set behind the end
pub none-set : (e : ℕ) (w : List ℕ) → 8 * length (body 0 w) ≤ e → any_set (drop (e + 1) (bytes_bits (body 0 w))) ≡ false
none-set e w h = ap any_set (drop_of_length-le (bytes_bits (body 0 w)) {i = e + 1} (omega (arith, length-bytes (body 0 w))))
