-- Copying where there is room, and in few moves.
use mathlib.Core.Path.{◌≡◌, ◌∙◌}
use mathlib.Core.List.{List, ◌++◌, append_assoc, append-nil}
use Prim.Native.Nat.{ℕ, ◌+◌, ◌-◌, ◌≤◌}
use native.Mathlib.Nat.{le_refl, zero-add}
use native.Mathlib.Omega.{arith}
use borrow.Author.Tests.{le-leb}
use lib.ListN.{length, take, drop, length-drop, drop_of_length-le}
use lib.Seq.{paste, length_paste_head, drop-paste, drop-drop, length-take-le, take-append-le, take-append-add, take-take, take-add}
use Rattle.bits.specs.Refusals.{pick}
use Rattle.bits.specs.Copy.{has_room, copied}

module _ (src dst : List ℕ) (at : ℕ) (room : at + length src ≤ length dst) where
  pub copied_all : copied src dst at ≡ paste dst at src (length src)
  unfolding copied
  copied_all = rw (le-leb (at + length src) (length dst) room)

  -- and the place after it
  pub copied-to : {r : ℕ} → r ≡ pick (has_room src dst at) (at + length src) at → r ≡ at + length src
  copied-to e = rw (le-leb (at + length src) (length dst) room) at e

-- k bytes of s from i on, by way of z, which holds k, to d from o on
pub by_way : (s : List ℕ) (i : ℕ) (d : List ℕ) (o : ℕ) (z : List ℕ) (k : ℕ) {b e : List ℕ} → length z ≡ k → i + k ≤ length s
    → b ≡ paste z 0 (take (i + k - i) (drop i s)) (length (take (i + k - i) (drop i s))) → e ≡ paste d o b (length b) → e ≡ paste d o (drop i s) k
by_way s i d o z k {b} hz hs p q =
    let wide : i + k - i ≡ k = omega arith in
    let size : length (take k (drop i s)) ≡ k = length-take-le k (drop i s) (simp length-drop (omega arith)) in
    let same : take k (take k (drop i s)) ≡ take k (drop i s) = take-take k k (drop i s) (le_refl k) in
    let held : b ≡ take k (drop i s) = rw (p, wide, size, same, zero-add k, drop_of_length-le z {i = k} (omega arith)) (append-nil (take k (drop i s))) in
    rw (q, held, size, same)

-- moving bytes i to i + k, where the first j are there already, leaves the first i + k there
module _ (d : List ℕ) (at : ℕ) (s : List ℕ) (i j k : ℕ) (hd : at ≤ length d) (hi : i ≤ j) (hj : j ≤ i + k) (hs : i + k ≤ length s) where
  before-over : take (at + i) (paste d at s j) ≡ take at d ++ take i s
  before-over =
      let h = length-take-le at d hd in
      take-append-le (at + i) (take at d ++ take j s) (drop (at + j) d) (omega (arith, length_paste_head d at s j hd (omega arith)))
      ∙ (rw h at (take-append-add (take at d) (take j s) i))
      ∙ rw (take-take i j s hi)

  behind-over : drop (at + i + k) (paste d at s j) ≡ drop (at + (i + k)) d
  behind-over =
      let m : ℕ = i + k - j in
      let e : at + i + k ≡ at + j + m = omega arith in
      let f : at + (i + k) ≡ at + j + m = omega arith in
      rw (e, f, ← drop-drop m (at + j) (paste d at s j), ← drop-drop m (at + j) d, drop-paste d at s j hd (omega arith))

  pub paste-over : {n : ℕ} {e f : List ℕ} → i + k ≡ n → e ≡ paste d at s j → f ≡ paste e (at + i) (drop i s) k → f ≡ paste d at s n
  paste-over h p q = rw (q, p, ← h, before-over, behind-over, take-add i k s, append_assoc (take at d) (take i s) (take k (drop i s)))
