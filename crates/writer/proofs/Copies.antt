-- Copying out: the bytes of bits that were put at the front of one buffer, at the front of another, are the bits put there.
use Prim.Native.Nat.{ℕ, suc, ◌+◌, ◌*◌, ◌/◌, ◌%◌, ◌≤◌, ◌<◌}
use mathlib.Core.Path.{◌≡◌, refl, sym, ap, ap₂, ◌∙◌}
use mathlib.Core.List.{List, [], ◌∷◌, ◌++◌}
use mathlib.Core.Bool.{Bool, true}
use native.Mathlib.Omega.{arith}
use native.Mathlib.Nat.{add-zero, zero-add}
use native.Mathlib.Decide.{ℕ_discrete, dec_le}
use borrow.Author.Tests.{le-leb, lt-leb}
use lib.ListN.{length, get_or, set, take, drop, length-set, take-append-drop}
use lib.Seq.{take-take, take-suc-set, get_or-take, length-take-le, take-length}
use Rattle.bits.specs.Bits.{Bits, bits_of}
use Rattle.bits.specs.Put.{put_bit, put_bits, written, bytes_for}
use Rattle.bits.proofs.Puts.{length-put, put-after}
use Rattle.escape.specs.Body.{start_with}
use Rattle.writer.specs.Write.{out_of}
use Rattle.bits.specs.Copy as copy
use Rattle.bits.proofs.Copies.{copied_all}
use Rattle.writer.specs.Stages.{copied}
use Rattle.writer.proofs.Room.{room-bits, no_room}

-- a byte's first bit leaves nothing of what the byte was
first_bit : (a c r : ℕ) (x : Bool) → r ≡ 0 → put_bit a r x ≡ put_bit c r x
unfolding put_bit
first_bit a c r x e = rw e

-- two buffers that hold the same up to a place hold the same up to the end of the bits put there
same-front : (a c : List ℕ) (at : ℕ) (l : Bits) → bytes_for (at + length l) ≤ length a → bytes_for (at + length l) ≤ length c → take (bytes_for at) a ≡ take (bytes_for at) c
    → take (bytes_for (at + length l)) (put_bits a at l) ≡ take (bytes_for (at + length l)) (put_bits c at l)
unfolding put_bits
same-front a c at [] ha hc e = rw (add-zero at) e
same-front a c at (x ∷ l) ha hc e =
    let k : ℕ = at / 8 in
    let v : ℕ = put_bit (get_or a k 0) (at % 8) x in
    let w : ℕ = put_bit (get_or c k 0) (at % 8) x in
    let n : suc at + length l ≡ at + length (x ∷ l) = omega arith in
    let s : bytes_for (suc at) ≡ suc k = omega arith in
    let before : take k a ≡ take k c = sym (take-take k (bytes_for at) a (omega arith)) ∙ ap (take k) e ∙ take-take k (bytes_for at) c (omega arith) in
    let bit : v ≡ w = by_place a c at x e (ℕ_discrete (at % 8) 0) in
    let step : take (bytes_for (suc at)) (set a k v) ≡ take (bytes_for (suc at)) (set c k w) =
    rw s (take-suc-set a k v (omega arith) ∙ ap₂ (λ (y : List ℕ) (z : ℕ). y ++ (z ∷ [])) before bit ∙ sym (take-suc-set c k w (omega arith))) in
    rw n at (same-front (set a k v) (set c k w) (suc at) l (rw (n, length-set) ha) (rw (n, length-set) hc) step)
  where
    by_place : (a c : List ℕ) (at : ℕ) (x : Bool) → take (bytes_for at) a ≡ take (bytes_for at) c → Dec (at % 8 ≡ 0)
        → put_bit (get_or a (at / 8) 0) (at % 8) x ≡ put_bit (get_or c (at / 8) 0) (at % 8) x
    by_place a c at x e (yes z) = first_bit _ _ (at % 8) x z
    by_place a c at x e (no z) =
        let i : at / 8 < bytes_for at = omega arith in
        ap (λ (b : ℕ). put_bit b (at % 8) x)
        (sym (get_or-take (bytes_for at) a (at / 8) 0 i) ∙ ap (λ (y : List ℕ). get_or y (at / 8) 0) e ∙ get_or-take (bytes_for at) c (at / 8) 0 i)

put-copied : (a c : List ℕ) (l : Bits) → bytes_for (length l) ≤ length a → bytes_for (length l) ≤ length c
    → start_with (take (bytes_for (length l)) (put_bits a 0 l)) c ≡ put_bits c 0 l
put-copied a c l ha hc =
    let m : ℕ = bytes_for (length l) in
    let p : List ℕ = put_bits c 0 l in
    let z = zero-add (length l) in
    let e : take m (put_bits a 0 l) ≡ take m p = rw z at (same-front a c 0 l (rw z ha) (rw z hc) refl) in
    let n : length (take m p) ≡ m = length-take-le m p (rw (length-put c 0 l) hc) in
    ap (λ (s : List ℕ). start_with s c) e
    ∙ ap (λ (i : ℕ). take m p ++ drop i c) n
    ∙ ap (λ (s : List ℕ). take m p ++ s) (sym (put-after m c 0 l (omega (arith, z))))
    ∙ take-append-drop m p

-- so copying out is writing
pub copied-written : (a : List ℕ) (l : Bits) (out : List ℕ) → length l ≤ 8 * 6144 → bytes_for (length l) ≤ length a
    → copied (put_bits a 0 l) (length l) out ≡ out_of (written true l out 0)
unfolding copied written
copied-written a l out s ha = go (dec_le (bytes_for (length l)) (length out))
  where
    go : Dec (bytes_for (length l) ≤ length out) → copied (put_bits a 0 l) (length l) out ≡ out_of (written true l out 0)
    go (yes r) =
        rw (le-leb (bytes_for (length l)) (length out) r, zero-add (length l), le-leb (length l) (length (bits_of out)) (room-bits out (length l) s r), put-copied a out l ha r)
    go (no r) =
        rw (lt-leb (bytes_for (length l)) (length out) (omega arith), zero-add (length l), lt-leb (length l) (length (bits_of out)) (no_room out (length l) (omega arith)))

-- the first m bytes of d, copied to the front
pub copied-front : (d out : List ℕ) (m : ℕ) → m ≤ length d → m ≤ length out → copy.copied (take m d) out 0 ≡ start_with (take m d) out
copied-front d out m hd ho =
    let n : length (take m d) ≡ m = length-take-le m d hd in
    copied_all (take m d) out 0 (omega arith) ∙ ap (λ (s : List ℕ). s ++ drop (0 + length (take m d)) out) (take-length (take m d)) ∙ ap (λ (k : ℕ). take m d ++ drop k out) (zero-add (length (take m d)))
