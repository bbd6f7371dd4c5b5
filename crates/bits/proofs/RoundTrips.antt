-- What is written is read back: fixed-width bits, ue(v) and se(v), at the place where they were put, whatever the buffer held and holds around them.
use mathlib.Core.Path.{◌≡◌, sym, ap, ◌∙◌}
use mathlib.Core.List.{List, ◌++◌}
use Prim.Native.Nat.{ℕ, ◌+◌, ◌≤◌, ◌<◌, ◌^◌}
use native.Mathlib.Omega.{arith}
use lib.Dec.{T}
use lib.IntN.{ℤ}
use lib.ListN.{length, take, drop, take-append-drop}
use lib.Seq.{length-take-le}
use Rattle.bits.specs.Refusals.{Res, got, bind}
use Rattle.bits.specs.Bits.{Bits, digits, bits_of}
use Rattle.bits.specs.Codes.{fixed_at, ue_at, ue_bits, ue_good, se_of, se_code, se_at, se_bits, se_good}
use Rattle.bits.specs.Put.{put_bits}
use Rattle.bits.proofs.Digits.{length_digits}
use Rattle.bits.proofs.Buffers.{length-bits-put, round_trip}
use Rattle.bits.proofs.Codes.{fixed_back, ue-back, se-code, se-good}

module _ (d : List ℕ) (at : ℕ) where
  -- for any reading that reads the bits l back as a, at a seam
  written_back : {A : Type 0} (read : Bits → ℕ → Res A) (l : Bits) (a : A) → ((p q : Bits) → read (p ++ (l ++ q)) (length p) ≡ got a (length p + length l))
      → at + length l ≤ length (bits_of d) → read (bits_of (put_bits d at l)) at ≡ got a (at + length l)
  written_back read l a back room =
      let t : Bits = bits_of (put_bits d at l) in
      let n : length (take at t) ≡ at = length-take-le at t (omega (arith, length-bits-put d at l)) in
      let whole : t ≡ take at t ++ (l ++ drop (at + length l) t) = sym (take-append-drop at t) ∙ ap (λ (x : Bits). take at t ++ x) (round_trip d at l room) in
      ap (λ (x : Bits). read x at) whole
      ∙ ap (λ (i : ℕ). read (take at t ++ (l ++ drop (at + length l) t)) i) (sym n)
      ∙ back (take at t) (drop (at + length l) t)
      ∙ ap (λ (i : ℕ). got a (i + length l)) n

  pub fixed-written : (n v : ℕ) → v < 2 ^ n → at + n ≤ length (bits_of d) → fixed_at n (bits_of (put_bits d at (digits n v))) at ≡ got v (at + n)
  fixed-written n v h room =
      let e : length (digits n v) ≡ n = length_digits n v in
      written_back (fixed_at n) (digits n v) v (λ p q. fixed_back n v p q h ∙ ap (λ (i : ℕ). got v (length p + i)) (sym e)) (rw e room)
      ∙ ap (λ (i : ℕ). got v (at + i)) e

  pub ue-written : (v : ℕ) → T (ue_good v) → at + length (ue_bits v) ≤ length (bits_of d) → ue_at (bits_of (put_bits d at (ue_bits v))) at ≡ got v (at + length (ue_bits v))
  ue-written v g room = written_back ue_at (ue_bits v) v (λ p q. ue-back v p q g) room

  pub se-written : (z : ℤ) → T (se_good z) → at + length (se_bits z) ≤ length (bits_of d) → se_at (bits_of (put_bits d at (se_bits z))) at ≡ got z (at + length (se_bits z))
  se-written z g room =
      let e = ue-written (se_code z) (rw se-good at g) room in
      ap (λ (m : Res ℕ). bind m (λ k i. got (se_of k) i)) e ∙ ap (λ (x : ℤ). got x (at + length (se_bits z))) (se-code z)
