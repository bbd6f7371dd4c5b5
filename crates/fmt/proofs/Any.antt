-- What holds of any lawful format: which values can be read, that writing gives the bits that were read, and that reading looks at no later bit.
use Prim.Native.Nat.{ℕ, ◌≤◌}
use mathlib.Core.Path.{◌≡◌, ap, sym, ◌∙◌}
use mathlib.Core.List.{[], ◌++◌, append_assoc, append-nil}
use mathlib.Core.Bool.{false}
use native.Mathlib.Nat.{zero-add}
use lib.Dec.{T}
use lib.ListN.{length, take, drop, take-append-drop}
use lib.Seq.{length-take-le, take-append_seam, take-add}
use Rattle.bits.specs.Refusals.{got}
use Rattle.bits.specs.Bits.{Bits}
use Rattle.fmt.specs.Fmt.{Fmt}
use Rattle.fmt.proofs.Lawful.{Exact, Lawful}

module _ {A : Type 0} (F : Fmt A) (L : Lawful F) where
  cut : (s : Bits) (at : ℕ) → at ≤ length s → F.read (take at s ++ drop at s) (length (take at s)) ≡ F.read s at
  cut s at h = rw (take-append-drop, length-take-le at s h)

  pub exact-at : (s : Bits) (at : ℕ) (a : A) (e : ℕ) → at ≤ length s → F.read s at ≡ got a e → Exact F (take at s) (drop at s) a e
  exact-at s at a e h r = L.exact (take at s) (drop at s) a e (cut s at h ∙ r)

  -- a good value is read from its bits alone
  pub readable : (a : A) → T (F.good a) → F.read (F.bits a) 0 ≡ got a (length (F.bits a))
  readable a g = (rw (append-nil (F.bits a), zero-add (length (F.bits a))) at (L.back [] [] a g))

  -- a value that some bits read to is good
  pub good_of : (s : Bits) (at : ℕ) (a : A) (e : ℕ) → at ≤ length s → F.read s at ≡ got a e → T (F.good a)
  good_of s at a e h r = (exact-at s at a e h r).is-good

  -- no bits at all read to a value that is not good
  pub unreadable : (a : A) → F.good a ≡ false → (s : Bits) (at e : ℕ) → at ≤ length s → F.read s at ≡ got a e → ⊥
  unreadable a h s at e k r = rw h at (good_of s at a e k r)

  -- the bits that were read are the bits of the value
  pub rewrites : (s : Bits) (at : ℕ) (a : A) (e : ℕ) → at ≤ length s → F.read s at ≡ got a e → take (length (F.bits a)) (drop at s) ≡ F.bits a
  rewrites s at a e h r =
      let x = exact-at s at a e h r in
      rw x.split (take-append_seam (F.bits a) x.rest)

  -- reading depends on the bits before its end alone
  pub local : (s u : Bits) (at : ℕ) (a : A) (e : ℕ) → at ≤ length s → F.read s at ≡ got a e → take e s ≡ take e u → F.read u at ≡ got a e
  local s u at a e h r w =
      let x = exact-at s at a e h r in
      let k : length (take at s) ≡ at = length-take-le at s h in
      let b : take e s ≡ take at s ++ F.bits a
      = rw (x.place, k, take-add at (length (F.bits a)) s, x.split) (ap (λ (l : Bits). take at s ++ l) (take-append_seam (F.bits a) x.rest)) in
      let v : u ≡ take at s ++ (F.bits a ++ drop e u)
      = sym (take-append-drop e u) ∙ ap (λ (l : Bits). l ++ drop e u) (sym w ∙ b) ∙ append_assoc (take at s) (F.bits a) (drop e u) in
      ap (λ (l : Bits). F.read l at) v
      ∙ ap (F.read (take at s ++ (F.bits a ++ drop e u))) (sym k)
      ∙ L.back (take at s) (drop e u) a x.is-good
      ∙ ap (got a) (sym x.place)
