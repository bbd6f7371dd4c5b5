-- The cases of unescaping, and what the readers of a body cite: how long it is, and that it stands at the front of scratch.
use mathlib.Core.Path.{◌≡◌, refl, ap, ◌∙◌}
use mathlib.Core.List.{List, [], ◌∷◌}
use mathlib.Core.Bool.{Bool, true, false}
use Prim.Native.Nat.{ℕ, suc, ◌-◌, ◌≤◌, ◌<◌}
use native.Mathlib.Omega.{arith}
use borrow.Author.Tests.{le-leb, lt-leb, leb-true, leb-false}
use lib.Dec.{leb}
use lib.IntN.{pos}
use lib.ListN.{length, take, drop, length-append, length-drop}
use lib.Seq.{take-append_seam}
use Rattle.bits.specs.Refusals.{pick, refusal, buffer_too_short, too_large, limit}
use Rattle.escape.specs.Body.{drops, zeros, body, start_with, Unescaped, placed, unescaped}
use Rattle.escape.specs.Known.{known_body, unescaped_known}
use Rattle.std.specs.Prelude.{Result, Ok, Err}
use Rattle.bits.specs.declared.refusals.Refusal.{Refusal}

-- ---- a body

-- a body is no longer than what it is made of
pub body-length : (z : ℕ) (s : List ℕ) → length (body z s) ≤ length s
body-length z [] = omega arith
body-length z (a ∷ s) = go (drops z a) (body-length 0 s) (body-length (zeros z a) s)
  where
    go : (t : Bool) → length (body 0 s) ≤ length s → length (body (zeros z a) s) ≤ length s
        → length (pick t (body 0 s) (a ∷ body (zeros z a) s)) ≤ suc (length s)
    go true h l = omega arith
    go false h l = omega arith

-- the body of a unit's part is no longer than the unit
pub part_length : (unit : List ℕ) (from : ℕ) → length (body 0 (drop from unit)) ≤ length unit
part_length unit from = omega (arith, body-length 0 (drop from unit), length-drop from unit)

-- ---- what scratch holds

pub front : (s scratch : List ℕ) → take (length s) (start_with s scratch) ≡ s
front s scratch = take-append_seam s (drop (length s) scratch)

pub same-room : (s scratch : List ℕ) → length s ≤ length scratch → length (start_with s scratch) ≡ length scratch
same-room s scratch h = simp (length-append, length-drop) (omega arith)

-- ---- the cases of an answer

abbrev pub answered : Unescaped → Result ℕ Refusal
answered u = u.answer

abbrev pub leaves : Unescaped → List ℕ
leaves u = u.left

module _ (unit b scratch : List ℕ) where
  placed-large : limit < length unit → placed unit b scratch ≡ record { answer = Err (refusal too_large (pos 0)); left = scratch }
  unfolding placed
  placed-large h = rw (lt-leb (length unit) limit h)

  placed-short : length unit ≤ limit → length scratch < length unit
      → placed unit b scratch ≡ record { answer = Err (refusal buffer_too_short (pos (length unit))); left = scratch }
  unfolding placed
  placed-short h l = rw (le-leb (length unit) limit h, lt-leb (length unit) (length scratch) l)

  placed-done : length unit ≤ limit → length unit ≤ length scratch → placed unit b scratch ≡ record { answer = Ok (length b); left = start_with b scratch }
  unfolding placed
  placed-done h l = rw (le-leb (length unit) limit h, le-leb (length unit) (length scratch) l)

-- where the caller knows how far no 00 00 03 begins
module _ (unit : List ℕ) (from known : ℕ) (scratch : List ℕ) where
  pub known-large : limit < length unit → unescaped_known unit from known scratch ≡ record { answer = Err (refusal too_large (pos 0)); left = scratch }
  unfolding unescaped_known
  known-large h = placed-large unit (known_body unit from known) scratch h

  pub known-short : length unit ≤ limit → length scratch < length unit
      → unescaped_known unit from known scratch ≡ record { answer = Err (refusal buffer_too_short (pos (length unit))); left = scratch }
  unfolding unescaped_known
  known-short h l = placed-short unit (known_body unit from known) scratch h l

  pub known-done : length unit ≤ limit → length unit ≤ length scratch
      → unescaped_known unit from known scratch ≡ record { answer = Ok (length (known_body unit from known)); left = start_with (known_body unit from known) scratch }
  unfolding unescaped_known
  known-done h l = placed-done unit (known_body unit from known) scratch h l

module _ (unit : List ℕ) (from : ℕ) (scratch : List ℕ) where
  -- nothing is known before the first byte
  pub none-known : unescaped_known unit from 0 scratch ≡ unescaped unit from scratch
  unfolding unescaped unescaped_known
  none-known = let z : 0 - from ≡ 0 = omega arith in rw z

  pub too_large_lem : limit < length unit → unescaped unit from scratch ≡ record { answer = Err (refusal too_large (pos 0)); left = scratch }
  unfolding unescaped
  too_large_lem h = placed-large unit (body 0 (drop from unit)) scratch h

  pub too_short : length unit ≤ limit → length scratch < length unit
      → unescaped unit from scratch ≡ record { answer = Err (refusal buffer_too_short (pos (length unit))); left = scratch }
  unfolding unescaped
  too_short h l = placed-short unit (body 0 (drop from unit)) scratch h l

  pub done : length unit ≤ limit → length unit ≤ length scratch
      → unescaped unit from scratch ≡ record { answer = Ok (length (body 0 (drop from unit))); left = start_with (body 0 (drop from unit)) scratch }
  unfolding unescaped
  done h l = placed-done unit (body 0 (drop from unit)) scratch h l

  -- whatever the answer, scratch is as long as before
  pub left-length : length (unescaped unit from scratch).left ≡ length scratch
  left-length = go (leb (length unit) limit) (leb (length unit) (length scratch)) refl refl
    where
      room : Unescaped → ℕ
      room u = length u.left

      go : (a b : Bool) → leb (length unit) limit ≡ a → leb (length unit) (length scratch) ≡ b → length (unescaped unit from scratch).left ≡ length scratch
      go false b p q = ap room (too_large_lem (leb-false (length unit) limit p))
      go true false p q = ap room (too_short (leb-true (length unit) limit p) (leb-false (length unit) (length scratch) q))
      go true true p q =
          let h : length unit ≤ length scratch = leb-true (length unit) (length scratch) q in
          ap room (done (leb-true (length unit) limit p) h) ∙ same-room (body 0 (drop from unit)) scratch (omega (arith, part_length unit from))
