-- Pieces of text one after another: what two puts come to, and what a copy puts.
use mathlib.Core.Path.{◌≡◌, refl, sym, ap, ◌∙◌}
use mathlib.Core.List.{List, [], ◌∷◌, ◌++◌}
use Prim.Native.Nat.{ℕ, suc, ◌+◌, ◌≤◌}
use native.Mathlib.Omega.{arith}
use native.Mathlib.Nat.{add-zero, zero-add}
use lib.ListN.{length, set, take, drop, length-append}
use lib.Seq.{sets, sets-eq, take-length, take-append_seam, length-sets}
use Rattle.bits.specs.Refusals.{pick}
use Rattle.bits.specs.Copy.{has_room, copied}
use Rattle.bits.proofs.Copies.{copied_all, copied-to}
use Rattle.lines.specs.Text.{Put}
use Rattle.lines.specs.Lines.{Written}

pub sets-append : (x y l : List ℕ) (at : ℕ) → sets (sets l at x) (at + length x) y ≡ sets l at (x ++ y)
sets-append [] y l at = rw add-zero
sets-append (a ∷ x) y l at =
    let e : at + suc (length x) ≡ suc at + length x = omega arith in
    rw e (sets-append x y (set l at a) (suc at))

-- nothing at all
pub nothing : (a : List ℕ) (at : ℕ) → Put a at [] at a
nothing a at = record { end = sym (add-zero at); holds = refl }

-- one byte
pub byte : (a : List ℕ) (at b : ℕ) → Put a at (b ∷ []) (at + 1) (set a at b)
byte a at b = record { end = refl; holds = refl }

-- one text, and another right after it
pub then : {a b c x y : List ℕ} {at m n : ℕ} → Put a at x m b → Put b m y n c → Put a at (x ++ y) n c
then {a} {b} {c} {x} {y} {at} {m} {n} p q =
    record { end = omega (arith, p.end, q.end, length-append x y); holds = q.holds ∙ rw (p.holds, p.end) (sets-append x y a at) }

-- a line, at the front of a buffer of 128 bytes
pub written : {a b x : List ℕ} {n : ℕ} → Put a 0 x n b → n ≤ 128 → Written x a n b
written {a} {b} {x} {n} p h = record { count = p.end ∙ zero-add (length x); short = h; front = p.holds }

-- what its first bytes are then
pub text_of : {a b x : List ℕ} {n : ℕ} → Written x a n b → length a ≡ 128 → take n b ≡ x
text_of {a} {b} {x} {n} w e =
    let z : 0 + length x ≡ length x = zero-add (length x) in
    let f : b ≡ x ++ drop (0 + length x) a = w.front ∙ sets-eq x a 0 (omega (arith, w.count, w.short)) in
    rw (f, w.count) (take-append_seam x (drop (0 + length x) a))

pub same_line : {a b x : List ℕ} {n : ℕ} → Written x a n b → length b ≡ length a
same_line {a} {b} {x} w = ap length w.front ∙ length-sets a 0 x

-- ---- `words`, which copies

pub copied-text : (a w : List ℕ) (at : ℕ) {r : ℕ} {b : List ℕ} → at + length w ≤ length a → r ≡ pick (has_room w a at) (at + length w) at → b ≡ copied w a at → Put a at w r b
copied-text a w at room e f =
    record { end = copied-to w a at room e; holds = f ∙ copied_all w a at room ∙ ap (λ (x : List ℕ). take at a ++ x ++ drop (at + length w) a) (take-length w) ∙ sym (sets-eq w a at room) }
