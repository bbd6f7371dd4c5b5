-- A write's three ends: the value has no bits, there is no room, the bits are put.
use mathlib.Core.Path.{◌≡◌, refl, ap, ◌∙◌}
use mathlib.Core.List.{List}
use mathlib.Core.Bool.{Bool, true, false}
use Prim.Native.Nat.{ℕ, ◌+◌, ◌*◌, ◌^◌, ◌≤◌, ◌<◌}
use native.Mathlib.Omega.{arith}
use borrow.Author.Tests.{leb-true, lt-ltb}
use lib.Dec.{ltb, leb}
use lib.IntN.{ℤ, pos, nat_abs}
use lib.ListN.{length}
use Rattle.bits.specs.declared.read.Cursor.{Cursor}
use Rattle.bits.specs.declared.refusals.Refusal.{Refusal}
use Rattle.bits.specs.Refusals.{pick, refusal, no_bits, buffer_too_short}
use Rattle.bits.specs.Bits.{Bits, bits_of, reach}
use Rattle.bits.specs.Codes.{bit_of, u_bits, u_good, flag_bits, ue_bits, ue_good, se_bits, se_good, se_code}
use Rattle.bits.specs.Put.{put_bits, Written, written, bytes_for}
use Rattle.bits.proofs.SeCodes.{code-small}
use Rattle.bits.proofs.Slices.{length-bits}
use Rattle.bits.proofs.Buffers.{bits_fit}
use Rattle.std.specs.Prelude.{Result, Ok, Err}

-- the room that has_room tests
abbrev pub room_of : List ℕ → ℕ
room_of d = 8 * pick (ltb (length d) reach) (length d) reach

-- what an answer r and a buffer t have to be
abbrev pub Ends : Bool → Bits → List ℕ → ℕ → Result Cursor Refusal → List ℕ → Type 0
Ends good l d at r t = (r ≡ (written good l d at).answer) × (t ≡ (written good l d at).left)

module _ (good : Bool) (l : Bits) (d : List ℕ) (at : ℕ) where
  pub ends-none : (r : Refusal) → good ≡ false → r ≡ refusal no_bits (pos 0) → Ends good l d at (Err r) d
  unfolding written
  ends-none r g e = rw g (ap Err e, refl)

  pub ends-short : (n : ℕ) (r : Refusal) (v : ℤ) → good ≡ true → n ≡ length l → leb (at + n) (room_of d) ≡ false
      → r ≡ refusal buffer_too_short v → v ≡ pos (bytes_for (at + n)) → Ends good l d at (Err r) d
  unfolding written
  ends-short n r v g size short e f =
      rw (g, length-bits d, ← size, short) (ap Err (e ∙ ap (λ (x : ℤ). refusal buffer_too_short x) f), refl)

  pub ends-put : (n : ℕ) (t : List ℕ) → good ≡ true → n ≡ length l → leb (at + n) (room_of d) ≡ true → t ≡ put_bits d at l
      → Ends good l d at (Ok (record { at = at + n })) t
  unfolding written
  ends-put n t g size room e = rw (g, length-bits d, ← size, room) (refl, e)

-- where there is room
pub room_fits : (d : List ℕ) (m : ℕ) → leb m (room_of d) ≡ true → (m ≤ 8 * length d) × (m ≤ 8 * reach)
room_fits d m h = bits_fit d m (rw (← length-bits d) at (leb-true m (room_of d) h))

-- a flag is u(1), and se(v) is ue(v) of its code number
pub ends-flag : (b : Bool) (x : ℕ) (d : List ℕ) (at : ℕ) (r : Result Cursor Refusal) (t : List ℕ) → x ≡ bit_of b
    → Ends (u_good 1 x) (u_bits 1 x) d at r t → Ends true (flag_bits b) d at r t
ends-flag true x d at r t e h = rw e at h
ends-flag false x d at r t e h = rw e at h

pub ends-se : (z : ℤ) (x : ℕ) (d : List ℕ) (at : ℕ) (r : Result Cursor Refusal) (t : List ℕ) → nat_abs z < 2 ^ 31 → x ≡ se_code z
    → Ends (ue_good x) (ue_bits x) d at r t → Ends (se_good z) (se_bits z) d at r t
ends-se z x d at r t s e h =
    rw (lt-ltb (nat_abs z) 2147483648 s, ← lt-ltb (se_code z) 4294967295 (code-small z s)) (rw e at h)

-- ---- what a caller learns of an answer

module _ (good : Bool) (l : Bits) (d : List ℕ) (at : ℕ) where
  -- the write by its two tests
  abbrev by : Bool → Bool → Written
  by g b =
      pick g
      (pick b
      (record { answer = Ok (record { at = at + length l }); left = put_bits d at l })
      (record { answer = Err (refusal buffer_too_short (pos (bytes_for (at + length l)))); left = d }))
      (record { answer = Err (refusal no_bits (pos 0)); left = d })

  by-at : (c : Cursor) (g b : Bool) → (by g b).answer ≡ Ok c → (g ≡ true) × (b ≡ true) × (c.at ≡ at + length l) × ((by g b).left ≡ put_bits d at l)
  by-at c true true e = (refl, refl, (cc), refl)
  by-at c true false e = let z : ◌≡◌ {A = ℕ} 0 1 = cc in absurd (omega arith)
  by-at c false b e = let z : ◌≡◌ {A = ℕ} 0 1 = cc in absurd (omega arith)

  by-refused : (r : Refusal) (g b : Bool) → (by g b).answer ≡ Err r → (by g b).left ≡ d
  by-refused r true true e = let z : ◌≡◌ {A = ℕ} 0 1 = cc in absurd (omega arith)
  by-refused r true false e = refl
  by-refused r false b e = refl

  -- a place was answered: the value has bits, there was room, and the bits are put
  pub wrote_at : (c : Cursor) → (written good l d at).answer ≡ Ok c
      → (good ≡ true) × (at + length l ≤ length (bits_of d)) × (c.at ≡ at + length l) × ((written good l d at).left ≡ put_bits d at l)
  unfolding written
  wrote_at c e =
      let t = by-at c good (leb (at + length l) (length (bits_of d))) e in
      (t.0, leb-true _ _ t.1, t.2, t.3)

  -- refused: nothing changed
  pub wrote-refused : (r : Refusal) → (written good l d at).answer ≡ Err r → (written good l d at).left ≡ d
  unfolding written
  wrote-refused r e = by-refused r good (leb (at + length l) (length (bits_of d))) e
