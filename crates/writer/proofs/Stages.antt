-- A stage hands its place along from one field to the next, and a field that was refused ends it.
use Prim.Native.Nat.{ℕ, ◌+◌, ◌≤◌}
use mathlib.Core.Path.{◌≡◌, refl, ◌∙◌}
use mathlib.Core.List.{List}
use mathlib.Core.Bool.{Bool, true, false}
use native.Mathlib.Omega.{arith}
use borrow.Author.Tests.{le-leb}
use lib.Dec.{T, leb}
use lib.IntN.{ℤ}
use Rattle.bits.specs.Refusals.{pick}
use Rattle.bits.specs.declared.refusals.Refusal.{Refusal}
use Rattle.bits.specs.declared.read.Cursor.{Cursor}
use Rattle.fmt.specs.Fmt.{Fmt, seq, shaped, test}
use Rattle.fmt.specs.Put.{Put}
use Rattle.fmt.proofs.Puts.{Done, Stopped, answered, stopped, stop, not_good, seq-put, seq-stop, shaped-put, test-put}
use Rattle.syntax.specs.SliceHeader.{active_of}
use Rattle.weights.specs.Counts.{at_most32}
use Rattle.writer.specs.Places.{ended, PutTo}
use Rattle.std.specs.Prelude.{Result, Ok, Err, Option, Some, None}
use Rattle.std.specs.Result.{result_ok}
use Rattle.syntax.specs.declared.marks.Marked.{Marked}

module _ {A : Type 0} {F : Fmt A} {a : A} {d : List ℕ} {at : ℕ} {d' : List ℕ} where
  -- a write's answer, as a part's
  pub told : (w : Result Cursor Refusal) → Put F a d at d' w → PutTo F a d at d' (result_ok w)
  told (Ok c) p = record { put = p }
  told (Err x) p = record { put = stop (stopped (Err x) refl p) }

  pub done_at : {c : Cursor} → PutTo F a d at d' (Some c) → Done F a d at d' c
  done_at {c} p = answered (Ok c) refl p.put

  pub stopped-at : PutTo F a d at d' None → Stopped F a d at
  stopped-at p = stopped (ended None) refl p.put

-- a value that has no bits
pub no-bits : {A : Type 0} (F : Fmt A) (a : A) {d : List ℕ} {at : ℕ} {d' : List ℕ} → F.good a ≡ false → PutTo F a d at d' None
no-bits F a g = record { put = not_good F a g }

module _ {A B : Type 0} (to : A → B) (from : B → A) (ok : B → Bool) (F : Fmt A) (x : B) where
  pub shaped_to : {d : List ℕ} {at : ℕ} {d' : List ℕ} {r : Option Cursor} → ok x ≡ true → PutTo F (from x) d at d' r → PutTo (shaped to from ok F) x d at d' r
  shaped_to q p = record { put = shaped-put to from ok F x q p.put }

module _ {A : Type 0} (ok : A → Bool) (n : ℕ) (value : A → ℤ) (F : Fmt A) (a : A) where
  pub test-to : {d : List ℕ} {at : ℕ} {d' : List ℕ} {r : Option Cursor} → ok a ≡ true → PutTo F a d at d' r → PutTo (test ok n value F) a d at d' r
  test-to q p = record { put = test-put ok n value F a q p.put }

-- ---- one field after another

module _ {A B : Type 0} (F : Fmt A) (G : A → Fmt B) (a : A) (b : B) {d : List ℕ} {at : ℕ} {d₁ : List ℕ} {d₂ : List ℕ} where
  -- the second is known to be of its format where the first was good
  pub on-good : {c : Cursor} {r : Option Cursor} → PutTo F a d at d₁ (Some c) → (T (F.good a) → PutTo (G a) b d₁ c.at d₂ r) → PutTo (seq F G) (a, b) d at d₂ r
  on-good p g = let w = done_at p in record { put = seq-put F G a b w (g w.is-good).put }

  pub on : {c : Cursor} {r : Option Cursor} → PutTo F a d at d₁ (Some c) → PutTo (G a) b d₁ c.at d₂ r → PutTo (seq F G) (a, b) d at d₂ r
  on p q = on-good p (λ t. q)

  -- the first was refused, and so is the whole
  pub off : {r : Option Cursor} → r ≡ None → PutTo F a d at d₁ None → PutTo (seq F G) (a, b) d at d₂ r
  off q p = rw q (record { put = seq-stop F G a b (stopped-at p) })

-- ---- how many references a list has: a count over 31 has been refused before it is asked for
pub active-few : (m : Marked ℕ) (default : ℕ) {r : ℕ} → r ≡ at_most32 (active_of m default) → m.value ≤ 31 → default ≤ 31 → r ≡ active_of m default
unfolding at_most32
active-few m default e h k = e ∙ go m.there
  where
    go : (b : Bool) → pick (leb (pick b m.value default + 1) 32) (pick b m.value default + 1) 32 ≡ pick b m.value default + 1
    go true = rw (le-leb (m.value + 1) 32 (omega arith))
    go false = rw (le-leb (default + 1) 32 (omega arith))
