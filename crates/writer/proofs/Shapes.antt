-- Writes whose format stands in the header's description in another shape than the field's own.
use Prim.Native.Nat.{ℕ}
use mathlib.Core.Path.{◌≡◌}
use mathlib.Core.List.{List}
use mathlib.Core.Bool.{Bool, false}
use Rattle.bits.specs.declared.read.Cursor.{Cursor}
use Rattle.fmt.specs.Fmt.{Fmt, nothing, shaped, when}
use Rattle.fmt.specs.Put.{Put, done, none}
use Rattle.fmt.proofs.Puts.{test-put, nothing_put}
use Rattle.syntax.specs.declared.context.Context.{Context}
use Rattle.syntax.specs.Marks.{is_zero, number_if}
use Rattle.syntax.specs.SliceHeader.{not_scalable}
use Rattle.writer.specs.Places.{PutTo}
use Rattle.std.specs.Prelude.{Result, Option, Some}
use Rattle.syntax.specs.declared.marks.Marked.{Marked}
use Rattle.bits.specs.declared.refusals.Refusal.{Refusal}

-- a number with its mark, without the record's shape
pub number-when : (b : Bool) (F : Fmt ℕ) (m : Marked ℕ) {d : List ℕ} {at : ℕ} {d' : List ℕ} {r : Option Cursor} → PutTo (number_if b F) m d at d' r
    → PutTo (when b 0 is_zero F) (record { there = m.there; value = m.value }) d at d' r
unfolding number_if shaped
number-when b F m {d} {at} {d'} p = record { put = go p.put }
  where
    go : {r : Result Cursor Refusal} → Put (number_if b F) m d at d' r → Put (when b 0 is_zero F) (record { there = m.there; value = m.value }) d at d' r
    go (done c g p n) = done c g p n
    go (none x h) = none x h

-- a slice that is not scalable goes on where it was
pub not-scalable : (x : Context) → x.kind.svc ≡ false → (d : List ℕ) (c : Cursor) → PutTo (not_scalable x) tt d c.at d (Some c)
unfolding not_scalable
not-scalable x t d c = record { put = test-put _ _ _ nothing tt (rw t) (nothing_put d c.at) }
