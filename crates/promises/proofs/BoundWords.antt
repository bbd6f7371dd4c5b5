-- How large a header gets, of the words that hosts lend: what `tuz_header_bound` tells is enough for `tuz_write_header`.
use Prim.Native.Nat.{ℕ, ◌≤◌}
use mathlib.Core.Path.{◌≡◌}
use mathlib.Core.List.{List}
use lib.ListN.{length}
use Rattle.bits.specs.Refusals.{buffer_too_short}
use Rattle.bits.specs.Put.{bytes_for}
use Rattle.bits.specs.declared.refusals.Refusal.{Refusal}
use Rattle.table.specs.declared.table.Table.{Table}
use Rattle.syntax.specs.Context.{picture_for}
use Rattle.header.specs.Short.{HeaderWords}
use Rattle.record.specs.Record.{header_from, plain}
use Rattle.writer.specs.declared.given.ExtensionGiven.{ExtensionGiven}
use Rattle.writer.specs.Write.{write_words}
use Rattle.writer.proofs.Refusing.{too_long}
use Rattle.size.specs.InWords.{bound_in}
use Rattle.size.proofs.InWords.{bound-numbers}
use Rattle.promises.specs.Bound.{enough}
use Rattle.promises.proofs.Bound.{fits_bound, fits-enough}
use Rattle.std.specs.Prelude.{Err}

module _ (t : Table) (first : ℕ) (x : ExtensionGiven) (w : HeaderWords) (out : List ℕ) (r : Refusal) (e : (write_words t first x w out).answer ≡ Err r) where
  -- a buffer of 6,144 bytes is never too short
  pub words-never-26 : enough ≤ length out → r.number ≡ buffer_too_short → ⊥
  unfolding write_words
  words-never-26 room i = fits-enough room (too_long (plain w) t first x (header_from w) out e i)

  -- nor is one with room for the bits that the bound tells
  pub words-room : bytes_for (bound_in t.pictures w.numbers) ≤ length out → r.number ≡ buffer_too_short → ⊥
  unfolding write_words picture_for
  words-room room i = fits_bound (rw (bound-numbers t.pictures w) at room) (too_long (plain w) t first x (header_from w) out e i)
