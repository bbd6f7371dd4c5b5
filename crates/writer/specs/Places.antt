-- What a part of the writer answers: the place in the buffer where it ends, or none. It is the code's own: the contract of writing the header does not name it.
use Rattle.std.specs.Prelude.{ℕ, List, pos}
use Rattle.bits.specs.Refusals.{refusal, no_bits}
use Rattle.bits.specs.declared.read.Cursor.{Cursor}
use Rattle.fmt.specs.Fmt.{Fmt}
use Rattle.fmt.specs.Put.{Put}
use Rattle.std.specs.Prelude.{Result, Ok, Err, Option, Some, None}
use Rattle.bits.specs.declared.refusals.Refusal.{Refusal}

-- a part without one was refused: its value has no bits, or the buffer no room for them
abbrev pub ended : Option Cursor → Result Cursor Refusal
ended (Some c) = Ok c
ended None = Err (refusal no_bits (pos 0))

-- writing a value at a place of a buffer, with the place where it ends
pub record PutTo {A : Type 0} (F : Fmt A) (a : A) (d : List ℕ) (at : ℕ) (d' : List ℕ) (r : Option Cursor) : Type 0 where
  pub put : Put F a d at d' (ended r)
