-- What writing a value of a format at a place of a buffer does.
use Rattle.std.specs.Prelude.{ℕ, ◌+◌, ◌<◌, ◌≡◌, List, T, length}
use Rattle.bits.specs.declared.refusals.Refusal.{Refusal}
use Rattle.bits.specs.declared.read.Cursor.{Cursor}
use Rattle.bits.specs.Bits.{bits_of}
use Rattle.bits.specs.Put.{put_bits}
use Rattle.fmt.specs.Fmt.{Fmt}
use Rattle.std.specs.Prelude.{Result, Ok, Err}

-- Buffer d was given and d' is left. done: the value is good, its bits stand in the buffer from the place on, and the answer is the place after them. none: the
-- value has no bits, or the buffer no room for them; nothing is said of what is left: a part may have been written before the one that stopped.
pub data Put {A : Type 0} (F : Fmt A) (a : A) (d : List ℕ) (at : ℕ) (d' : List ℕ) : Result Cursor Refusal → Type 0 where
  done : (c : Cursor) → T (F.good a) → c.at ≡ at + length (F.bits a) → d' ≡ put_bits d at (F.bits a) → Put F a d at d' (Ok c)
  none : (x : Refusal) → (T (F.good a) → length (bits_of d) < at + length (F.bits a)) → Put F a d at d' (Err x)
