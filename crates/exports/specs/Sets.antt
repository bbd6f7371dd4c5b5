-- The table's answers as plain structs.
use Rattle.std.specs.Prelude.{true, false, pos}
use Rattle.syntax.specs.Context.{no_sequence, no_picture}
use Rattle.exports.specs.declared.sets.SequenceOut.{SequenceOut}
use Rattle.exports.specs.declared.sets.PictureOut.{PictureOut}
use Rattle.exports.specs.declared.sets.ChangedOut.{ChangedOut}
use Rattle.std.specs.Prelude.{Result, Ok, Err, Option, Some, None}
use Rattle.bits.specs.declared.refusals.Refusal.{Refusal}
use Rattle.table.specs.Tables.{found_picture}
use Rattle.table.specs.declared.sets.Picture.{Picture}
use Rattle.table.specs.declared.sets.Sequence.{Sequence}
use Rattle.std.specs.Prelude.{ℕ, ⊤}

unfoldable pub sequence_out : Option Sequence → SequenceOut
sequence_out (Some s) = record { there = true; sequence = s }
sequence_out None = record { there = false; sequence = no_sequence }

unfoldable pub picture_out : Option (Picture × ℕ) → PictureOut
picture_out (found_picture p w) = record { there = true; picture = p }
picture_out None = record { there = false; picture = no_picture }

-- the refusal's number and value; 0 where the change was done
unfoldable pub changed_out : Result ⊤ Refusal → ChangedOut
changed_out (Err r) = record { number = r.number; value = r.value }
changed_out (Ok u) = record { number = 0; value = pos 0 }
