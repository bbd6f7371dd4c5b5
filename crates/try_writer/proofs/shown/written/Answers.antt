use mathlib.Core.Path.{sym}
use lib.Seq.{length-take-le}
use borrow.Author.Rules.{rules}
use Rattle.try_writer.proofs.shown.written.Goals as goal

pub slice_bounds-write_words_in-end-then-room-d : goal.slice_bounds-write_words_in-end-then-room-d
slice_bounds-write_words_in-end-then-room-d c = sym (length-take-le _ _ (search rules))
