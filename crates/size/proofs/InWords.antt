-- The bound of a header in words: its numbers say the lists' lengths and the counts of references.
use Prim.Native.Nat.{ℕ}
use mathlib.Core.Path.{◌≡◌, sym, ◌∙◌}
use mathlib.Core.List.{List}
use Rattle.table.specs.Tables as tables
use Rattle.syntax.specs.Context.{picture_in}
use Rattle.syntax.specs.Lists.{to_operations}
use Rattle.syntax.specs.SliceHeader.{active_of}
use Rattle.lists.specs.ListsLent.{at_most66}
use Rattle.header.specs.Short.{HeaderWords}
use Rattle.record.specs.Fields.{number_in, active_counts_from}
use Rattle.record.specs.Entries.{operations_from}
use Rattle.record.specs.Record.{header_from}
use Rattle.record.proofs.Taken.{length_taken, operation_from, operations-taken}
use Rattle.size.specs.Size.{most_bits, bound_of}
use Rattle.size.specs.InWords.{bound_by, numbered, bound_in}

count-is : (n : ℕ) (words : List ℕ) → (operations_from n words).count ≡ at_most66 n
unfolding operations_from to_operations
count-is n words = rw (operations-taken (at_most66 n) words) (length_taken operation_from 3 (at_most66 n) words)

-- of the record that words hold, by the words' places
pub bound-words : (pictures : List ℕ) (w : HeaderWords)
    → bound_by pictures (header_from w)
    ≡ most_bits (at_most66 (number_in w.numbers 29)) (at_most66 (number_in w.numbers 32)) (at_most66 (number_in w.numbers 45))
    (active_of (active_counts_from w.numbers).num_ref_idx_l0_active_minus1 (picture_in (tables.picture_in pictures (number_in w.numbers 2))).num_ref_idx_l0_default_active_minus1)
    (active_of (active_counts_from w.numbers).num_ref_idx_l1_active_minus1 (picture_in (tables.picture_in pictures (number_in w.numbers 2))).num_ref_idx_l1_default_active_minus1)
unfolding bound_of header_from
bound-words pictures w = rw (count-is (number_in w.numbers 29) w.l0, count-is (number_in w.numbers 32) w.l1, count-is (number_in w.numbers 45) w.marking)

pub bound-places : (pictures n : List ℕ)
    → bound_in pictures n
    ≡ most_bits (at_most66 (number_in n 29)) (at_most66 (number_in n 32)) (at_most66 (number_in n 45))
    (active_of (active_counts_from n).num_ref_idx_l0_active_minus1 (picture_in (tables.picture_in pictures (number_in n 2))).num_ref_idx_l0_default_active_minus1)
    (active_of (active_counts_from n).num_ref_idx_l1_active_minus1 (picture_in (tables.picture_in pictures (number_in n 2))).num_ref_idx_l1_default_active_minus1)
unfolding bound_in
bound-places pictures n = bound-words pictures (numbered n)

-- so that no words but the numbers matter
pub bound-numbers : (pictures : List ℕ) (w : HeaderWords) → bound_in pictures w.numbers ≡ bound_by pictures (header_from w)
bound-numbers pictures w = bound-places pictures w.numbers ∙ sym (bound-words pictures w)
