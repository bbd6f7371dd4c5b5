-- The records out of words that were zeros are those of the unit whose body was read into them.
use Prim.Native.Nat.{ℕ}
use mathlib.Core.Path.{◌≡◌, refl, sym, ◌∙◌}
use mathlib.Core.List.{List}
use lib.ListN.{replicate}
use Rattle.bits.proofs.Results.{cases}
use Rattle.table.specs.declared.table.Table.{Table}
use Rattle.syntax.specs.Absent.{no_header, no_prefix}
use Rattle.lists.specs.ListsLent.{prefix_short}
use Rattle.header.specs.Short.{emptied, zeros}
use Rattle.record.specs.Record.{header_from, prefix_from}
use Rattle.record.proofs.Whole.{zeros-sized, emptied-sized, header-from-zeros, from_in, prefix-from-zeros, prefix-from}
use Rattle.unit.specs.declared.answer.UnitAnswer.{UnitAnswer}
use Rattle.unit.specs.declared.answer.UnitRead.{UnitRead}
use Rattle.unit.specs.declared.into.ShortAnswer.{ShortAnswer}
use Rattle.unit.specs.declared.head.UnitHead.{UnitHead}
use Rattle.unit.specs.Answer.{only}
use Rattle.unit.specs.Head.{head_of, same_head, body_read}
use Rattle.unit.specs.Into.{short, short_answer, long_answer, prefix_in, Lent, blank, after, words_after}
use Rattle.unit.proofs.Tidy.{Ordered, unit-ordered}

-- the records, by the answer
abbrev taken : UnitAnswer → UnitRead → UnitRead
taken a u =
    record {
      answer = long_answer (short a u);
      header = header_from (after a u blank).header;
      prefix = prefix_from (prefix_in (short a u)) (after a u blank).base;
    }

-- an answer that speaks of no record
bare : (u : UnitRead) {a : UnitAnswer} → u.answer ≡ a → (u.header ≡ no_header) × (u.prefix ≡ no_prefix)
    → ◌≡◌ {A = UnitRead} (record { answer = a; header = header_from zeros; prefix = prefix_from (prefix_short no_prefix) (replicate 198 0) }) u
bare u e o = λ i. record { answer = sym e i; header = (header-from-zeros ∙ sym o.0) i; prefix = (prefix-from-zeros ∙ sym o.1) i }

same : (a : UnitAnswer) (u : UnitRead) → u.answer ≡ a → Ordered a u → taken a u ≡ u
same (UnitAnswer.Slice n) u e o =
    λ i.
    record {
      answer = sym e i;
      header = from_in u.header (emptied zeros) o.0 (emptied-sized zeros zeros-sized) i;
      prefix = (prefix-from-zeros ∙ sym o.1) i;
    }
same UnitAnswer.«Prefix» u e o =
    λ i. record { answer = sym e i; header = (header-from-zeros ∙ sym o.0) i; prefix = prefix-from u.prefix (replicate 198 0) o.1 refl i }
same (UnitAnswer.Sequence v) u e o = bare u e o
same (UnitAnswer.Picture v) u e o = bare u e o
same (UnitAnswer.Other t) u e o = bare u e o
same (UnitAnswer.Refused r) u e o = bare u e o

whole : (u : UnitRead) → Ordered u.answer u → {a : ShortAnswer} {w : Lent} → a ≡ short_answer u → w ≡ words_after u blank
    → ◌≡◌ {A = UnitRead} (record { answer = long_answer a; header = header_from w.header; prefix = prefix_from (prefix_in a) w.base }) u
unfolding short_answer words_after
whole u o p q =
    (λ i. record { answer = long_answer (p i); header = header_from (q i).header; prefix = prefix_from (prefix_in (p i)) (q i).base }) ∙ same u.answer u refl o

body-ordered : (t : Table) (h : UnitHead) (unit scratch : List ℕ) → Ordered (body_read t h unit scratch).read.answer (body_read t h unit scratch).read
unfolding body_read only
body-ordered t h unit scratch = cases (same_head h (head_of unit)) (λ i. rw i (unit-ordered t unit scratch)) (λ i. rw i (refl, refl))

pub body-whole : (t : Table) (h : UnitHead) (unit scratch : List ℕ) {a : ShortAnswer} {w : Lent}
    → a ≡ short_answer (body_read t h unit scratch).read → w ≡ words_after (body_read t h unit scratch).read blank
    → ◌≡◌ {A = UnitRead} (record { answer = long_answer a; header = header_from w.header; prefix = prefix_from (prefix_in a) w.base }) (body_read t h unit scratch).read
body-whole t h unit scratch = whole (body_read t h unit scratch).read (body-ordered t h unit scratch)
