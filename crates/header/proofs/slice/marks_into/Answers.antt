use mathlib.Core.Path.{sym, ap, ◌∙◌}
use Rattle.header.specs.declared.slice.Marks.{Marks}
use Rattle.lists.proofs.Lent.{list-onto, list-refused, list-covered}
use Rattle.header.proofs.Told.{told-marks-no, told-marks}
use Rattle.header.proofs.Lists.{flags-no, marking-no, marking-read, marks-same}
use Rattle.header.proofs.Kept.{untouched, marking-covered}
use Rattle.header.proofs.slice.marks_into.Goals as goal
use Rattle.std.specs.Prelude.{Ok}
use Rattle.bits.specs.Answers.{as_read}

pub returns-in_default : goal.returns-in_default
returns-in_default c =
    let hm = sym c.marking_flags-a1.ensures ∙ ap as_read c.in_default.is in
    record { marks_told = told-marks-no _ _ (flags-no _ _ _ hm) (rw (c.why.ensures, c.in_default.is)); covered = untouched _ _ _ _ _ }

pub returns-in_default-a2 : goal.returns-in_default-a2
returns-in_default-a2 c =
    let hm = sym c.marking_flags-a1.ensures ∙ ap as_read c.in-Ok.is in
    let o = rw c.marking_kind.ensures at c.operations_onto-a2.ensures in
    let hq = list-refused _ o.value c.in_default-a2.is in
    record { marks_told = told-marks-no _ _ (marking-no _ _ _ hm hq) (rw (c.why-in_default-a2.ensures, c.in_default-a2.is)); covered = marking-covered _ _ _ hm _ _ (list-covered _ _ _ _ _ _ o.words_after) }

pub returns : goal.returns
returns c =
    let hm = sym c.marking_flags-a1.ensures ∙ ap as_read c.in-Ok.is in
    let o = rw c.marking_kind.ensures at c.operations_onto-a2.ensures in
    let lq = list-onto _ _ _ _ _ o.value o.words_after c.in-Ok-a2.is in
    record { marks_told = told-marks _ (marking-read _ _ _ hm lq.read) (ap (λ (k : Marks). Ok (k, c.in-Ok-a2.c2)) (marks-same lq.list lq.counted)) lq.held; covered = marking-covered _ _ _ hm _ _ (list-covered _ _ _ _ _ _ o.words_after) }
