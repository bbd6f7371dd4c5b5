use mathlib.Core.Path.{sym, ap, ◌∙◌}
use Rattle.header.specs.declared.slice.Lists.{Lists}
use Rattle.lists.proofs.Lent.{list-onto, list-refused, list-covered}
use Rattle.header.proofs.Told.{told-lists-no, told-lists}
use Rattle.header.proofs.Lists.{first-no, l0-no, second-no, l1-no, both_read, lists-same}
use Rattle.header.proofs.Kept.{untouched, l0-covered, l1-covered}
use Rattle.header.proofs.slice.lists_into.Goals as goal
use Rattle.std.specs.Prelude.{Ok}
use Rattle.bits.specs.Answers.{as_read}

pub returns-in_default : goal.returns-in_default
returns-in_default c =
    let hg = sym c.first_flag-a1.ensures ∙ ap as_read c.in_default.is in
    record {
      lists_told = told-lists-no _ _ _ _ (first-no _ _ _ _ hg) (rw (c.why.ensures, c.in_default.is));
      covered = untouched _ _ _ _ _;
      covered_2 = untouched _ _ _ _ _;
    }

pub returns-in_default-a2 : goal.returns-in_default-a2
returns-in_default-a2 c =
    let hg = sym c.first_flag-a1.ensures ∙ ap as_read c.in-Ok.is in
    let o = rw c.modification_kind-codes.ensures at c.operations_onto-a2.ensures in
    let ho = list-refused _ o.value c.in_default-a2.is in
    record {
      lists_told = told-lists-no _ _ _ _ (l0-no _ _ _ _ hg ho) (rw (c.why-in_default-a2.ensures, c.in_default-a2.is));
      covered = l0-covered _ _ _ _ hg _ _ (list-covered _ _ _ _ _ _ o.words_after);
      covered_2 = untouched _ _ _ _ _;
    }

pub returns-in_default-a3 : goal.returns-in_default-a3
returns-in_default-a3 c =
    let hg = sym c.first_flag-a1.ensures ∙ ap as_read c.in-Ok.is in
    let o = rw c.modification_kind-codes.ensures at c.operations_onto-a2.ensures in
    let lo = list-onto _ _ _ _ _ o.value o.words_after c.in-Ok-a2.is in
    let hh = sym (rw c.is_type.ensures at c.flag_if-a3.ensures) ∙ ap as_read c.in_default-a3.is in
    record {
      lists_told = told-lists-no _ _ _ _ (second-no _ _ _ _ hg lo.read hh) (rw (c.why-in_default-a3.ensures, c.in_default-a3.is));
      covered = l0-covered _ _ _ _ hg _ _ (list-covered _ _ _ _ _ _ o.words_after);
      covered_2 = untouched _ _ _ _ _;
    }

pub returns-in_default-a4 : goal.returns-in_default-a4
returns-in_default-a4 c =
    let hg = sym c.first_flag-a1.ensures ∙ ap as_read c.in-Ok.is in
    let o = rw c.modification_kind-codes.ensures at c.operations_onto-a2.ensures in
    let lo = list-onto _ _ _ _ _ o.value o.words_after c.in-Ok-a2.is in
    let hh = sym (rw c.is_type.ensures at c.flag_if-a3.ensures) ∙ ap as_read c.in-Ok-a3.is in
    let p = rw c.modification_kind-codes.ensures at c.operations_onto-a4.ensures in
    let hp = list-refused _ p.value c.in_default-a4.is in
    record {
      lists_told = told-lists-no _ _ _ _ (l1-no _ _ _ _ hg lo.read hh hp) (rw (c.why-in_default-a4.ensures, c.in_default-a4.is));
      covered = l0-covered _ _ _ _ hg _ _ (list-covered _ _ _ _ _ _ o.words_after);
      covered_2 = l1-covered _ _ _ _ hg _ _ lo.read hh (list-covered _ _ _ _ _ _ p.words_after);
    }

pub returns : goal.returns
returns c =
    let hg = sym c.first_flag-a1.ensures ∙ ap as_read c.in-Ok.is in
    let o = rw c.modification_kind-codes.ensures at c.operations_onto-a2.ensures in
    let lo = list-onto _ _ _ _ _ o.value o.words_after c.in-Ok-a2.is in
    let hh = sym (rw c.is_type.ensures at c.flag_if-a3.ensures) ∙ ap as_read c.in-Ok-a3.is in
    let p = rw c.modification_kind-codes.ensures at c.operations_onto-a4.ensures in
    let lp = list-onto _ _ _ _ _ p.value p.words_after c.in-Ok-a4.is in
    record {
      lists_told = told-lists _ _ (both_read _ _ _ _ hg lo.read hh lp.read) (ap (λ (l : Lists). Ok (l, c.in-Ok-a4.c4)) (lists-same lo.list lp.list lo.counted lp.counted)) lo.held lp.held;
      covered = l0-covered _ _ _ _ hg _ _ (list-covered _ _ _ _ _ _ o.words_after);
      covered_2 = l1-covered _ _ _ _ hg _ _ lo.read hh (list-covered _ _ _ _ _ _ p.words_after);
    }
