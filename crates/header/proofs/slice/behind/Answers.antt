use borrow.Author.Rules.{rules}
use mathlib.Core.Path.{refl, sym, ◌∙◌}
use Rattle.bits.specs.Bits.{bits_of}
use Rattle.header.specs.Short.{HeaderWords, words_in}
use Rattle.header.specs.Told.{front_of, EachFront}
use Rattle.header.proofs.Told.{lists-got, lists-refused, weights-got, weights-refused, marks-got, marks-refused, back-got, back-refused, filled-no, filled-got}
use Rattle.header.proofs.Parts.{lists-no, weights-no, marks-no, back-no, follows_no, whole-read, numbers-laid, signed-laid, laid}
use Rattle.weights.proofs.AtMost.{at-most-32}
use Rattle.weights.proofs.Left.{l0-covered, l1-covered}
use Rattle.header.proofs.Kept.{kept-lists, kept-weights, kept-marks}
use Rattle.header.proofs.slice.behind.Goals as goal

pub returns-in_default : goal.returns-in_default
unfolding EachFront
returns-in_default c =
    let a = c.args in
    let o = c.lists_into-a3.ensures in
    let z = lists-refused _ _ _ _ _ o.lists_told c.in_default.is in record { each_front = λ f p q. filled-no _ _ (lists-no a.kind a.l (front_of f p a.a) (bits_of a.s.now) a.c.at z) (rw (c.why.ensures, c.in_default.is)); each_front_2 = λ f p. kept-lists a.kind a.l (front_of f p a.a) (bits_of a.s.now) a.c.at _ _ o.covered o.covered_2 refl refl refl; same = search rules }

pub returns-in_default-a4 : goal.returns-in_default-a4
unfolding EachFront
returns-in_default-a4 c =
    let a = c.args in
    let o = c.lists_into-a3.ensures in
    let lo = lists-got _ _ _ _ _ o.lists_told c.in-Ok.is in
    let w = c.weights_for_into-a4.ensures in
    let z = weights-refused _ w.value c.in_default-a4.is in record { each_front = λ f p q. filled-no _ _ (weights-no a.kind a.l (front_of f p a.a) (bits_of a.s.now) a.c.at lo.read z) (rw (c.why-in_default-a4.ensures, c.in_default-a4.is)); each_front_2 = λ f p. kept-weights a.kind a.l (front_of f p a.a) (bits_of a.s.now) a.c.at _ _ o.covered o.covered_2 lo.read (l0-covered _ _ _ _ _ _ (at-most-32 _) _ _ w.w0_after) (l1-covered _ _ _ _ _ _ (at-most-32 _) _ _ w.w1_after) refl; same = search rules }

pub returns-in_default-a5 : goal.returns-in_default-a5
unfolding EachFront
returns-in_default-a5 c =
    let a = c.args in
    let o = c.lists_into-a3.ensures in
    let lo = lists-got _ _ _ _ _ o.lists_told c.in-Ok.is in
    let w = c.weights_for_into-a4.ensures in
    let lw = weights-got _ _ _ _ _ _ _ _ w.value w.w0_after w.w1_after c.in-Ok-a4.is in
    let d = c.marks_into-a5.ensures in
    let z = marks-refused _ _ _ d.marks_told c.in_default-a5.is in record { each_front = λ f p q. filled-no _ _ (marks-no a.kind a.l (front_of f p a.a) (bits_of a.s.now) a.c.at lo.read lw.read z) (rw (c.why-in_default-a5.ensures, c.in_default-a5.is)); each_front_2 = λ f p. kept-marks a.kind a.l (front_of f p a.a) (bits_of a.s.now) a.c.at _ _ o.covered o.covered_2 lo.read (l0-covered _ _ _ _ _ _ (at-most-32 _) _ _ w.w0_after) (l1-covered _ _ _ _ _ _ (at-most-32 _) _ _ w.w1_after) lw.read d.covered; same = search rules }

pub returns-in_default-a6 : goal.returns-in_default-a6
unfolding EachFront
returns-in_default-a6 c =
    let a = c.args in
    let o = c.lists_into-a3.ensures in
    let lo = lists-got _ _ _ _ _ o.lists_told c.in-Ok.is in
    let w = c.weights_for_into-a4.ensures in
    let lw = weights-got _ _ _ _ _ _ _ _ w.value w.w0_after w.w1_after c.in-Ok-a4.is in
    let d = c.marks_into-a5.ensures in
    let ld = marks-got _ _ _ d.marks_told c.in-Ok-a5.is in
    let z = back-refused _ _ _ _ _ c.back-a6.ensures c.in_default-a6.is in record { each_front = λ f p q. filled-no _ _ (back-no a.kind a.l (front_of f p a.a) (bits_of a.s.now) a.c.at lo.read lw.read ld.read z) c.in_default-a6.is; each_front_2 = λ f p. kept-marks a.kind a.l (front_of f p a.a) (bits_of a.s.now) a.c.at _ _ o.covered o.covered_2 lo.read (l0-covered _ _ _ _ _ _ (at-most-32 _) _ _ w.w0_after) (l1-covered _ _ _ _ _ _ (at-most-32 _) _ _ w.w1_after) lw.read d.covered; same = search rules }

pub returns-then-not-any_set_after : goal.returns-then-not-any_set_after
unfolding EachFront
returns-then-not-any_set_after c =
    let a = c.args in
    let o = c.lists_into-a3.ensures in
    let lo = lists-got _ _ _ _ _ o.lists_told c.in-Ok.is in
    let w = c.weights_for_into-a4.ensures in
    let lw = weights-got _ _ _ _ _ _ _ _ w.value w.w0_after w.w1_after c.in-Ok-a4.is in
    let d = c.marks_into-a5.ensures in
    let ld = marks-got _ _ _ d.marks_told c.in-Ok-a5.is in
    let lb = back-got _ _ _ _ _ c.back-a6.ensures c.in-Ok-a6.is in
    let z = sym c.any_set_after.ensures ∙ c.if-not-any_set_after.true in record { each_front = λ f p q. filled-no _ _ (follows_no a.kind a.l (front_of f p a.a) (bits_of a.s.now) a.c.at lo.read lw.read ld.read lb.read z) (rw c.refuse_at.ensures); each_front_2 = λ f p. kept-marks a.kind a.l (front_of f p a.a) (bits_of a.s.now) a.c.at _ _ o.covered o.covered_2 lo.read (l0-covered _ _ _ _ _ _ (at-most-32 _) _ _ w.w0_after) (l1-covered _ _ _ _ _ _ (at-most-32 _) _ _ w.w1_after) lw.read d.covered; same = search rules }

pub returns : goal.returns
unfolding EachFront
returns c =
    let a = c.args in
    let o = c.lists_into-a3.ensures in
    let lo = lists-got _ _ _ _ _ o.lists_told c.in-Ok.is in
    let w = c.weights_for_into-a4.ensures in
    let lw = weights-got _ _ _ _ _ _ _ _ w.value w.w0_after w.w1_after c.in-Ok-a4.is in
    let d = c.marks_into-a5.ensures in
    let ld = marks-got _ _ _ d.marks_told c.in-Ok-a5.is in
    let lb = back-got _ _ _ _ _ c.back-a6.ensures c.in-Ok-a6.is in
    let before : HeaderWords = words_in a.w.now in
    let z = sym c.any_set_after.ensures ∙ c.if-not-any_set_after.false in record {
      each_front = λ f p q.
          filled-got _ (whole-read a.kind a.l (front_of f p a.a) (bits_of a.s.now) a.c.at lo.read lw.read ld.read lb.read z)
          (laid a.l (front_of f p a.a) lo.value lw.value ld.value lb.value before
          (numbers-laid a.l (front_of f p a.a) lo.value lw.value ld.value lb.value lo.holds.0 lw.holds.0 ld.holds.0 before q c.long_numbers.ensures
          c.lay_lists.ensures c.lay_weights.ensures c.lay_marks.ensures lb.holds.0)
          (signed-laid a.l (front_of f p a.a) lo.value lw.value ld.value lb.value before q c.long_signed.ensures lb.holds.1)
          lo.holds.1.0 lo.holds.1.1 ld.holds.1 lw.holds.1.0 lw.holds.1.1);
      each_front_2 = λ f p. kept-marks a.kind a.l (front_of f p a.a) (bits_of a.s.now) a.c.at _ _ o.covered o.covered_2 lo.read (l0-covered _ _ _ _ _ _ (at-most-32 _) _ _ w.w0_after) (l1-covered _ _ _ _ _ _ (at-most-32 _) _ _ w.w1_after) lw.read d.covered;
      same = search rules;
    }
