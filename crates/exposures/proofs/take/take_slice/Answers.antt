use borrow.Author.Tests.{ne_eqb}
use mathlib.Core.Path.{refl}
use lib.ListN.{get_or}
use Rattle.exposures.specs.Take.{slice_taken, opened}
use Rattle.exposures.specs.Words.{state_in}
use Rattle.exposures.proofs.take.take_slice.Goals as goal

pub returns-then-numbers-eq0 : goal.returns-then-numbers-eq0
unfolding slice_taken state_in opened
returns-then-numbers-eq0 c = rw c.if-numbers-eq0.true (refl, rw c.first_slice-opened.ensures at c.lay.ensures)

pub returns-then-is_first : goal.returns-then-is_first
unfolding slice_taken state_in opened
returns-then-is_first c =
    let w = c.args.numbers.now in
    rw (ne_eqb (get_or w 0 0) 0 c.if-numbers-eq0.false, ← c.last_in-last.ensures, ← c.is_first.ensures, c.if-is_first.true, ← c.exposure_in-e.ensures) (refl, rw (c.first_slice-opened-then-is_first.ensures, c.is_gap-gap.ensures) at c.lay-then-is_first.ensures)

pub returns : goal.returns
unfolding slice_taken state_in
returns c =
    let w = c.args.numbers.now in
    rw (ne_eqb (get_or w 0 0) 0 c.if-numbers-eq0.false, ← c.last_in-last.ensures, ← c.is_first.ensures, c.if-is_first.false, ← c.exposure_in-e-2.ensures) (refl, rw c.next_slice-more.ensures at c.lay-2.ensures)
