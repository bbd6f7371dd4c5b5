use Rattle.table.proofs.Tests.{refuted, held}
use Rattle.table.proofs.Storing.{with-widths, widths-past, widths-unfit, widths-done, sequence-put-past, sequence-put-unfit, sequence-put-stored, sequence-words}
use Rattle.table.proofs.words.put_sequence_in.Goals as goal

pub returns-then-id-gt31 : goal.returns-then-id-gt31
returns-then-id-gt31 c = rw c.refuse.ensures (with-widths (sequence-put-past _ _ _ c.if-id-gt31.true) (widths-past _ _ _ c.if-id-gt31.true))

pub returns-then-not-sequence_fits : goal.returns-then-not-sequence_fits
returns-then-not-sequence_fits c = rw c.refuse-then-not-sequence_fits.ensures (let f = refuted c.sequence_fits.ensures c.if-not-sequence_fits.true in with-widths (sequence-put-unfit _ _ _ f) (widths-unfit _ _ _ f))

pub returns : goal.returns
returns c =
    let h = c.if-id-gt31.false in
    let g = held c.sequence_fits.ensures c.if-not-sequence_fits.false in
    rw c.renew.ensures
    (with-widths (sequence-put-stored _ _ _ h g _ _ (sequence-words _ c.sequence_marks-marks.ensures)) (widths-done _ _ _ h g))
