use mathlib.Core.Path.{refl, sym}
use lib.ListN.{get_or}
use Rattle.std.proofs.lemmas.Result.{err_from_is_err_and}
use Rattle.header.specs.Lead.{table_in}
use Rattle.record.specs.Record.{header_from}
use Rattle.header.specs.Short.{HeaderWords}
use Rattle.writer.specs.Write.{held_words, write_where, write_words}
use Rattle.writer.proofs.Known.{known-few, known_out_lem}
use Rattle.writer.proofs.write.write_words_in.Goals as goal

pub write_known-requires : goal.write_known-requires
write_known-requires c =
    let a = c.args in
    let f = known-few (table_in a.sets) (get_or a.numbers.now 2 0) _ (sym c.in_ok-named.ensures) in
    (f.l0, f.l1)

pub returns : goal.returns
unfolding write_words write_where header_from
returns c =
    let a = c.args in
    let w : HeaderWords = held_words a.numbers.now a.signed.now a.l0.now a.l1.now a.marking.now a.w0.now a.w1.now in
    let e = sym c.in_ok-named.ensures in
    rw (← c.in_ok-kind.ensures, e, ← known_out_lem (table_in a.sets) _ w a.out.now _ e) c.write_known.ensures

pub returns-in_err-kind : goal.returns-in_err-kind
unfolding write_words write_where
returns-in_err-kind c =
    let p = err_from_is_err_and c.from_residual.result c.from_residual.ensures.1 in
    rw (p.1, p.2, ← c.in_err-kind.ensures) (refl, refl)

pub returns-in_err-named : goal.returns-in_err-named
unfolding write_words write_where header_from
returns-in_err-named c =
    let p = err_from_is_err_and c.from_residual-in_err-named.result c.from_residual-in_err-named.ensures.1 in
    rw (p.1, p.2, ← c.in_ok-kind.ensures, ← c.in_err-named.ensures) (refl, refl)
