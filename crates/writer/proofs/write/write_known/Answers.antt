use mathlib.Core.Path.{◌≡◌, refl, sym, ◌∙◌}
use mathlib.Core.Bool.{Bool, ◌&&◌}
use lib.Dec.{eqb}
use Rattle.syntax.specs.declared.context.Context.{Context}
use Rattle.header.specs.Short.{HeaderWords}
use Rattle.record.specs.Fields.{number_in}
use Rattle.record.specs.Record.{plain, plain_numbers, plain_weights, header_from}
use Rattle.writer.specs.Write.{held_words}
use Rattle.writer.proofs.Known.{fitting, fitting-numbers, known-other, known-fields}
use Rattle.writer.proofs.write.write_known.Goals as goal

-- what is tested first
fits : (x : Context) (w : HeaderWords) {b i : Bool} → b ≡ i && eqb (number_in w.numbers 3) x.picture.seq_parameter_set_id
    → i ≡ plain_numbers w.numbers && (plain_weights (number_in w.numbers 37) w.w0 && plain_weights (number_in w.numbers 38) w.w1) → b ≡ fitting x w
unfolding plain header_from
fits x w e f = e ∙ rw f

pub returns-then-not-both : goal.returns-then-not-both
returns-then-not-both c =
    let a = c.args in
    let w : HeaderWords = held_words a.numbers.now a.signed.now a.l0.now a.l1.now a.marking.now a.w0.now a.w1.now in
    rw (c.refuse.ensures, known-other a.x w a.out.now (sym (fits a.x w c.both.ensures c.is_plain.ensures) ∙ c.if-not-both.true)) (refl, refl)

pub write_fields-requires : goal.write_fields-requires
write_fields-requires c =
    let a = c.args in
    let w : HeaderWords = held_words a.numbers.now a.signed.now a.l0.now a.l1.now a.marking.now a.w0.now a.w1.now in
    (c.requires, fitting-numbers a.x w (sym (fits a.x w c.both.ensures c.is_plain.ensures) ∙ c.if-not-both.false))

pub returns : goal.returns
returns c =
    let a = c.args in
    let w : HeaderWords = held_words a.numbers.now a.signed.now a.l0.now a.l1.now a.marking.now a.w0.now a.w1.now in
    rw (known-fields a.x w a.out.now (sym (fits a.x w c.both.ensures c.is_plain.ensures) ∙ c.if-not-both.false)) c.write_fields.ensures
