use borrow.Author.Rules.{rules}
use native.Mathlib.Omega.{arith}
use mir.Facts.{to_z-of_z}
use mir.Syntax.{w64}
use mir.Val.{SFits}
use Rattle.lines.proofs.Decimals.{decimal-8}
use Rattle.lines.proofs.Magnitudes.{signed-short}
use Rattle.lines.proofs.Texts.{then}
use Rattle.lines.proofs.line.refused_words.Goals as goal

pub field-a-requires : goal.field-a-requires
field-a-requires c = omega (arith, decimal-8 c.args.r.number (search rules))

pub words-b-requires : goal.words-b-requires
words-b-requires c = omega (arith, decimal-8 c.args.r.number (search rules))

pub signed_number-c-requires : goal.signed_number-c-requires
signed_number-c-requires c =
    let f : SFits w64 c.args.r.value = search rules in
    rw (to_z-of_z f) (omega (arith, signed-short c.args.r.value f, decimal-8 c.args.r.number (search rules)))

pub bit_words-requires : goal.bit_words-requires
bit_words-requires c =
    let f : SFits w64 c.args.r.value = search rules in
    let s = rw (to_z-of_z f) at c.signed_number-c.ensures in
    omega (arith, s.end, signed-short c.args.r.value f, decimal-8 c.args.r.number (search rules))

pub returns : goal.returns
returns c =
    let f : SFits w64 c.args.r.value = search rules in
    let s = rw (to_z-of_z f) at c.signed_number-c.ensures in
    (then (then (then c.field-a.ensures c.words-b.ensures) s) c.bit_words.ensures.0, c.bit_words.ensures.1)
