use borrow.Author.Rules.{rules}
use native.Mathlib.Omega.{arith}
use mir.Facts.{to_z-of_z}
use mir.Syntax.{w64}
use mir.Val.{SFits}
use Rattle.lines.proofs.Decimals.{decimal-32}
use Rattle.lines.proofs.Magnitudes.{signed-short}
use Rattle.lines.proofs.Texts.{then}
use Rattle.lines.proofs.line.slice_words.Goals as goal

pub field-a-requires : goal.field-a-requires
field-a-requires c = omega (arith, decimal-32 c.args.slice_type c.ranges.slice_type.fits)

pub field-b-requires : goal.field-b-requires
field-b-requires c = omega (arith, decimal-32 c.args.slice_type c.ranges.slice_type.fits, decimal-32 c.args.frame_num c.ranges.frame_num.fits)

pub words-c-requires : goal.words-c-requires
words-c-requires c = omega (arith, decimal-32 c.args.slice_type c.ranges.slice_type.fits, decimal-32 c.args.frame_num c.ranges.frame_num.fits)

pub signed_number-requires : goal.signed_number-requires
signed_number-requires c =
    let f : SFits w64 c.args.qp = search rules in
    rw (to_z-of_z f) (omega (arith, signed-short c.args.qp f, decimal-32 c.args.slice_type c.ranges.slice_type.fits, decimal-32 c.args.frame_num c.ranges.frame_num.fits))

pub returns : goal.returns
returns c =
    let f : SFits w64 c.args.qp = search rules in
    let s = rw (to_z-of_z f) at c.signed_number.ensures in
    (then (then (then c.field-a.ensures c.field-b.ensures) c.words-c.ensures) s, omega (arith, s.end, signed-short c.args.qp f, decimal-32 c.args.slice_type c.ranges.slice_type.fits, decimal-32 c.args.frame_num c.ranges.frame_num.fits))
