use mathlib.Core.Path.{◌≡◌}
use mathlib.Core.Bool.{and-true}
use lib.IntN.{pos, negsuc}
use mir.Val.{SFits}
use mir.Syntax.{w32}
use Rattle.table.specs.Sets.{between, between_z, all, picture_fits}
use Rattle.table.proofs.Signs.{wide_fits, wide_is}
use borrow.Author.Rules.{rules}
use Rattle.table.proofs.sets.picture_fits.Goals as goal

pub overflow_cast-p : goal.overflow_cast-p
overflow_cast-p c = let f : SFits w32 c.args.p.pic_init_qp_minus26 = search rules in wide_fits f

pub overflow_cast-p-2 : goal.overflow_cast-p-2
overflow_cast-p-2 c = let f : SFits w32 c.args.p.pic_init_qs_minus26 = search rules in wide_fits f

pub returns : goal.returns
unfolding picture_fits all
returns c =
    let fp : SFits w32 c.args.p.pic_init_qp_minus26 = search rules in
    let fs : SFits w32 c.args.p.pic_init_qs_minus26 = search rules in
    -- the signed tests, on the fields themselves
    let qp : c.within_signed.result ≡ between_z (negsuc 61) (pos 25) c.args.p.pic_init_qp_minus26 = rw (wide_is fp) at c.within_signed.ensures in
    let qs : c.within_signed-2.result ≡ between_z (negsuc 25) (pos 25) c.args.p.pic_init_qs_minus26 = rw (wide_is fs) at c.within_signed-2.ensures in
    rw (
      c.both-6.ensures,
      c.both-5.ensures,
      c.both-4.ensures,
      c.both-3.ensures,
      c.both-2.ensures,
      c.both.ensures,
      c.within.ensures,
      c.within-2.ensures,
      c.within-3.ensures,
      c.within-4.ensures,
      qp,
      qs,
      c.within-5.ensures,
      and-true (between 0 16777216 c.args.p.slice_group_change_rate),
    )
