use Prim.Native.Nat.{◌+◌, ◌*◌}
use mathlib.Core.Path.{◌≡◌, sym, ◌∙◌}
use lib.IntN.{pos}
use lib.ListN.{get_or}
use mir.Facts.{to_z-of_z}
use mir.Syntax.{w32}
use mir.Val.{SFits}
use borrow.Author.Rules.{rules}
use Rattle.writer.proofs.PlainLoop.{flags_at, plain-found, plain-next, plain-all}
use Rattle.writer.proofs.plain.is_plain_weights.Goals as goal

pub returns-then-not-both : goal.returns-then-not-both
returns-then-not-both c =
    let w = c.args.words.now in
    let k = 8 * c.loop-i.i in
    let f0 : SFits w32 (get_or w k (pos 0)) = search rules in
    let f3 : SFits w32 (get_or w (k + 3) (pos 0)) = search rules in
    let e : c.both.result ≡ flags_at w k = c.both.ensures ∙ rw (c.is_bit.ensures, c.is_bit-in-loop-i.ensures, to_z-of_z f0, to_z-of_z f3) in
    sym (plain-found _ _ c.loop-i.invariant c.loop-i-test.true (sym e ∙ c.if-not-both.true))

pub loop-i-preserved : goal.loop-i-preserved
loop-i-preserved c =
    let w = c.args.words.now in
    let k = 8 * c.loop-i.i in
    let f0 : SFits w32 (get_or w k (pos 0)) = search rules in
    let f3 : SFits w32 (get_or w (k + 3) (pos 0)) = search rules in
    let e : c.both.result ≡ flags_at w k = c.both.ensures ∙ rw (c.is_bit.ensures, c.is_bit-in-loop-i.ensures, to_z-of_z f0, to_z-of_z f3) in
    plain-next _ _ c.loop-i.invariant c.loop-i-test.true (sym e ∙ c.if-not-both.false)

pub returns : goal.returns
returns c = sym (plain-all _ _ c.loop-i.invariant c.loop-i-test.false)
