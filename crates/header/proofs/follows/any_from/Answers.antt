use Prim.Native.Nat.{ℕ}
use mathlib.Core.Path.{sym, ap, ◌∙◌}
use native.Mathlib.Omega.{arith}
use native.Mathlib.Numerals.{add-one}
use lib.ListN.{drop}
use Rattle.bits.specs.Bits.{bytes_bits}
use Rattle.syntax.specs.SliceHeader.{any_set}
use Rattle.cut.proofs.AnySet.{any_here, any-later, any_none}
use borrow.Author.Rules.{rules}
use Rattle.header.proofs.follows.any_from.Goals as goal

pub returns-then-s-i-ne0 : goal.returns-then-s-i-ne0
returns-then-s-i-ne0 c = sym (c.loop-i.invariant ∙ any_here _ c.loop-i.i (search rules) (omega (arith, c.type_inv.s c.loop-i.i)) c.if-s-i-ne0.true)

pub loop-i-preserved : goal.loop-i-preserved
loop-i-preserved c = c.loop-i.invariant ∙ any-later _ c.loop-i.i (search rules) c.if-s-i-ne0.false ∙ ap (λ (x : ℕ). any_set (bytes_bits (drop x c.args.s.now))) (sym (add-one c.loop-i.i))

pub returns : goal.returns
returns c = sym (c.loop-i.invariant ∙ any_none _ c.loop-i.i (search rules))
