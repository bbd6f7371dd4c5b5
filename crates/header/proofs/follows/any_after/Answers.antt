use Prim.Native.Nat.{ℕ, ◌/◌}
use mathlib.Core.Path.{sym, ap, ◌∙◌}
use native.Mathlib.Numerals.{add-one}
use lib.ListN.{drop}
use lib.Pow.{pow_pos}
use Rattle.bits.specs.Bits.{bytes_bits}
use Rattle.syntax.specs.SliceHeader.{any_set}
use Rattle.cut.proofs.AnySet.{low_bits, after-end, after-here, after-later}
use borrow.Author.Rules.{rules}
use Rattle.header.proofs.follows.any_after.Goals as goal

pub returns-then-s-i : goal.returns-then-s-i
returns-then-s-i c = sym (after-end _ _ c.if-s-i.true)

pub nonzero_rem-s : goal.nonzero_rem-s
nonzero_rem-s c = rw (low_bits c.args.at) (pow_pos _)

pub returns-then-s-i-ne0 : goal.returns-then-s-i-ne0
returns-then-s-i-ne0 c = sym (after-here _ c.args.at (search rules) (rw (low_bits c.args.at) at c.if-s-i-ne0.true))

pub returns : goal.returns
returns c =
    let a = c.args in
    c.any_from.ensures
    ∙ ap (λ (x : ℕ). any_set (bytes_bits (drop x a.s.now))) (add-one (a.at / 8))
    ∙ sym (after-later _ a.at (search rules) (rw (low_bits a.at) at c.if-s-i-ne0.false))
