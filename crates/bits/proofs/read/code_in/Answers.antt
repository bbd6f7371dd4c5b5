use native.Mathlib.Omega.{arith}
use mathlib.Core.Path.{◌≡◌, sym, ap, ◌∙◌}
use mathlib.Core.List.{List}
use Prim.Native.Nat.{ℕ, ◌+◌, ◌-◌, ◌*◌, ◌/◌, ◌^◌, ◌<◌, ◌≤◌}
use lib.Count.{count_leading_zeros}
use Rattle.bits.specs.Windows.{bits_at}
use Rattle.bits.proofs.Windows.{front, under, bits-set, leading-none, code-range}
use Rattle.bits.proofs.Reading.{ue-in, ue-short, ue-zeros, ue-end}
use Rattle.bits.proofs.read.code_in.Goals as goal

module _ (s : List ℕ) (at w : ℕ) (e : w ≡ bits_at s at 64) where
  -- the window's first half
  top : w / 2 ^ 32 ≡ bits_at s at 32
  top = rw e (front s at 32 32 64 (omega arith))

  -- nothing but zeros in it
  none : 32 ≤ count_leading_zeros 32 (w / 2 ^ 32) → bits_at s at 32 ≡ 0
  none h = sym top ∙ leading-none 32 _ (under _ _ 32 _ top) h

  -- or zeros and the set bit after them
  set : count_leading_zeros 32 (w / 2 ^ 32) < 32 → bits_at s at (count_leading_zeros 32 (w / 2 ^ 32) + 1) ≡ 1
  set h = bits-set s at 32 (w / 2 ^ 32) top h

  -- the whole code
  code : count_leading_zeros 32 (w / 2 ^ 32) < 32
      → w / 2 ^ (64 - (2 * count_leading_zeros 32 (w / 2 ^ 32) + 1)) ≡ bits_at s at (2 * count_leading_zeros 32 (w / 2 ^ 32) + 1)
  code h =
      let z = count_leading_zeros 32 (w / 2 ^ 32) in
      ap (λ (x : ℕ). x / 2 ^ (64 - (2 * z + 1))) e ∙ front s at (2 * z + 1) (64 - (2 * z + 1)) 64 (omega arith)

  range : count_leading_zeros 32 (w / 2 ^ 32) < 32 → let z = count_leading_zeros 32 (w / 2 ^ 32) in
      (0 < w / 2 ^ (64 - (2 * z + 1))) × (w / 2 ^ (64 - (2 * z + 1)) < 2 ^ 32)
  range h = rw (code h) (code-range s at _ (set h) h)

pub returns-then-left-size : goal.returns-then-left-size
returns-then-left-size c =
    let a = c.args in
    rw c.refuse_at.ensures (sym (ue-short a.s.now a.at _ (set a.s.now a.at a.w c.requires.2 (omega arith)) (omega arith) (omega arith)))

pub overflow_sub-result-then-z-lt32 : goal.overflow_sub-result-then-z-lt32
overflow_sub-result-then-z-lt32 c = (range c.args.s.now c.args.at c.args.w c.requires.2 (omega arith)).0

pub overflow_cast-result : goal.overflow_cast-result
overflow_cast-result c = omega (arith, (range c.args.s.now c.args.at c.args.w c.requires.2 (omega arith)).1)

pub returns-then-left-lt32 : goal.returns-then-left-lt32
returns-then-left-lt32 c =
    let a = c.args in
    rw c.refuse_at-then-left-lt32.ensures (sym (ue-end a.s.now a.at (none a.s.now a.at a.w c.requires.2 (omega arith)) (omega arith) (omega arith)))

pub returns-else-left-size : goal.returns-else-left-size
returns-else-left-size c =
    let a = c.args in
    let s = set a.s.now a.at a.w c.requires.2 (omega arith) in
    rw (code a.s.now a.at a.w c.requires.2 (omega arith)) (sym (ue-in a.s.now a.at _ s (omega arith) (omega arith)))

pub returns-else-left-lt32 : goal.returns-else-left-lt32
returns-else-left-lt32 c =
    let a = c.args in
    rw c.refuse_at-else-z-lt32.ensures (sym (ue-zeros a.s.now a.at (none a.s.now a.at a.w c.requires.2 (omega arith)) (omega arith)))
