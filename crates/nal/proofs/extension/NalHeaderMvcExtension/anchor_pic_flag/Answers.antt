use native.Mathlib.Omega.{arith}
use borrow.Author.Tests.{eqb-true, eqb-false}
use lib.Dec.{lit≤}
use Rattle.nal.specs.Extension.{mvc_bits, anchor_pic_flag}
use Rattle.nal.proofs.ThreeBytes.{three-flag}
use Rattle.nal.proofs.extension.NalHeaderMvcExtension.anchor_pic_flag.Goals as goal

pub returns : goal.returns
unfolding anchor_pic_flag mvc_bits
returns c = let e = c.args.self in three-flag e.b1 e.b2 e.b3 (omega arith) (omega arith) 21 _ (lit≤ tt) (λ h. omega (arith, eqb-true)) (λ h g. omega (arith, eqb-false))
