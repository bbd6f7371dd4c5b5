use native.Mathlib.Omega.{arith}
use borrow.Author.Tests.{eqb-true, eqb-false}
use lib.Dec.{lit≤}
use Rattle.nal.specs.Extension.{svc_bits, use_ref_base_pic_flag}
use Rattle.nal.proofs.ThreeBytes.{three-flag}
use Rattle.nal.proofs.extension.NalHeaderSvcExtension.use_ref_base_pic_flag.Goals as goal

pub returns : goal.returns
unfolding use_ref_base_pic_flag svc_bits
returns c = let e = c.args.self in three-flag e.b1 e.b2 e.b3 (omega arith) (omega arith) 19 _ (lit≤ tt) (λ h. omega (arith, eqb-true)) (λ h g. omega (arith, eqb-false))
