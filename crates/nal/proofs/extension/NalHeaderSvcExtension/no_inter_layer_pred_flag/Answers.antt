use native.Mathlib.Omega.{arith}
use borrow.Author.Tests.{eqb-true, eqb-false}
use lib.Dec.{lit≤}
use Rattle.nal.specs.Extension.{svc_bits, no_inter_layer_pred_flag}
use Rattle.nal.proofs.ThreeBytes.{three-flag}
use Rattle.nal.proofs.extension.NalHeaderSvcExtension.no_inter_layer_pred_flag.Goals as goal

pub returns : goal.returns
unfolding no_inter_layer_pred_flag svc_bits
returns c = let e = c.args.self in three-flag e.b1 e.b2 e.b3 (omega arith) (omega arith) 8 _ (lit≤ tt) (λ h. omega (arith, eqb-true)) (λ h g. omega (arith, eqb-false))
