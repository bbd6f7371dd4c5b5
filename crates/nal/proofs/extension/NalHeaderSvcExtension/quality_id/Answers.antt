use native.Mathlib.Omega.{arith}
use lib.Dec.{lit≤}
use Rattle.nal.specs.Extension.{svc_bits, quality_id}
use Rattle.nal.proofs.ThreeBytes.{three-field}
use Rattle.nal.proofs.extension.NalHeaderSvcExtension.quality_id.Goals as goal

pub returns : goal.returns
unfolding quality_id svc_bits
returns c = let e = c.args.self in omega (arith, three-field e.b1 e.b2 e.b3 (omega arith) (omega arith) 12 4 (lit≤ tt))
