use native.Mathlib.Omega.{arith}
use lib.Dec.{lit≤}
use Rattle.nal.specs.Extension.{svc_bits, svc_temporal_id}
use Rattle.nal.proofs.ThreeBytes.{three-field}
use Rattle.nal.proofs.extension.NalHeaderSvcExtension.temporal_id.Goals as goal

pub returns : goal.returns
unfolding svc_temporal_id svc_bits
returns c = let e = c.args.self in omega (arith, three-field e.b1 e.b2 e.b3 (omega arith) (omega arith) 16 3 (lit≤ tt))
