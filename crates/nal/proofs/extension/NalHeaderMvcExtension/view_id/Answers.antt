use native.Mathlib.Omega.{arith}
use lib.Dec.{lit≤}
use Rattle.nal.specs.Extension.{mvc_bits, view_id}
use Rattle.nal.proofs.ThreeBytes.{three-field}
use Rattle.nal.proofs.extension.NalHeaderMvcExtension.view_id.Goals as goal

pub returns : goal.returns
unfolding view_id mvc_bits
returns c = let e = c.args.self in omega (arith, three-field e.b1 e.b2 e.b3 (omega arith) (omega arith) 8 10 (lit≤ tt))
