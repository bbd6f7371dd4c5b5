use mathlib.Core.Path.{sym}
use native.Mathlib.Omega.{arith}
use Rattle.nal.proofs.ThreeBytes.{is-svc, is-mvc}
use Rattle.nal.proofs.extension.NalHeaderExtension.from_bytes.Goals as goal

pub returns-then-b1-gt127 : goal.returns-then-b1-gt127
returns-then-b1-gt127 c = let a = c.args in sym (is-svc a.b1 a.b2 a.b3 (omega arith) (omega arith) (omega arith) (omega arith))

pub returns : goal.returns
returns c = let a = c.args in sym (is-mvc a.b1 a.b2 a.b3 (omega arith) (omega arith) (omega arith))
