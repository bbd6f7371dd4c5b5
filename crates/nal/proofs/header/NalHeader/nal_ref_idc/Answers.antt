use native.Mathlib.Omega.{arith}
use Rattle.nal.proofs.FirstByte.{ref-idc}
use Rattle.nal.proofs.header.NalHeader.nal_ref_idc.Goals as goal

pub returns : goal.returns
returns c = omega (arith, ref-idc c.args.self)
