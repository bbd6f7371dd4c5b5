use Prim.Native.Nat.{ℕ}
use native.Mathlib.Omega.{arith}
use lib.ListN.{replicate, length-replicate}
use Rattle.header.specs.Short.{HeaderWords}
use Rattle.record.specs.Record.{header_from}
use Rattle.writer.specs.Write.{held_words}
use Rattle.writer.proofs.Known.{fields-done}
use Rattle.writer.proofs.write.write_fields.Goals as goal

pub returns-in-Some : goal.returns-in-Some
returns-in-Some c =
    let a = c.args in
    let h : HeaderWords = held_words a.numbers.now a.signed.now a.l0.now a.l1.now a.marking.now a.w0.now a.w1.now in
    let len = length-replicate {A = ℕ} 256 0 in
    rw (← fields-done a.x (header_from h) (replicate 256 0) c.in-Some.ensures a.out.now (omega (arith, len, c.if-c-le2048.true))) c.copy_out.ensures
