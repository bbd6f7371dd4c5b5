use Prim.Native.Nat.{ℕ}
use mathlib.Core.Path.{refl, ◌∙◌}
use native.Mathlib.Omega.{arith}
use lib.ListN.{replicate, length-replicate}
use Rattle.header.specs.Short.{HeaderWords}
use Rattle.record.specs.Record.{header_from}
use Rattle.writer.specs.Write.{held_words}
use Rattle.writer.proofs.Known.{fields-refused, fields-most, fields-done}
use Rattle.writer.proofs.write.write_long.Goals as goal

pub copy_out-requires : goal.copy_out-requires
copy_out-requires c =
    let a = c.args in
    let h : HeaderWords = held_words a.numbers.now a.signed.now a.l0.now a.l1.now a.marking.now a.w0.now a.w1.now in
    let len = c.put_header-end.auto.d ∙ length-replicate {A = ℕ} 6144 0 in
    let most = fields-most a.x (header_from h) (replicate 6144 0) c.in-Some.ensures in
    (omega (arith, len, most), omega (arith, len))

pub returns-in-Some : goal.returns-in-Some
returns-in-Some c =
    let a = c.args in
    let h : HeaderWords = held_words a.numbers.now a.signed.now a.l0.now a.l1.now a.marking.now a.w0.now a.w1.now in
    let len = length-replicate {A = ℕ} 6144 0 in
    let most = fields-most a.x (header_from h) (replicate 6144 0) c.in-Some.ensures in
    rw (← fields-done a.x (header_from h) (replicate 6144 0) c.in-Some.ensures a.out.now (omega (arith, len, most))) c.copy_out.ensures

pub returns-in-None : goal.returns-in-None
returns-in-None c =
    let a = c.args in
    let h : HeaderWords = held_words a.numbers.now a.signed.now a.l0.now a.l1.now a.marking.now a.w0.now a.w1.now in
    rw (c.refuse.ensures, fields-refused a.x (header_from h) (replicate 6144 0) a.out.now (length-replicate {A = ℕ} 6144 0) c.in-None.ensures) (refl, refl)
