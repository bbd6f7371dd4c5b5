use mathlib.Core.Path.{refl, sym, ap, ◌∙◌}
use mathlib.Core.List.{List}
use Prim.Native.Nat.{ℕ, ◌<◌}
use mir.Facts.{to_z_pos}
use mir.Syntax.{w64}
use native.Mathlib.Omega.{arith}
use Rattle.framed.specs.Convert.{ConvertOut}
use Rattle.framed.proofs.Cases.{lengths-over, lengths-large, lengths_short, lengths-done}
use Rattle.framed.proofs.Joins.{lengths-most}
use Rattle.framed.proofs.convert.to_lengths.Goals as goal
use Rattle.std.specs.Prelude.{Result}
use Rattle.bits.specs.declared.refusals.Refusal.{Refusal}

abbrev answered : ConvertOut → Result ℕ Refusal
answered o = o.answer

abbrev leaves : ConvertOut → List ℕ
leaves o = o.left

pub returns-then-n-gt-LIMIT : goal.returns-then-n-gt-LIMIT
returns-then-n-gt-LIMIT c =
    let a = c.args in
    let e = lengths-over a.recording.now a.out.now c.if-n-gt-LIMIT.true in
    record { value = rw c.refuse.ensures (sym (ap answered e)); out_after = sym (ap leaves e) }

pub put_lengths-requires : goal.put_lengths-requires
put_lengths-requires c =
    let s = c.args.recording.now in
    let w = c.is_roomy.ensures c.if-is_roomy.true in
    let m = lengths-most s in
    (omega arith, omega arith)

pub returns-then-is_roomy : goal.returns-then-is_roomy
returns-then-is_roomy c =
    let a = c.args in
    let w = c.is_roomy.ensures c.if-is_roomy.true in
    let m = lengths-most a.recording.now in
    let p = c.put_lengths in
    let e = lengths-done a.recording.now a.out.now (omega arith) _ refl (omega arith) (omega arith) in
    record { value = rw p.ensures.value (sym (ap answered e)); out_after = p.ensures.out_after ∙ sym (ap leaves e) }

pub returns-then-need-gt-LIMIT : goal.returns-then-need-gt-LIMIT
returns-then-need-gt-LIMIT c =
    let a = c.args in
    let k = c.size_with_lengths-need in
    let e = lengths-large a.recording.now a.out.now (omega arith) k.result k.ensures (omega arith) in
    record { value = rw c.refuse-then-need-gt-LIMIT.ensures (sym (ap answered e)); out_after = sym (ap leaves e) }

pub returns-then-out-need : goal.returns-then-out-need
returns-then-out-need c =
    let a = c.args in
    let k = c.size_with_lengths-need in
    let e = lengths_short a.recording.now a.out.now (omega arith) k.result k.ensures (omega arith) (omega arith) in
    let small : k.result < 9223372036854775808 = omega arith in
    record { value = rw (c.refuse-then-out-need.ensures, to_z_pos w64 small) (sym (ap answered e)); out_after = sym (ap leaves e) }

pub put_lengths-requires-2 : goal.put_lengths-requires-2
put_lengths-requires-2 c = let k = c.size_with_lengths-need.ensures in (omega arith, omega arith)

pub returns : goal.returns
returns c =
    let a = c.args in
    let k = c.size_with_lengths-need in
    let p = c.put_lengths-2 in
    let e = lengths-done a.recording.now a.out.now (omega arith) k.result k.ensures (omega arith) (omega arith) in
    record { value = rw p.ensures.value (sym (ap answered e)); out_after = p.ensures.out_after ∙ sym (ap leaves e) }
