use mathlib.Core.Path.{◌≡◌, sym, ap, ◌∙◌}
use mathlib.Core.List.{List}
use Prim.Native.Nat.{ℕ, ◌<◌}
use mir.Facts.{to_z_pos}
use mir.Syntax.{w64}
use native.Mathlib.Omega.{arith}
use lib.ListN.{length}
use Rattle.framed.specs.Framed.{framed_units}
use Rattle.framed.specs.Convert.{start_code, joined, bytes_of, ConvertOut}
use Rattle.framed.proofs.Frames.{uncarried-within}
use Rattle.framed.proofs.Joins.{codes-length}
use Rattle.framed.proofs.Cases.{codes-over, codes-broken, codes-uncarried, codes-short, codes-done}
use Rattle.framed.proofs.convert.to_start_codes.Goals as goal
use Rattle.std.specs.Prelude.{Result}
use Rattle.bits.specs.declared.refusals.Refusal.{Refusal}

abbrev answered : ConvertOut → Result ℕ Refusal
answered o = o.answer

abbrev leaves : ConvertOut → List ℕ
leaves o = o.left

pub returns-then-n-gt-LIMIT : goal.returns-then-n-gt-LIMIT
returns-then-n-gt-LIMIT c =
    let a = c.args in
    let e = codes-over a.recording.now a.out.now c.if-n-gt-LIMIT.true in
    record { value = rw c.refuse.ensures (sym (ap answered e)); out_after = sym (ap leaves e) }

pub returns-then-end-n : goal.returns-then-end-n
returns-then-end-n c =
    let a = c.args in
    let q = c.survey-found.ensures.end_value in
    let e = codes-broken a.recording.now a.out.now (omega arith) (omega arith) in
    let small : c.survey-found.result.end < 9223372036854775808 = omega arith in
    record { value = rw (c.refuse-then-end-n.ensures, to_z_pos w64 small, q) (sym (ap answered e)); out_after = sym (ap leaves e) }

pub overflow_cast-place : goal.overflow_cast-place
overflow_cast-place c = omega (arith, uncarried-within 0 0 c.args.recording.now (omega arith) (sym c.survey-found.ensures.first_value ∙ c.in-Some.is))

pub returns-in-Some : goal.returns-in-Some
returns-in-Some c =
    let a = c.args in
    let q = c.survey-found.ensures.end_value in
    let f = sym c.survey-found.ensures.first_value ∙ c.in-Some.is in
    let w = uncarried-within 0 0 a.recording.now (omega arith) f in
    let e = codes-uncarried a.recording.now a.out.now (omega arith) (omega arith) f in
    let small : c.in-Some.place < 9223372036854775808 = omega arith in
    record { value = rw (c.refuse-in-Some.ensures, to_z_pos w64 small) (sym (ap answered e)); out_after = sym (ap leaves e) }

pub returns-then-out-n : goal.returns-then-out-n
returns-then-out-n c =
    let a = c.args in
    let q = c.survey-found.ensures.end_value in
    let e = codes-short a.recording.now a.out.now (omega arith) (omega arith) (sym c.survey-found.ensures.first_value ∙ c.in_default.is) (omega arith) in
    let small : length a.recording.now < 9223372036854775808 = omega arith in
    record { value = rw (c.refuse-then-out-n.ensures, to_z_pos w64 small) (sym (ap answered e)); out_after = sym (ap leaves e) }

pub put_codes-requires : goal.put_codes-requires
put_codes-requires c =
    let s = c.args.recording.now in
    let q = c.survey-found.ensures.end_value in
    let e : length (joined start_code (bytes_of (framed_units s))) ≡ length s = codes-length s (omega arith) in
    (omega arith, omega arith)

pub returns : goal.returns
returns c =
    let a = c.args in
    let q = c.survey-found.ensures.end_value in
    let k = c.put_codes in
    let e = codes-done a.recording.now a.out.now (omega arith) (omega arith) (sym c.survey-found.ensures.first_value ∙ c.in_default.is) (omega arith) in
    record { value = rw k.ensures.value (sym (ap answered e)); out_after = k.ensures.out_after ∙ sym (ap leaves e) }
