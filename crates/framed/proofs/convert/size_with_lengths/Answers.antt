use mathlib.Core.Path.{◌≡◌, sym, ◌∙◌}
use native.Mathlib.Omega.{arith}
use lib.ListN.{length, drop}
use Rattle.walk.specs.Units.{units_at}
use Rattle.walk.proofs.Chain.{went, ended}
use Rattle.framed.specs.Convert.{length_bytes, joined, bytes_of}
use Rattle.framed.proofs.Joins.{size-on, place-behind, part_length}
use Rattle.framed.proofs.convert.size_with_lengths.Goals as goal

pub loop-u-init : goal.loop-u-init
loop-u-init c = (omega arith, omega arith, omega arith)

pub returns-in_default : goal.returns-in_default
returns-in_default c =
    let e = ended c.args.recording.now c.loop-u.i (sym c.next_unit.ensures ∙ c.in_default.is) in
    let z : length (joined length_bytes (bytes_of (units_at c.loop-u.i (drop c.loop-u.i c.args.recording.now)))) ≡ 0 = rw e in
    omega arith

pub overflow_add-o : goal.overflow_add-o
overflow_add-o c =
    let s = c.args.recording.now in
    let e = sym c.next_unit.ensures ∙ c.in-Some.is in
    let w = went s c.loop-u.i _ e in
    let p = place-behind s c.loop-u.i e in
    omega arith

pub overflow_add-o-in-loop-u : goal.overflow_add-o-in-loop-u
overflow_add-o-in-loop-u c =
    let s = c.args.recording.now in
    let e = sym c.next_unit.ensures ∙ c.in-Some.is in
    let w = went s c.loop-u.i _ e in
    let p = place-behind s c.loop-u.i e in
    omega arith

pub loop-u-smaller : goal.loop-u-smaller
loop-u-smaller c = let w = went c.args.recording.now c.loop-u.i _ (sym c.next_unit.ensures ∙ c.in-Some.is) in omega arith

pub loop-u-preserved : goal.loop-u-preserved
loop-u-preserved c =
    let s = c.args.recording.now in
    let i = c.loop-u.i in
    let e = sym c.next_unit.ensures ∙ c.in-Some.is in
    let w = went s i _ e in
    let p = place-behind s i e in
    let n = size-on c.in-Some.u.length w.there (part_length s c.in-Some.u.place c.in-Some.u.length (omega arith)) in
    (omega arith, omega arith, omega arith)
