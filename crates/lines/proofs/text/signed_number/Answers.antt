use borrow.Author.Rules.{rules}
use mathlib.Core.Path.{◌≡◌, ap}
use Prim.Native.Nat.{suc}
use native.Mathlib.Omega.{arith}
use lib.IntN.{ℤ, nat_abs}
use lib.ListN.{length}
use mir.Facts.{to_z-of_z}
use mir.Syntax.{w64}
use mir.Val.{SFits}
use Rattle.lines.specs.Text.{decimal, signed}
use Rattle.lines.proofs.Magnitudes.{signed_below, signed_above}
use Rattle.lines.proofs.Texts.{then}
use Rattle.lines.proofs.text.signed_number.Goals as goal

pub words-digits-requires : goal.words-digits-requires
words-digits-requires c =
    let z : ℤ = c.args.z in
    let f : SFits w64 z = search rules in
    let l : length (signed z) ≡ suc (length (decimal (nat_abs z))) = ap length (signed_below z (rw (to_z-of_z f) at c.if-z-lt0.true)) in
    omega arith

pub number-requires : goal.number-requires
number-requires c =
    let z : ℤ = c.args.z in
    let f : SFits w64 z = search rules in
    let m : c.magnitude.result ≡ nat_abs z = rw (to_z-of_z f) at c.magnitude.ensures in
    let l : length (signed z) ≡ suc (length (decimal (nat_abs z))) = ap length (signed_below z (rw (to_z-of_z f) at c.if-z-lt0.true)) in
    rw m (omega arith)

pub returns-then-z-lt0 : goal.returns-then-z-lt0
returns-then-z-lt0 c =
    let z : ℤ = c.args.z in
    let f : SFits w64 z = search rules in
    let m : c.magnitude.result ≡ nat_abs z = rw (to_z-of_z f) at c.magnitude.ensures in
    rw (signed_below z (rw (to_z-of_z f) at c.if-z-lt0.true), ← m) (then c.words-digits.ensures c.number.ensures)

pub number-requires-2 : goal.number-requires-2
number-requires-2 c =
    let z : ℤ = c.args.z in
    let f : SFits w64 z = search rules in
    let m : c.magnitude-2.result ≡ nat_abs z = rw (to_z-of_z f) at c.magnitude-2.ensures in
    rw (m, ← signed_above z (rw (to_z-of_z f) at c.if-z-lt0.false)) c.requires

pub returns : goal.returns
returns c =
    let z : ℤ = c.args.z in
    let f : SFits w64 z = search rules in
    let m : c.magnitude-2.result ≡ nat_abs z = rw (to_z-of_z f) at c.magnitude-2.ensures in
    rw (signed_above z (rw (to_z-of_z f) at c.if-z-lt0.false), ← m) c.number-2.ensures
