use mathlib.Core.Path.{◌≡◌, sym, ◌∙◌}
use mathlib.Core.Bool.{Bool}
use Prim.Native.Nat.{ℕ, ◌^◌}
use native.Mathlib.Omega.{arith}
use borrow.Author.Tests.{ltb-true}
use lib.Dec.{ltb}
use lib.ListN.{length}
use mir.Facts.{to_z-of_z}
use mir.Syntax.{w64}
use mir.Val.{to_z, of_z}
use Rattle.bits.specs.Codes.{width_of, u_bits, u_good}
use Rattle.bits.proofs.Digits.{length_digits}
use Rattle.bits.proofs.Writes.{room_fits, ends-none, ends-short, ends-put}
use Rattle.bits.proofs.put.put_bits.Goals as goal

-- whether the value has bits
good : (n v w : ℕ) (f : Bool) → w ≡ width_of n → f ≡ ltb v (2 ^ w) → u_good n v ≡ f
good n v w f e t = sym (rw e at t)

-- and how many
size : (n v w : ℕ) → w ≡ width_of n → w ≡ length (u_bits n v)
size n v w e = e ∙ sym (length_digits _ _)

pub returns-then-not-fits : goal.returns-then-not-fits
returns-then-not-fits c =
    let g = good c.args.n c.args.v _ _ c.field_width-w.ensures.0 c.fits.ensures in
    let e = ends-none _ _ _ _ _ (g ∙ c.if-not-fits.true) c.refuse.ensures in
    record { value = e.0; d_after = e.1 }

pub returns-then-not-has_room : goal.returns-then-not-has_room
returns-then-not-has_room c =
    let w = c.field_width-w in
    let g = good c.args.n c.args.v _ _ w.ensures.0 c.fits.ensures ∙ c.if-not-fits.false in
    let short = sym c.has_room.ensures ∙ c.if-not-has_room.true in
    -- a signed argument is handed over by its bits
    let back : to_z w64 (of_z w64 c.bytes_for.result) ≡ c.bytes_for.result = to_z-of_z {w = w64} (record { sfits = c.bytes_for.type_inv }) in
    let e = ends-short _ _ _ _ w.result _ _ g (size c.args.n c.args.v _ w.ensures.0) short c.refuse-then-not-has_room.ensures (back ∙ c.bytes_for.ensures) in
    record { value = e.0; d_after = e.1 }

pub fill-requires : goal.fill-requires
fill-requires c =
    let f = c.field_width-w.ensures in
    let g = good c.args.n c.args.v _ _ f.0 c.fits.ensures ∙ c.if-not-fits.false in
    let i = room_fits c.args.d.now _ (sym c.has_room.ensures ∙ c.if-not-has_room.false) in
    (omega (arith, i.0), omega (arith, i.1), f.1, rw f.0 (ltb-true _ _ g))

pub overflow_add-result : goal.overflow_add-result
overflow_add-result c = omega (arith, (room_fits c.args.d.now _ (sym c.has_room.ensures ∙ c.if-not-has_room.false)).1)

pub returns : goal.returns
returns c =
    let w = c.field_width-w in
    let g = good c.args.n c.args.v _ _ w.ensures.0 c.fits.ensures ∙ c.if-not-fits.false in
    let room = sym c.has_room.ensures ∙ c.if-not-has_room.false in
    let e = ends-put _ _ _ _ w.result _ g (size c.args.n c.args.v _ w.ensures.0) room (rw w.ensures.0 at c.fill.ensures) in
    record { value = e.0; d_after = e.1 }
