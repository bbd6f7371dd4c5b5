use mathlib.Core.Path.{◌≡◌, sym, ap, ◌∙◌}
use mathlib.Core.Bool.{Bool, true, false}
use mathlib.Core.List.{List}
use Prim.Native.Nat.{ℕ, ◌+◌, ◌-◌, ◌*◌, ◌^◌, ◌≤◌, ◌<◌}
use native.Mathlib.Omega.{arith}
use native.Mathlib.Nat.{pow-suc}
use native.Mathlib.Numerals.{add-one}
use borrow.Author.Tests.{lt-ltb, le-ltb}
use lib.Dec.{leb}
use lib.ListN.{length}
use lib.Pow.{pow_pos}
use mir.Facts.{to_z-of_z}
use mir.Syntax.{w64}
use mir.Val.{to_z, of_z}
use Rattle.bits.specs.Bits.{reach}
use Rattle.bits.specs.Codes.{ue_zeros, ue_good}
use Rattle.bits.proofs.Puts.{length-put}
use Rattle.bits.proofs.Codes.{ue-zeros, length-ue}
use Rattle.bits.proofs.UeCodes.{few-leading, put-code}
use Rattle.bits.proofs.Writes.{room_of, room_fits, ends-none, ends-short, ends-put}
use Rattle.bits.proofs.put.put_ue.Goals as goal

-- a value below 2^32 - 1 has bits
good : (v : ℕ) → v < 2 ^ 32 - 1 → ue_good v ≡ true
good v h = lt-ltb v 4294967295 h

-- whether there is room
test : (v at : ℕ) (d : List ℕ) (r b : Bool) → r ≡ leb (at + (2 * ue_zeros v + 1)) (room_of d) → r ≡ b → leb (at + (2 * ue_zeros v + 1)) (room_of d) ≡ b
test v at d r b e f = sym e ∙ f

inside : (v at : ℕ) (d : List ℕ) (r : Bool) → r ≡ leb (at + (2 * ue_zeros v + 1)) (room_of d) → r ≡ true
    → (at + (2 * ue_zeros v + 1) ≤ 8 * length d) × (at + (2 * ue_zeros v + 1) ≤ 8 * reach)
inside v at d r e f = room_fits d _ (test v at d r true e f)

pub returns-then-v-eq4294967295 : goal.returns-then-v-eq4294967295
returns-then-v-eq4294967295 c =
    let e = ends-none _ _ _ _ _ (le-ltb c.args.v 4294967295 (omega arith)) c.refuse.ensures in
    record { value = e.0; d_after = e.1 }

pub overflow_sub-z : goal.overflow_sub-z
overflow_sub-z c = few-leading c.args.v (omega arith)

pub returns-then-not-has_room : goal.returns-then-not-has_room
unfolding ue_zeros
returns-then-not-has_room c =
    let a = c.args in
    let v = a.v in
    -- a signed argument is handed over by its bits
    let back : to_z w64 (of_z w64 c.bytes_for.result) ≡ c.bytes_for.result = to_z-of_z {w = w64} (record { sfits = c.bytes_for.type_inv }) in
    let e = ends-short _ _ _ _ (2 * ue_zeros v + 1) _ _ (good v (omega arith)) (sym (length-ue v)) (test v a.c.at a.d.now _ false c.has_room.ensures c.if-not-has_room.true)
    c.refuse-then-not-has_room.ensures (back ∙ c.bytes_for.ensures) in
    record { value = e.0; d_after = e.1 }

pub fill-requires : goal.fill-requires
unfolding ue_zeros
fill-requires c =
    let i = inside c.args.v c.args.c.at c.args.d.now _ c.has_room.ensures c.if-not-has_room.false in
    (omega (arith, i.0), omega (arith, i.1), omega arith, pow_pos _)

pub overflow_add-at : goal.overflow_add-at
unfolding ue_zeros
overflow_add-at c = omega (arith, (inside c.args.v c.args.c.at c.args.d.now _ c.has_room.ensures c.if-not-has_room.false).1)

pub fill-requires-2 : goal.fill-requires-2
unfolding ue_zeros
fill-requires-2 c =
    let v = c.args.v in
    let i = inside v c.args.c.at c.args.d.now _ c.has_room.ensures c.if-not-has_room.false in
    let z = ue-zeros v (omega arith) in
    let n = simp length-put at (ap length c.fill.ensures) in
    (omega (arith, i.0, n), omega (arith, i.1), omega arith, rw (add-one (ue_zeros v), pow-suc) (omega (arith, z.below)))

pub overflow_add-result : goal.overflow_add-result
unfolding ue_zeros
overflow_add-result c = omega (arith, (inside c.args.v c.args.c.at c.args.d.now _ c.has_room.ensures c.if-not-has_room.false).1)

pub returns : goal.returns
unfolding ue_zeros
returns c =
    let a = c.args in
    let v = a.v in
    let e = ends-put _ _ _ _ (2 * ue_zeros v + 1) _ (good v (omega arith)) (sym (length-ue v)) (test v a.c.at a.d.now _ true c.has_room.ensures c.if-not-has_room.false)
    (rw c.fill.ensures at c.fill-2.ensures ∙ put-code a.d.now a.c.at v (omega arith)) in
    record { value = e.0; d_after = e.1 }
