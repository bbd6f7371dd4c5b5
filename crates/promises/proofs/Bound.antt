-- How large a header gets (change request M-110), for signers. docs/PROMISES.md says each theorem in words.
use Prim.Native.Nat.{ℕ, ◌*◌, ◌≤◌}
use mathlib.Core.Path.{◌≡◌}
use mathlib.Core.List.{List}
use mathlib.Core.Bool.{true}
use native.Mathlib.Omega.{arith}
use lib.Dec.{T}
use lib.ListN.{length}
use Rattle.bits.specs.Refusals.{buffer_too_short}
use Rattle.bits.specs.Put.{bytes_for}
use Rattle.bits.specs.declared.refusals.Refusal.{Refusal}
use Rattle.table.specs.declared.table.Table.{Table}
use Rattle.syntax.specs.declared.context.UnitKind.{UnitKind}
use Rattle.syntax.specs.declared.record.SliceHeader.{SliceHeader}
use Rattle.syntax.specs.Context.{picture_for}
use Rattle.syntax.specs.SliceHeader.{header}
use Rattle.writer.specs.declared.given.ExtensionGiven.{ExtensionGiven}
use Rattle.writer.specs.Write.{write_header}
use Rattle.writer.proofs.Answers.{wrote}
use Rattle.writer.proofs.Refusing.{TooLong, too_long}
use Rattle.writer.proofs.Room.{room-bits}
use Rattle.size.specs.Size.{most_bits, bound_of, EachBounded, EachReached}
use Rattle.size.proofs.Bound.{header-bound, bound-few, greatest, each-bounded}
use Rattle.size.proofs.Reaching.{each-reached}
use Rattle.promises.specs.Bound.{enough}
use Rattle.std.specs.Prelude.{Ok, Err}

-- no record is too long for a buffer that has room for its bound
pub fits_bound : {t : Table} {h : SliceHeader} {out : List ℕ} → bytes_for (bound_of (picture_for t h.pic_parameter_set_id) h) ≤ length out → TooLong t h out → ⊥
fits_bound {t} {h} {out} room z =
    let n = length ((header t z.kind).bits h) in
    let b = header-bound t z.kind h z.is-good in
    let m = bound-few t z.kind h z.is-good in
    let s : n ≤ 8 * 6144 = omega (arith, b, m) in
    let i : bytes_for n ≤ length out = omega (arith, b, room) in
    omega (arith, z.no_room, room-bits out n s i)

-- so none is for the buffer of one size
pub fits-enough : {t : Table} {h : SliceHeader} {out : List ℕ} → enough ≤ length out → TooLong t h out → ⊥
fits-enough {t} {h} {out} room z = fits_bound (omega (arith, room, bound-few t z.kind h z.is-good)) z

-- ---- the writer

module _ (t : Table) (first : ℕ) (x : ExtensionGiven) (h : SliceHeader) (out : List ℕ) where
  -- to a buffer of 6,144 bytes it never answers 26, whatever the table and the record
  pub bound-never-26 : enough ≤ length out → (r : Refusal) → (write_header t first x h out).answer ≡ Err r → r.number ≡ buffer_too_short → ⊥
  bound-never-26 room r e i = fits-enough room (too_long true t first x h out e i)

  -- nor to one with room for the formula's bits
  pub bound-room : bytes_for (bound_of (picture_for t h.pic_parameter_set_id) h) ≤ length out → (r : Refusal) → (write_header t first x h out).answer ≡ Err r
      → r.number ≡ buffer_too_short → ⊥
  bound-room room r e i = fits_bound room (too_long true t first x h out e i)

  -- and what it writes has no more bits than the formula says
  pub bound-written : (n : ℕ) → (write_header t first x h out).answer ≡ Ok n → n ≤ bound_of (picture_for t h.pic_parameter_set_id) h
  bound-written n e =
      let w = wrote t first x h out {n = n} {left = (write_header t first x h out).left} (λ i. record { answer = e i; left = (write_header t first x h out).left }) in
      omega (arith, w.size, header-bound t w.kind h w.is-good)

-- ---- the formula

-- its greatest value, with 66 entries in each list and 32 active references of each
pub bound-greatest : most_bits 66 66 66 32 32 ≡ 42601
bound-greatest = greatest

-- which no record that can be written exceeds
pub bound-most : (t : Table) (k : UnitKind) (h : SliceHeader) → T ((header t k).good h) → bound_of (picture_for t h.pic_parameter_set_id) h ≤ most_bits 66 66 66 32 32
bound-most t k h g = rw greatest (bound-few t k h g)

-- each part of a header keeps to its part of the formula
pub bound-parts : EachBounded
bound-parts = each-bounded

-- and reaches it
pub bound-reached : EachReached
bound-reached = each-reached
