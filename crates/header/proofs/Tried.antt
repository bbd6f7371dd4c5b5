-- A header read from a part of its unit, and again from a larger one: what the words hold then is what reading the whole body leaves in them.
use Prim.Native.Nat.{ℕ, ◌-◌, ◌≤◌}
use mathlib.Core.Path.{◌≡◌, refl, sym, ap, ◌∙◌}
use mathlib.Core.List.{List, ◌++◌}
use mathlib.Core.Bool.{false}
use native.Mathlib.Omega.{arith}
use lib.ListN.{length, take, drop, length-drop, drop_of_length-le}
use lib.Seq.{take_all}
use Rattle.bits.specs.declared.refusals.Refusal.{Refusal}
use Rattle.bits.specs.declared.read.Cursor.{Cursor}
use Rattle.bits.specs.Refusals.{Res, got, no}
use Rattle.table.specs.declared.table.Table.{Table}
use Rattle.syntax.specs.declared.context.UnitKind.{UnitKind}
use Rattle.syntax.specs.declared.record.SliceHeader.{SliceHeader}
use Rattle.syntax.specs.SliceHeader.{read_header}
use Rattle.cut.specs.Seam.{body_bits, behind_bits, near, may_change}
use Rattle.cut.proofs.Seams.{cut_all}
use Rattle.cut.proofs.Fronts.{not_five, not-22, near-got, near-no}
use Rattle.header.specs.Short.{HeaderWords}
use Rattle.header.specs.Told.{Filled, Kept}
use Rattle.header.proofs.Told.{filled-as}
use Rattle.std.specs.Prelude.{Result, Ok, Err}

-- the unit's bits are those of its first bytes and more
whole_is : (t : Table) (n : UnitKind) (unit : List ℕ) → read_header t n (body_bits unit 0) ≡ read_header t n (body_bits (take near unit) 0 ++ behind_bits unit 0 near)
whole_is t n unit = ap (read_header t n) (cut_all unit near)

module _ (t : Table) (n : UnitKind) (unit : List ℕ) (a : Result Cursor Refusal) (b w : HeaderWords) where
  abbrev Near : Res SliceHeader
  Near = read_header t n (body_bits (take near unit) 0)

  abbrev Whole : Res SliceHeader
  Whole = read_header t n (body_bits unit 0)

  -- a header that was read from them
  pub tried-got : Filled (read_header t n (body_bits (take near unit) 0)) a b w → (c : Cursor) → a ≡ Ok c → Filled (read_header t n (body_bits unit 0)) a b w
  unfolding Filled
  tried-got f c e = go Near refl f
    where
      go : (m : Res SliceHeader) → read_header t n (body_bits (take near unit) 0) ≡ m → Filled m a b w → Filled (read_header t n (body_bits unit 0)) a b w
      go (got h d) q g = filled-as a b w (whole_is t n unit ∙ near-got t n (body_bits (take near unit) 0) (behind_bits unit 0 near) h d q) g
      go (no x) q g = let y : Ok c ≡ Err x = sym e ∙ g in absurd (let z : ◌≡◌ {A = ℕ} 0 1 = cc in omega arith)

  -- a refusal that more bits do not change
  pub tried-no : Filled (read_header t n (body_bits (take near unit) 0)) a b w → (x : Refusal) → a ≡ Err x → may_change x ≡ false → Filled (read_header t n (body_bits unit 0)) a b w
  unfolding Filled
  tried-no f x e u = go Near refl f
    where
      go : (m : Res SliceHeader) → read_header t n (body_bits (take near unit) 0) ≡ m → Filled m a b w → Filled (read_header t n (body_bits unit 0)) a b w
      go (got h d) q g = let y : Err x ≡ Ok (record { at = d }) = sym e ∙ g.0 in absurd (let z : ◌≡◌ {A = ℕ} 0 1 = cc in omega arith)
      go (no y) q g =
          let v : Err x ≡ Err y = sym e ∙ g in
          let r : x ≡ y = cc in
          filled-as a b w (whole_is t n unit ∙ near-no t n (body_bits (take near unit) 0) (behind_bits unit 0 near) y q (not_five y (rw r at u)) (not-22 y (rw r at u))) g

  -- a unit that has no more bytes
  pub tried-short : length unit ≤ near → Filled (read_header t n (body_bits (take near unit) 0)) a b w → Filled (read_header t n (body_bits unit 0)) a b w
  tried-short l f = filled-as a b w (ap (λ (u : List ℕ). read_header t n (body_bits u 0)) (sym (take_all near unit l))) f

  -- reading the whole over what was left
  pub tried-far : Kept (λ r. read_header t n (body_bits (take near unit) 0 ++ r)) b w → (v : HeaderWords) → Filled (read_header t n (body_bits unit 0)) a w v → Filled (read_header t n (body_bits unit 0)) a b v
  unfolding Filled Kept
  tried-far k v f = go Whole refl f
    where
      go : (m : Res SliceHeader) → read_header t n (body_bits unit 0) ≡ m → Filled m a w v → Filled (read_header t n (body_bits unit 0)) a b v
      go (got h d) q g = rw q (g.0, g.1 ∙ k (behind_bits unit 0 near) h d (sym (whole_is t n unit) ∙ q))
      go (no x) q g = rw q g

-- a start behind the unit's end
pub start-end : (unit : List ℕ) (from : ℕ) → length unit ≤ from → drop (length unit) unit ≡ drop from unit
start-end unit from h = drop_of_length-le unit {i = length unit} (omega arith) ∙ sym (drop_of_length-le unit {i = from} h)

-- the unit's bytes from a start on
pub part-is : (unit : List ℕ) (start from : ℕ) → (start ≤ length unit) × (drop start unit ≡ drop from unit) → take (length unit - start) (drop start unit) ≡ drop from unit
part-is unit start from h = take_all (length unit - start) (drop start unit) (omega (arith, length-drop start unit)) ∙ h.1
